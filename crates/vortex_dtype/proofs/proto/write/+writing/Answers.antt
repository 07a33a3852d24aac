-- SPDX-License-Identifier: Apache-2.0
-- SPDX-FileCopyrightText: Copyright the Vortex contributors

use Rattle.std.proofs.Common.{ap, arith}
use Rattle.dtype_types.specs.tree.TreeOf.{children, variant_list}
use Rattle.vortex_dtype.proofs.WrittenParts.{flag_is, weight_all, written_fields, written_variants}
use Rattle.vortex_dtype.proofs.proto.write.+writing.Goals as goal

pub write_struct-write_all-requires : goal.write_struct-write_all-requires
write_struct-write_all-requires t c = (omega (arith, ap weight_all c.fields.ensures.all, (written_fields (children c.args.fields.now)).2), tt)

pub write_struct-returns : goal.write_struct-returns
write_struct-returns t c =
    let of_fields = written_fields (children c.args.fields.now) in
    cc (c.struct_proto.ensures, c.in_ok-names.ensures, c.names.ensures, c.in_ok-dtypes.ensures, c.fields.ensures.all, of_fields.0, of_fields.1, flag_is _ _ c.is_nullable.ensures)

pub write_union-write_all-requires : goal.write_union-write_all-requires
write_union-write_all-requires t c = (omega (arith, ap weight_all c.variants.ensures.all, (written_variants (variant_list c.args.variants.now)).3), tt)

pub write_union-returns : goal.write_union-returns
write_union-returns t c =
    let of_variants = written_variants (variant_list c.args.variants.now) in
    cc (
      c.union_proto.ensures,
      c.in_ok-names.ensures,
      c.names.ensures,
      c.in_ok-dtypes.ensures,
      c.variants.ensures.all,
      c.in_ok-tags.ensures,
      c.type_ids.ensures,
      of_variants.0,
      of_variants.1,
      of_variants.2,
      flag_is _ _ c.is_nullable.ensures,
    )
