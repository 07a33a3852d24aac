-- SPDX-License-Identifier: Apache-2.0
-- SPDX-FileCopyrightText: Copyright the Vortex contributors

use Rattle.std.proofs.Common.{◌++◌, [], ◌∷◌, Some, get_or, map, ap, ◌∙◌, arith}
use Rattle.std.proofs.lemmas.List.{get_or_default, map_push}
use Rattle.std.specs.Map.{values_of}
use Rattle.dtype_types.specs.tree.TreeOf.{struct_pairs, tree}
use Rattle.dtype_types.proofs.Selected.{copies_more, tree_read}
use Rattle.dtype_types.proofs.struct_fields.StructFields.copies_at.Goals as goal

pub loop-position-preserved : goal.loop-position-preserved
loop-position-preserved c =
    let ds = values_of (struct_pairs c.args.self.now) in
    let positions = c.args.positions.now in
    let copies = c.loop-position.copies.items in
    let k = c.loop-position.position-index in
    let within = c.loop-position-test.true in
    let i = get_or positions k 0 in
    let d = c.index-dtypes-position.result in
    let read = c.index-dtypes-position.is ∙ ap (λ xs. get_or xs i d) c.dtypes-dtypes.ensures in
    let inv = c.loop-position.invariant in record {
      each = ap (λ xs. map Some (map tree xs)) c.push_reserved.ensures.items
          ∙ ap (map Some) (map_push tree copies c.in_ok-try_clone.field-0)
          ∙ ap (λ t. map Some (map tree copies ++ t ∷ [])) c.in_ok-try_clone.ensures
          ∙ copies_more (map tree ds) (map tree copies) positions k i (tree d) within (get_or_default positions k 0 i within) (tree_read ds i d (c.requires k 0 within) read) inv.each;
      len = omega (arith, c.push_reserved.ensures.len, inv.len);
      room = omega (arith, c.push_reserved.ensures.capacity, inv.room);
    }
