-- SPDX-License-Identifier: Apache-2.0
-- SPDX-FileCopyrightText: Copyright the Vortex contributors

use Rattle.std.proofs.Common.{◌≡◌, ◌≤◌, fold}
use denote.Param.Weighed.{most}
use Rattle.dtype_types.specs.equality.Hashes.{item_writes}
use Rattle.std.specs.Map.{values_of}
use Rattle.dtype_types.specs.parts.Lists.{types_of}
use Rattle.dtype_types.specs.tree.Tree.{fields, variants}
use Rattle.dtype_types.specs.tree.TreeOf.{struct_pairs, fields_of, union_triples, variants_of, with_trees, with_tagged_trees}
use Rattle.dtype_types.specs.declared.dtype.DType.{size-DType}
use Rattle.dtype_types.proofs.+hash.Given as goal

-- the writes so far, followed by those of the fields that are left, are those of all fields; those left are no deeper
abbrev pub invariant-struct_fields::StructFields::hash_into-loop-name : goal.invariant-struct_fields::StructFields::hash_into-loop-name
invariant-struct_fields::StructFields::hash_into-loop-name g l = record {
  fed : fold g.H.Hasher.write l.initial.state (item_writes l.mode (fields_of l.self)) ≡ fold g.H.Hasher.write l.state (item_writes l.mode (fields (with_trees l.name-iterator)));
  within : most size-DType (values_of l.name-iterator) ≤ most size-DType (values_of (struct_pairs l.self));
}

abbrev pub invariant-union_variants::UnionVariants::hash_into-loop-name : goal.invariant-union_variants::UnionVariants::hash_into-loop-name
invariant-union_variants::UnionVariants::hash_into-loop-name g l = record {
  fed : fold g.H.Hasher.write l.initial.state (item_writes l.mode (variants_of l.self)) ≡ fold g.H.Hasher.write l.state (item_writes l.mode (variants (with_tagged_trees l.name-iterator)));
  within : most size-DType (types_of l.name-iterator) ≤ most size-DType (types_of (union_triples l.self));
}
