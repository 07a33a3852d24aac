-- SPDX-License-Identifier: Apache-2.0
-- SPDX-FileCopyrightText: Copyright the Vortex contributors

use Rattle.std.proofs.Common.{◌≡◌, ◌≤◌, ◌++◌, ℕ, List, [], codes, true}
use Rattle.std.specs.Fmt.{HasWritten, IsPlainFormatter}
use denote.Shadow.{shadow}
use denote.Text.{Utf8}
use denote.Param.Weighed.{most}
use Rattle.dtype_types.proofs.Texts.{leading}
use Rattle.dtype_types.specs.parts.Lookups.{variant_tags}
use Rattle.dtype_types.specs.parts.Unions.{are_consecutive}
use Rattle.dtype_types.specs.texts.Text.{item_texts}
use Rattle.dtype_types.specs.tree.Tree.{fields, variants, triples}
use Rattle.dtype_types.specs.tree.TreeOf.{struct_pairs, fields_of, union_triples, variants_of, with_trees, with_tagged_trees}
use Rattle.std.specs.Map.{values_of}
use Rattle.dtype_types.specs.parts.Lists.{types_of}
use Rattle.dtype_types.specs.declared.dtype.DType.{size-DType}
use Rattle.dtype_types.proofs.+text.Given as goal

-- the output so far, followed by the text of the parts that are left, is the whole text; those parts are no deeper
abbrev pub invariant-struct_fields::StructFieldsDisplay::fmt-loop-name : goal.invariant-struct_fields::StructFieldsDisplay::fmt-loop-name
invariant-struct_fields::StructFieldsDisplay::fmt-loop-name g l = record {
  utf8 : shadow (Utf8 l.separator);
  within : most size-DType (values_of l.name-iterator) ≤ most size-DType (values_of (struct_pairs l.self));
  written : IsPlainFormatter l.initial.f → (done : List ℕ) × HasWritten g.W.Write.write_str_gives l.initial.f done l.f
      × (done ++ leading l.separator (codes ", ") (item_texts true (fields (with_trees l.name-iterator))) ≡ leading [] (codes ", ") (item_texts true (fields_of l.self)));
}

abbrev pub invariant-union_variants::UnionVariantsDisplay::fmt-loop-name : goal.invariant-union_variants::UnionVariantsDisplay::fmt-loop-name
invariant-union_variants::UnionVariantsDisplay::fmt-loop-name g l = record {
  utf8 : shadow (Utf8 l.separator);
  within : most size-DType (types_of l.name-iterator) ≤ most size-DType (types_of (union_triples l.self));
  written : IsPlainFormatter l.initial.f → (done : List ℕ) × HasWritten g.W.Write.write_str_gives l.initial.f done l.f
      × (done ++ leading l.separator (codes ", ") (item_texts (are_consecutive (variant_tags (triples (variants_of l.self)))) (variants (with_tagged_trees l.name-iterator))) ≡ leading [] (codes ", ") (item_texts (are_consecutive (variant_tags (triples (variants_of l.self)))) (variants_of l.self)));
}
