-- SPDX-License-Identifier: Apache-2.0
-- SPDX-FileCopyrightText: Copyright the Vortex contributors

use Rattle.std.proofs.Common.{◌≡◌, ◌≤◌, ◌++◌, [], codes}
use Rattle.std.specs.Prelude.{string_bytes}
use denote.Shadow.{shadow}
use denote.Text.{Utf8}
use denote.Param.Weighed.{most}
use Rattle.dtype_types.proofs.Texts.{leading}
use Rattle.dtype_types.specs.texts.IndentedText.{indented_fields}
use Rattle.dtype_types.specs.tree.Tree.{fields}
use Rattle.dtype_types.specs.tree.TreeOf.{struct_pairs, fields_of, with_trees}
use Rattle.std.specs.Map.{values_of}
use Rattle.dtype_types.specs.declared.dtype.DType.{size-DType}
use Rattle.dtype_types.proofs.+indented.Given as goal

-- the output so far, followed by the text of the fields that are left, is the whole text; those fields are no deeper
abbrev pub invariant-struct_fields::StructFields::write_indented-loop-name : goal.invariant-struct_fields::StructFields::write_indented-loop-name
invariant-struct_fields::StructFields::write_indented-loop-name l = record {
  utf8 : shadow (Utf8 l.separator);
  within : most size-DType (values_of l.name-iterator) ≤ most size-DType (values_of (struct_pairs l.self));
  written : string_bytes l.out ++ leading l.separator (codes ",\n") (indented_fields (l.fn.indent ++ codes "  ") (fields (with_trees l.name-iterator)))
      ≡ string_bytes l.initial.out ++ leading [] (codes ",\n") (indented_fields (l.fn.indent ++ codes "  ") (fields_of l.self));
}
