-- SPDX-License-Identifier: Apache-2.0
-- SPDX-FileCopyrightText: Copyright the Vortex contributors

use Rattle.std.proofs.Common.{◌≡◌, ◌++◌, codes, [], ap, ◌∙◌, arith, append_assoc, rules}
use Rattle.std.specs.Prelude.{string_bytes}
use denote.Param.Weighed.{most}
use Rattle.dtype_base.specs.Escapes.{escaped}
use Rattle.dtype_base.specs.Nullability.{nullability_text}
use Rattle.dtype_types.proofs.Walks.{no_deeper, next_of, none_of}
use Rattle.dtype_types.proofs.Texts.{leading, leading_all, one_written, all_written, indented_struct, ends_some, ends_none, braces_of}
use Rattle.dtype_types.specs.texts.IndentedText.{indented, indented_braces, indented_fields}
use Rattle.std.specs.List.{join_by}
use Rattle.dtype_types.specs.tree.Tree.{fields}
use Rattle.dtype_types.specs.tree.TreeOf.{tree, children, struct_pairs, fields_of, with_trees}
use Rattle.std.specs.Map.{values_of}
use Rattle.dtype_types.specs.parts.Lists.{borrowed_pair}
use Rattle.dtype_types.specs.declared.dtype.DType.{size-DType}
use Rattle.dtype_types.proofs.+indented.Goals as goal
use Rattle.dtype_types.proofs.+indented.Goals.{struct_fields::StructFields::write_indented-then-nfields-gt0+in_ok-push_str-2, struct_fields::StructFields::write_indented-else-nfields-gt0}

pub dtype::DType::write_indented-returns-in_ok-write-in-Struct-clause-written : goal.dtype::DType::write_indented-returns-in_ok-write-in-Struct-clause-written
dtype::DType::write_indented-returns-in_ok-write-in-Struct-clause-written t c =
    let e = indented_struct c.args.indent.now c.in-Struct.fields c.in-Struct.n c.args.self.now c.in-Struct.is in
    let before = string_bytes c.args.out.now in
    c.in_ok-write-in-Struct.ensures.bytes ∙ ap (λ xs. xs ++ nullability_text c.in-Struct.n) c.in_ok-write_indented-in-Struct.ensures.written ∙ append_assoc before (indented_braces c.args.indent.now (fields_of c.in-Struct.fields)) (nullability_text c.in-Struct.n) ∙ ap (λ xs. before ++ xs) e

pub struct_fields::StructFields::write_indented-loop-name-preserved : goal.struct_fields::StructFields::write_indented-loop-name-preserved
struct_fields::StructFields::write_indented-loop-name-preserved t c =
    let inner = c.args.indent.now ++ codes "  " in
    let n = escaped c.in-Some.name.now in
    let d = indented inner (tree c.in-Some.dtype.now) in
    let separator = c.loop-name.separator.now in
    let start = string_bytes c.loop-name.out in
    let x = inner ++ (n ++ (codes "=" ++ d)) in
    let next = next_of borrowed_pair c.loop-name.name-iterator c.next.new.self c.next.result (c.in-Some.name, c.in-Some.dtype) c.in-Some.is c.next.ensures.steps in
    let ended : string_bytes c.write_indented.new.out ≡ start ++ (separator ++ x) =
    c.in_ok-write_indented.ensures.written
    ∙ ap (λ a. string_bytes c.start_field.new.out ++ indented a (tree c.in-Some.dtype.now)) (c.as_str-in-loop-name.ensures.value ∙ c.in_ok-inner.ensures.ok)
    ∙ ap (λ xs. xs ++ d) (c.in_ok-start_field.ensures.written ∙ ap (λ xs. start ++ (separator ++ (xs ++ (n ++ codes "=")))) (c.as_str.ensures.value ∙ c.in_ok-inner.ensures.ok))
    ∙ simp append_assoc in
    let rest = indented_fields inner (fields (with_trees c.next.new.self)) in record {
      utf8 = search rules;
      within = no_deeper (most size-DType (values_of (struct_pairs c.args.self.now))) (values_of c.loop-name.name-iterator) (values_of c.next.new.self) c.in-Some.dtype.now (ap values_of next) c.loop-name.invariant.within;
      written = ap (λ xs. xs ++ leading (codes ",\n") (codes ",\n") rest) ended ∙ one_written (codes ",\n") separator start _ x _ rest c.loop-name.invariant.written (ap (λ ps. indented_fields inner (fields (with_trees ps))) next);
    }

pub struct_fields::StructFields::write_indented-returns-clause-written : goal.struct_fields::StructFields::write_indented-returns-clause-written
struct_fields::StructFields::write_indented-returns-clause-written t c =
    let s = c.args.self.now in
    let ps = children s in
    let before = string_bytes c.args.out.now in
    let indent = c.args.indent.now in
    let parts = indented_fields (indent ++ codes "  ") (fields_of s) in
    let close = indent ++ codes "}" in
    let none = none_of borrowed_pair c.loop-name.name-iterator c.next.new.self c.next.result c.in-None.is c.next.ensures.steps in
    let so_far = all_written (codes ",\n") c.loop-name.separator.now (string_bytes c.loop-name.out) _ _ c.loop-name.invariant.written (ap (λ qs. indented_fields (indent ++ codes "  ") (fields (with_trees qs))) none)
    ∙ ap (λ xs. string_bytes c.push_str.new.self ++ xs) (leading_all (codes ",\n") parts) ∙ ap (λ xs. xs ++ join_by (λ t. t) (codes ",\n") parts) c.in_ok-push_str.ensures.bytes in
    let written = c.in_ok-write.ensures.bytes in
    elim c.if-nfields-gt0.branch [
      | struct_fields::StructFields::write_indented-then-nfields-gt0+in_ok-push_str-2 w ↦
          written ∙ ap (λ xs. xs ++ close) (ap (λ z. string_bytes z) w.out-is ∙ w.in_ok-push_str-2.ensures.bytes)
          ∙ append_assoc (string_bytes c.loop-name.out) (codes "\n") close ∙ ap (λ xs. xs ++ (codes "\n" ++ close)) so_far
          ∙ braces_of before indent ps (codes "\n") (ends_some ps (omega arith))
      | struct_fields::StructFields::write_indented-else-nfields-gt0 w ↦
          written ∙ ap (λ xs. xs ++ close) (ap (λ z. string_bytes z) w.out-is) ∙ ap (λ xs. xs ++ close) so_far
          ∙ braces_of before indent ps [] (ends_none ps (omega arith))
    ]
