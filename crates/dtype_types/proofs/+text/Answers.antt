-- SPDX-License-Identifier: Apache-2.0
-- SPDX-FileCopyrightText: Copyright the Vortex contributors

use Rattle.std.proofs.Common.{append_assoc, codes, ap, ◌∙◌, ◌++◌, [], refl, rules, true}
use Rattle.dtype_base.specs.Escapes.{escaped}
use denote.Param.Weighed.{most}
use Rattle.std.proofs.Output.{has_written_of_eq}
use Rattle.std.proofs.lemmas.Grind.{put_three}
use Rattle.dtype_types.proofs.lemmas.Tags.{told_by_test}
use Rattle.dtype_types.proofs.Walks.{no_deeper, next_of, none_of}
use Rattle.dtype_types.proofs.Texts.{leading, leading_all, one_written, all_written, tagged_text}
use Rattle.dtype_types.specs.tree.Tree.{fields, variants, triples}
use Rattle.dtype_types.specs.parts.Lookups.{variant_tags}
use Rattle.dtype_types.specs.parts.Unions.{are_consecutive}
use Rattle.dtype_types.specs.texts.Text.{text, item_texts, tag_text}
use Rattle.std.specs.Map.{values_of}
use Rattle.dtype_types.specs.parts.Lists.{types_of, borrowed_pair, borrowed_triple}
use Rattle.dtype_types.specs.tree.TreeOf.{variant_list, struct_pairs, fields_of, union_triples, variants_of, tree, with_trees, with_tagged_trees}
use Rattle.dtype_types.specs.declared.dtype.DType.{size-DType}
use Rattle.dtype_types.specs.texts.TextOf.{struct_text, union_text}
use Rattle.dtype_types.proofs.+text.Goals as goal

pub struct_fields::StructFieldsDisplay::fmt-loop-name-init : goal.struct_fields::StructFieldsDisplay::fmt-loop-name-init
struct_fields::StructFieldsDisplay::fmt-loop-name-init g t c = record {
  utf8 = search rules;
  within = search rules;
  written = λ plain. ([], search rules, ap (λ ps. leading [] (codes ", ") (item_texts true (fields (with_trees ps)))) (search rules));
}

pub struct_fields::StructFieldsDisplay::fmt-loop-name-preserved : goal.struct_fields::StructFieldsDisplay::fmt-loop-name-preserved
struct_fields::StructFieldsDisplay::fmt-loop-name-preserved g t c = let next = next_of borrowed_pair c.loop-name.name-iterator c.next.new.self c.next.result (c.in-Some.name, c.in-Some.dtype) c.in-Some.is c.next.ensures.steps in record {
  utf8 = search rules;
  within = no_deeper (most size-DType (values_of (struct_pairs c.args.self.now))) (values_of c.loop-name.name-iterator) (values_of c.next.new.self) c.in-Some.dtype.now (ap values_of next) c.loop-name.invariant.within;
  written = λ plain.
      let n = escaped c.in-Some.name.now in
      let d = text (tree c.in-Some.dtype.now) in
      let separator = c.loop-name.separator.now in
      let so_far = c.loop-name.invariant.written plain in
      let named = c.in_ok-write-2.ensures.writes so_far.1.plain refl in
      let typed = c.in_ok-fmt.ensures.writes named.plain refl in
      let x = n ++ (codes "=" ++ d) in (
        so_far.0 ++ (separator ++ x),
        put_three _ _ c.loop-name.f _ _ so_far.0 (separator ++ (n ++ codes "=")) d _ so_far.1 named typed (simp append_assoc),
        one_written (codes ", ") separator so_far.0 _ x _ _ so_far.2 (ap (λ ps. item_texts true (fields (with_trees ps))) next),
      );
}

pub struct_fields::StructFieldsDisplay::fmt-returns-clause-writes : goal.struct_fields::StructFieldsDisplay::fmt-returns-clause-writes
unfolding struct_text
struct_fields::StructFieldsDisplay::fmt-returns-clause-writes g t c = λ plain ok.
    let opened = c.in_ok-write.ensures.writes plain refl in
    let so_far = c.loop-name.invariant.written opened.plain in
    let closed = c.write-2.ensures.writes so_far.1.plain ok in
    let none = none_of borrowed_pair c.loop-name.name-iterator c.next.new.self c.next.result c.in-None.is c.next.ensures.steps in
    let all = all_written (codes ", ") c.loop-name.separator.now so_far.0 _ _ so_far.2 (ap (λ ps. item_texts true (fields (with_trees ps))) none) ∙ leading_all (codes ", ") (item_texts true (fields_of c.args.self.now)) in
    put_three _ _ c.write.new.self c.loop-name.f _ (codes "{") so_far.0 (codes "}") _ opened so_far.1 closed (ap (λ xs. codes "{" ++ (xs ++ codes "}")) all)

pub union_variants::UnionVariantsDisplay::fmt-loop-name-init : goal.union_variants::UnionVariantsDisplay::fmt-loop-name-init
union_variants::UnionVariantsDisplay::fmt-loop-name-init g t c = record {
  utf8 = search rules;
  within = search rules;
  written = λ plain.
      let k = are_consecutive (variant_tags (triples (variants_of c.args.self.now))) in
      ([], search rules, ap (λ ps. leading [] (codes ", ") (item_texts k (variants (with_tagged_trees ps)))) (search rules));
}

pub union_variants::UnionVariantsDisplay::fmt-loop-name-preserved : goal.union_variants::UnionVariantsDisplay::fmt-loop-name-preserved
union_variants::UnionVariantsDisplay::fmt-loop-name-preserved g t c = let next = next_of borrowed_triple c.loop-name.name-iterator c.next.new.self c.next.result (c.in-Some.name, c.in-Some.tag, c.in-Some.dtype) c.in-Some.is c.next.ensures.steps in record {
  utf8 = search rules;
  within = no_deeper (most size-DType (types_of (union_triples c.args.self.now))) (types_of c.loop-name.name-iterator) (types_of c.next.new.self) c.in-Some.dtype.now (ap types_of next) c.loop-name.invariant.within;
  written = λ plain.
      let k = are_consecutive (variant_tags (triples (variants_of c.args.self.now))) in
      let n = escaped c.in-Some.name.now in
      let d = text (tree c.in-Some.dtype.now) in
      let tag = c.in-Some.tag in
      let separator = c.loop-name.separator.now in
      let so_far = c.loop-name.invariant.written plain in
      let named = c.in_ok-write.ensures.writes so_far.1.plain refl in
      let typed = c.in_ok-fmt.ensures.writes named.plain refl in
      let x = n ++ (tag_text k tag ++ (codes "=" ++ d)) in
      let known = c.is_consecutive-consecutive.result in (
        so_far.0 ++ (separator ++ x),
        put_three _ _ c.loop-name.f _ _ so_far.0 (separator ++ (n ++ (tag_text known tag ++ codes "="))) d _ so_far.1 named typed (tagged_text so_far.0 separator n d tag known k (told_by_test (variant_list c.args.self.now) known c.is_consecutive-consecutive.ensures)),
        one_written (codes ", ") separator so_far.0 _ x _ _ so_far.2 (ap (λ ps. item_texts k (variants (with_tagged_trees ps))) next),
      );
}

pub union_variants::UnionVariantsDisplay::fmt-returns-clause-writes : goal.union_variants::UnionVariantsDisplay::fmt-returns-clause-writes
unfolding union_text
union_variants::UnionVariantsDisplay::fmt-returns-clause-writes g t c = λ plain ok.
    let k = are_consecutive (variant_tags (triples (variants_of c.args.self.now))) in
    let so_far = c.loop-name.invariant.written plain in
    let none = none_of borrowed_triple c.loop-name.name-iterator c.next.new.self c.next.result c.in-None.is c.next.ensures.steps in
    let all = all_written (codes ", ") c.loop-name.separator.now so_far.0 _ _ so_far.2 (ap (λ ps. item_texts k (variants (with_tagged_trees ps))) none) ∙ leading_all (codes ", ") (item_texts k (variants_of c.args.self.now)) in
    has_written_of_eq _ _ _ _ _ all so_far.1
