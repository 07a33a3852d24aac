-- SPDX-License-Identifier: Apache-2.0
-- SPDX-FileCopyrightText: Copyright the Vortex contributors

use Rattle.dtype_text.proofs.Iteration.{none_of}
use Rattle.dtype_types.proofs.lemmas.Tags.{told_by_test}
use Rattle.dtype_types.specs.parts.Lists.{borrowed_pair, borrowed_triple}
use Rattle.std.proofs.Common.{true, ◌++◌, codes, ap, sym, subst, ◌∙◌}
use Rattle.std.specs.Prelude.{string_bytes}
use Rattle.std.specs.List.{join_by}
use Rattle.dtype_types.specs.tree.Tree.{fields, variants}
use Rattle.dtype_types.specs.tree.TreeOf.{map_shown, fields_of, variants_of, variant_list, with_trees, with_tagged_trees}
use Rattle.dtype_types.specs.texts.Text.{bool_text}
use Rattle.dtype_text.specs.Grammar.{ItemsAreTexts}
use Rattle.dtype_text.specs.Source.{source, map_source, fields_source, variants_source, item_sources}
use Rattle.dtype_text.proofs.Parts.{all_written, joined, five}
use Rattle.dtype_text.proofs.writer.+written.Goals as goal

pub write_fields-returns-clause-written : goal.write_fields-returns-clause-written
unfolding fields_source
write_fields-returns-clause-written t c =
    let before = string_bytes c.args.out.now in
    let parts = item_sources true (fields_of c.args.fields.now) in
    let none = none_of borrowed_pair c.loop-name.name-iterator c.next.new.self c.next.result c.in-None.is c.next.ensures.steps in
    let so_far = all_written (codes ", ") c.loop-name.separator.now (string_bytes c.loop-name.out) _ _ c.loop-name.invariant.written (ap (λ qs. item_sources true (fields (with_trees qs))) none) in
    c.in_ok-push_str-4.ensures.bytes ∙ ap (λ xs. xs ++ codes "}") so_far ∙ joined before (string_bytes c.push_str.new.self) (codes "{") (codes "}") parts c.in_ok-push_str.ensures.bytes

pub write_union-returns-clause-written : goal.write_union-returns-clause-written
unfolding variants_source
write_union-returns-clause-written t c =
    let before = string_bytes c.args.out.now in
    let vs = variants_of c.args.variants.now in
    let known = c.is_consecutive-is_consecutive.result in
    let parts = item_sources known vs in
    let none = none_of borrowed_triple c.loop-name.name-iterator c.next.new.self c.next.result c.in-None.is c.next.ensures.steps in
    let so_far = all_written (codes ", ") c.loop-name.separator.now (string_bytes c.loop-name.out) _ _ c.loop-name.invariant.written (ap (λ qs. item_sources known (variants (with_tagged_trees qs))) none) in
    c.in_ok-push_str-3.ensures.bytes ∙ ap (λ xs. xs ++ codes ")") so_far ∙ joined before (string_bytes c.push_str.new.self) (codes "union(") (codes ")") parts c.in_ok-push_str.ensures.bytes
    ∙ ap (λ k. before ++ (codes "union(" ++ (join_by (λ t. t) (codes ", ") (item_sources k vs) ++ codes ")"))) (told_by_test (variant_list c.args.variants.now) known c.is_consecutive-is_consecutive.ensures)

pub write_map-returns-clause-written : goal.write_map-returns-clause-written
unfolding map_source
write_map-returns-clause-written t c =
    let m = map_shown c.args.map.now in
    five _ _ _ _ _ _ (codes "map(") (source m.0) (codes ", ") (source m.1) (codes ", keys_sorted=" ++ (bool_text m.2 ++ codes ")"))
    c.in_ok-push_str.ensures.bytes
    (c.in_ok-write_dtype.ensures.written ∙ ap (λ t'. string_bytes c.push_str.new.self ++ source t') c.key_dtype.ensures)
    c.in_ok-push_str-2.ensures.bytes
    (c.in_ok-write_dtype-2.ensures.written ∙ ap (λ t'. string_bytes c.push_str-2.new.self ++ source t') c.value_dtype.ensures)
    (c.in_ok-write.ensures.bytes ∙ ap (λ b. string_bytes c.write_dtype-2.new.out ++ (codes ", keys_sorted=" ++ (bool_text b ++ codes ")"))) c.keys_sorted-keys_sorted.ensures)

pub write_fields-returns-clause-texts : goal.write_fields-returns-clause-texts
write_fields-returns-clause-texts t c =
    let none = none_of borrowed_pair c.loop-name.name-iterator c.next.new.self c.next.result c.in-None.is c.next.ensures.steps in
    c.loop-name.invariant.texts (subst (λ qs. ItemsAreTexts (fields (with_trees qs))) (sym none) tt)

pub write_union-returns-clause-texts : goal.write_union-returns-clause-texts
write_union-returns-clause-texts t c =
    let none = none_of borrowed_triple c.loop-name.name-iterator c.next.new.self c.next.result c.in-None.is c.next.ensures.steps in
    c.loop-name.invariant.texts (subst (λ qs. ItemsAreTexts (variants (with_tagged_trees qs))) (sym none) tt)
