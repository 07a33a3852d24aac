-- SPDX-License-Identifier: Apache-2.0
-- SPDX-FileCopyrightText: Copyright the Vortex contributors

use Rattle.std.proofs.Common.{◌≡◌, ◌≢◌, ◌∙◌, ◌&&◌, ◌++◌, [], ◌∷◌, true, false, Some, None, inl, inr, length, map, ap, subst, sym, rules, arith}
use Rattle.std.specs.Iterator.Adapters.{zip_first, zip_second}
use Rattle.std.specs.List.{zip}
use Rattle.std.specs.Option.{option_map}
use Rattle.std.proofs.lemmas.List.{length-map}
use Rattle.std.proofs.lemmas.Slice.Eq.{bytes_eq-Decides}
use Rattle.dtype_base.specs.Errors.{Makes}
use Rattle.dtype_types.specs.nullability.Nullable.{IsNullable}
use Rattle.dtype_types.specs.parts.Lookups.{field_names, field_types, first_named}
use Rattle.dtype_types.specs.parts.FieldTypes.{field_tree}
use Rattle.dtype_types.specs.tree.Tree.{pairs}
use Rattle.dtype_types.specs.tree.TreeOf.{children, map_shown, shown, tree, variants_of}
use Rattle.dtype_merging.specs.MergedColumns.{column, columns_merged, no_repeats, variant_type}
use Rattle.dtype_merging.specs.ReadsAs.{keyed}
use Rattle.dtype_merging.specs.private.Collected.{types_merged}
use Rattle.dtype_merging.proofs.Collecting.{keys_nullable, lighter, merged_more, merged_stops, structs_by_name, structs_by_position}
use Rattle.dtype_merging.proofs.Ordered.{fields_count, fields_weigh, left_done, right_done, struct_apart, struct_made, struct_unmade, told_alike, told_apart, weight_all}
use Rattle.dtype_merging.proofs.Tagging.{tagged_all, tagged_more, tagged_stops, variants_lighter}
use Rattle.dtype_merging.proofs.Apart.{other_kind, others_apart, plain_others}
use Rattle.dtype_types.specs.declared.dtype.DType.{fold_out-DType, fold-roll-DType, the_lemmas}
use Rattle.dtype_types.specs.declared.dtype.kinds.Kind.TheVariants as variants
use Rattle.dtype_types.specs.tree.Kinds.{kind}
use Rattle.dtype_merging.proofs.merge.+merging.Goals as goal
use Rattle.dtype_merging.proofs.merge.+merging.Goals.{merge-in_default-via-in-Primitive+in_default, merge-in_default-via-in-Decimal+in_default, merge-in_default-via-in-List+in_default, merge-in_default-via-in-FixedSizeList+in_default, merge-in_default-via-in-Map+in_default, merge-in_default-via-in-Struct+in_default, merge-in_default-via-in-Union+in_default, merge-in_default-via-in-Extension+in_default, merge-in_default-via-in_default}

pub merge-returns-in_default : goal.merge-returns-in_default
merge-returns-in_default t c = elim c.in_default.branch [
  | merge-in_default-via-in-Primitive+in_default w ↦
      let k : kind (tree c.args.a.now) ≡ variants.Primitive = search (rules, the_lemmas, fold_out-DType, fold-roll-DType, w.in_default.is-0) in
      let n : kind (tree c.args.b.now) ≢ variants.Primitive = search (rules, the_lemmas, fold_out-DType, fold-roll-DType, w.in_default.not-Primitive-1) in
      subst (λ z. Makes c.merge_others.result (λ r. option_map tree r ≡ z)) (sym (others_apart c.args.widening (tree c.args.a.now) (tree c.args.b.now) (λ e. n (sym e ∙ k)))) c.merge_others.ensures
  | merge-in_default-via-in-Decimal+in_default w ↦
      let k : kind (tree c.args.a.now) ≡ variants.Decimal = search (rules, the_lemmas, fold_out-DType, fold-roll-DType, w.in_default.is-0) in
      let n : kind (tree c.args.b.now) ≢ variants.Decimal = search (rules, the_lemmas, fold_out-DType, fold-roll-DType, w.in_default.not-Decimal-1) in
      subst (λ z. Makes c.merge_others.result (λ r. option_map tree r ≡ z)) (sym (others_apart c.args.widening (tree c.args.a.now) (tree c.args.b.now) (λ e. n (sym e ∙ k)))) c.merge_others.ensures
  | merge-in_default-via-in-List+in_default w ↦
      let k : kind (tree c.args.a.now) ≡ variants.List = search (rules, the_lemmas, fold_out-DType, fold-roll-DType, w.in_default.is-0) in
      let n : kind (tree c.args.b.now) ≢ variants.List = search (rules, the_lemmas, fold_out-DType, fold-roll-DType, w.in_default.not-List-1) in
      subst (λ z. Makes c.merge_others.result (λ r. option_map tree r ≡ z)) (sym (others_apart c.args.widening (tree c.args.a.now) (tree c.args.b.now) (λ e. n (sym e ∙ k)))) c.merge_others.ensures
  | merge-in_default-via-in-FixedSizeList+in_default w ↦
      let k : kind (tree c.args.a.now) ≡ variants.FixedSizeList = search (rules, the_lemmas, fold_out-DType, fold-roll-DType, w.in_default.is-0) in
      let n : kind (tree c.args.b.now) ≢ variants.FixedSizeList = search (rules, the_lemmas, fold_out-DType, fold-roll-DType, w.in_default.not-FixedSizeList-1) in
      subst (λ z. Makes c.merge_others.result (λ r. option_map tree r ≡ z)) (sym (others_apart c.args.widening (tree c.args.a.now) (tree c.args.b.now) (λ e. n (sym e ∙ k)))) c.merge_others.ensures
  | merge-in_default-via-in-Map+in_default w ↦
      let k : kind (tree c.args.a.now) ≡ variants.Map = search (rules, the_lemmas, fold_out-DType, fold-roll-DType, w.in_default.is-0) in
      let n : kind (tree c.args.b.now) ≢ variants.Map = search (rules, the_lemmas, fold_out-DType, fold-roll-DType, w.in_default.not-Map-1) in
      subst (λ z. Makes c.merge_others.result (λ r. option_map tree r ≡ z)) (sym (others_apart c.args.widening (tree c.args.a.now) (tree c.args.b.now) (λ e. n (sym e ∙ k)))) c.merge_others.ensures
  | merge-in_default-via-in-Struct+in_default w ↦
      let k : kind (tree c.args.a.now) ≡ variants.Struct = search (rules, the_lemmas, fold_out-DType, fold-roll-DType, w.in_default.is-0) in
      let n : kind (tree c.args.b.now) ≢ variants.Struct = search (rules, the_lemmas, fold_out-DType, fold-roll-DType, w.in_default.not-Struct-1) in
      subst (λ z. Makes c.merge_others.result (λ r. option_map tree r ≡ z)) (sym (others_apart c.args.widening (tree c.args.a.now) (tree c.args.b.now) (λ e. n (sym e ∙ k)))) c.merge_others.ensures
  | merge-in_default-via-in-Union+in_default w ↦
      let k : kind (tree c.args.a.now) ≡ variants.Union = search (rules, the_lemmas, fold_out-DType, fold-roll-DType, w.in_default.is-0) in
      let n : kind (tree c.args.b.now) ≢ variants.Union = search (rules, the_lemmas, fold_out-DType, fold-roll-DType, w.in_default.not-Union-1) in
      subst (λ z. Makes c.merge_others.result (λ r. option_map tree r ≡ z)) (sym (others_apart c.args.widening (tree c.args.a.now) (tree c.args.b.now) (λ e. n (sym e ∙ k)))) c.merge_others.ensures
  | merge-in_default-via-in-Extension+in_default w ↦
      let k : kind (tree c.args.a.now) ≡ variants.Extension = search (rules, the_lemmas, fold_out-DType, fold-roll-DType, w.in_default.is-0) in
      let n : kind (tree c.args.b.now) ≢ variants.Extension = search (rules, the_lemmas, fold_out-DType, fold-roll-DType, w.in_default.not-Extension-1) in
      subst (λ z. Makes c.merge_others.result (λ r. option_map tree r ≡ z)) (sym (others_apart c.args.widening (tree c.args.a.now) (tree c.args.b.now) (λ e. n (sym e ∙ k)))) c.merge_others.ensures
  | merge-in_default-via-in_default w ↦
      let p : other_kind (kind (tree c.args.a.now)) ≡ true = search (rules, the_lemmas, fold_out-DType, fold-roll-DType, w.in_default.not-Primitive-0, w.in_default.not-Decimal-0, w.in_default.not-List-0, w.in_default.not-FixedSizeList-0, w.in_default.not-Map-0, w.in_default.not-Struct-0, w.in_default.not-Union-0, w.in_default.not-Extension-0) in
      subst (λ z. Makes c.merge_others.result (λ r. option_map tree r ≡ z)) (sym (plain_others c.args.widening (tree c.args.a.now) (tree c.args.b.now) p)) c.merge_others.ensures
]

pub merge-returns-then-have_no_repeats : goal.merge-returns-then-have_no_repeats
merge-returns-then-have_no_repeats t c =
    let of = c.in-Struct-Struct in
    let test : (no_repeats (children of.fields) && no_repeats (children of.others)) ≡ true = sym c.have_no_repeats.ensures ∙ c.if-have_no_repeats.true in
    structs_by_name c.args.widening c.args.a.now c.args.b.now of.fields of.others of.m of.n c.bitor-then-have_no_repeats.result c.merge_structs.result of.is-0 of.is-1 test c.bitor-then-have_no_repeats.ensures c.merge_structs.ensures

pub merge-returns-else-have_no_repeats : goal.merge-returns-else-have_no_repeats
merge-returns-else-have_no_repeats t c =
    let of = c.in-Struct-Struct in
    let test : (no_repeats (children of.fields) && no_repeats (children of.others)) ≡ false = sym c.have_no_repeats.ensures ∙ c.if-have_no_repeats.false in
    structs_by_position c.args.widening c.args.a.now c.args.b.now of.fields of.others of.m of.n c.bitor-else-have_no_repeats.result c.merge_in_order.result of.is-0 of.is-1 test c.bitor-else-have_no_repeats.ensures c.merge_in_order.ensures

pub merge_by_name-loop-name-preserved : goal.merge_by_name-loop-name-preserved
merge_by_name-loop-name-preserved t c =
    let found : shown tree c.field.result ≡ first_named (children c.args.b.now) c.in-Some.name.now = search (rules, c.field.ensures) in
    let made : Some (tree c.in-Some-2.column) ≡ column (tree c.in-Some.dtype.now) (λ u. columns_merged c.args.widening (tree c.in-Some.dtype.now) u) (shown tree c.field.result) = search (rules, c.in_ok-column.ensures, c.in-Some-2.is) in
    let same : field_tree c.from.result ≡ tree c.in-Some-2.column = search (rules, c.from.ensures) in
    let put : c.push.new.self.items ≡ c.loop-name.columns.items ++ (c.in-Some.name.now, c.from.result) ∷ [] = search (rules, c.in_ok-push-in-Some-2.ensures.items, c.in_ok-try_clone-in-Some-2.ensures) in
    record {
      merged = merged_more c.args.widening (children c.args.b.now) c.loop-name.columns.items c.push.new.self.items c.loop-name.name-iterator c.next.new.self c.in-Some.name.now c.in-Some.dtype.now c.in-Some-2.column c.from.result (shown tree c.field.result) _
          c.loop-name.invariant.merged c.in-Some.ensures.steps found made same put;
      within = lighter c.loop-name.name-iterator c.next.new.self c.in-Some.name.now c.in-Some.dtype.now _ c.in-Some.ensures.steps c.loop-name.invariant.within;
    }

pub merge_by_name-returns-in-None-2 : goal.merge_by_name-returns-in-None-2
merge_by_name-returns-in-None-2 t c =
    let found : shown tree c.field.result ≡ first_named (children c.args.b.now) c.in-Some.name.now = search (rules, c.field.ensures) in
    let none : None ≡ column (tree c.in-Some.dtype.now) (λ u. columns_merged c.args.widening (tree c.in-Some.dtype.now) u) (shown tree c.field.result) = search (rules, c.in_ok-column.ensures, c.in-None-2.is) in
    merged_stops c.args.widening (children c.args.b.now) c.loop-name.columns.items c.loop-name.name-iterator c.next.new.self c.in-Some.name.now c.in-Some.dtype.now (shown tree c.field.result) _ c.loop-name.invariant.merged c.in-Some.ensures.steps found none

pub merge_maps-returns-then-is_nullable : goal.merge_maps-returns-then-is_nullable
merge_maps-returns-then-is_nullable t c =
    let a = map_shown c.args.a.now in
    let b = map_shown c.args.b.now in
    let key : Some (tree c.in-Some.key) ≡ columns_merged c.args.widening a.0 b.0 = search (rules, c.in_ok-key.ensures, c.in-Some.is, c.key_dtype.ensures, c.key_dtype-2.ensures) in
    let nulls : IsNullable (tree c.in-Some.key) = search (rules, c.is_nullable.ensures, c.if-is_nullable.true) in
    keys_nullable c.args.widening a b c.args.n (tree c.in-Some.key) key nulls

pub merge_in_order-returns-then-ne : goal.merge_in_order-returns-then-ne
merge_in_order-returns-then-ne t c =
    let one = c.names.result.now in
    let other = c.names-2.result.now in
    struct_apart c.args.widening c.args.n (children c.args.a.now) (children c.args.b.now) (λ e. told_apart bytes_eq-Decides one other c.ne.result c.ne.ensures c.if-ne.true (c.names.ensures ∙ e ∙ sym c.names-2.ensures))

pub merge_in_order-merge_types-requires : goal.merge_in_order-merge_types-requires
merge_in_order-merge_types-requires t c = (omega (arith, ap weight_all c.fields.ensures.all, fields_weigh (children c.args.a.now)), tt)

pub merge_in_order-new-requires : goal.merge_in_order-new-requires
merge_in_order-new-requires t c =
    let ps = children c.args.a.now in
    let qs = children c.args.b.now in
    let items = c.in-Some.dtypes.items in
    let same : field_names ps ≡ field_names qs = sym c.names.ensures ∙ told_alike bytes_eq-Decides c.names.result.now c.names-2.result.now c.ne.result c.ne.ensures c.if-ne.false ∙ c.names-2.ensures in
    let made : Some (map tree items) ≡ types_merged c.args.widening (field_types ps) (field_types qs) = search (rules, c.in_ok-dtypes.ensures, c.in-Some.is, c.fields.ensures.all, c.fields-2.ensures.all) in
    let names : c.in_ok-names-in-Some.names ≡ field_names ps = search (rules, c.in_ok-names-in-Some.ensures, c.names-in-Some.ensures) in
    let count : length items ≡ length (field_names ps) = sym (length-map items tree) ∙ fields_count c.args.widening ps qs (map tree items) made same in
    search (rules, names, count)

pub merge_in_order-returns-in_ok-new-in-Some : goal.merge_in_order-returns-in_ok-new-in-Some
merge_in_order-returns-in_ok-new-in-Some t c =
    let ps = children c.args.a.now in
    let qs = children c.args.b.now in
    let ts = map tree c.in-Some.dtypes.items in
    let same : field_names ps ≡ field_names qs = sym c.names.ensures ∙ told_alike bytes_eq-Decides c.names.result.now c.names-2.result.now c.ne.result c.ne.ensures c.if-ne.false ∙ c.names-2.ensures in
    let made : Some ts ≡ types_merged c.args.widening (field_types ps) (field_types qs) = search (rules, c.in_ok-dtypes.ensures, c.in-Some.is, c.fields.ensures.all, c.fields-2.ensures.all) in
    let names : c.in_ok-names-in-Some.names ≡ field_names ps = search (rules, c.in_ok-names-in-Some.ensures, c.names-in-Some.ensures) in
    struct_made c.args.widening c.in_ok-new-in-Some.field-0 c.args.n ps qs ts same made (c.in_ok-new-in-Some.ensures.ok ∙ ap (λ ns. zip ns ts) names)

pub merge_in_order-returns-in-None : goal.merge_in_order-returns-in-None
merge_in_order-returns-in-None t c =
    let ps = children c.args.a.now in
    let qs = children c.args.b.now in
    let same : field_names ps ≡ field_names qs = sym c.names.ensures ∙ told_alike bytes_eq-Decides c.names.result.now c.names-2.result.now c.ne.result c.ne.ensures c.if-ne.false ∙ c.names-2.ensures in
    let none : None ≡ types_merged c.args.widening (field_types ps) (field_types qs) = search (rules, c.in_ok-dtypes.ensures, c.in-None.is, c.fields.ensures.all, c.fields-2.ensures.all) in
    struct_unmade c.args.widening c.args.n ps qs same none

pub merge_by_tag-loop-name-preserved : goal.merge_by_tag-loop-name-preserved
merge_by_tag-loop-name-preserved t c =
    let gs = keyed (variants_of c.args.b.now) in
    let found : shown tree c.variant_with.result ≡ first_named (pairs gs) (c.in-Some.tag ∷ c.in-Some.name.now) = search (rules, c.variant_with.ensures) in
    let made : Some (tree c.in-Some-2.merged) ≡ variant_type (tree c.in-Some.dtype.now) (λ u. columns_merged c.args.widening (tree c.in-Some.dtype.now) u) (shown tree c.variant_with.result) = search (rules, c.in_ok-merged.ensures, c.in-Some-2.is) in
    let put : c.push.new.self.items ≡ c.loop-name.variants.items ++ (c.in-Some.name.now, c.in-Some.tag, c.in-Some-2.merged) ∷ [] = search (rules, c.in_ok-push-in-Some-2.ensures.items, c.in_ok-try_clone-in-Some-2.ensures) in
    record {
      merged = tagged_more c.args.widening gs c.loop-name.variants.items c.push.new.self.items c.loop-name.name-iterator c.next.new.self c.in-Some.name.now c.in-Some.dtype.now c.in-Some-2.merged c.in-Some.tag (shown tree c.variant_with.result) _
          c.loop-name.invariant.merged c.in-Some.ensures.steps found made put;
      within = variants_lighter c.loop-name.name-iterator c.next.new.self c.in-Some.name.now c.in-Some.dtype.now c.in-Some.tag _ c.in-Some.ensures.steps c.loop-name.invariant.within;
    }

pub merge_by_tag-returns-in-None-2 : goal.merge_by_tag-returns-in-None-2
merge_by_tag-returns-in-None-2 t c =
    let gs = keyed (variants_of c.args.b.now) in
    let found : shown tree c.variant_with.result ≡ first_named (pairs gs) (c.in-Some.tag ∷ c.in-Some.name.now) = search (rules, c.variant_with.ensures) in
    let none : None ≡ variant_type (tree c.in-Some.dtype.now) (λ u. columns_merged c.args.widening (tree c.in-Some.dtype.now) u) (shown tree c.variant_with.result) = search (rules, c.in_ok-merged.ensures, c.in-None-2.is) in
    tagged_stops c.args.widening gs c.loop-name.variants.items c.loop-name.name-iterator c.next.new.self c.in-Some.name.now c.in-Some.dtype.now c.in-Some.tag (shown tree c.variant_with.result) _ c.loop-name.invariant.merged c.in-Some.ensures.steps found none

pub merge_by_tag-returns : goal.merge_by_tag-returns
merge_by_tag-returns t c =
    tagged_all c.args.widening (keyed (variants_of c.args.b.now)) c.loop-name.variants.items c.loop-name.name-iterator _ c.loop-name.invariant.merged (search (rules, c.in-None.ensures.steps))

pub merge_types-returns : goal.merge_types-returns
merge_types-returns t c =
    let it = c.loop-dtype.dtype-iterator in
    let done = map tree c.loop-dtype.dtypes.items in
    elim c.in-None.ensures.steps [
      | inl a ↦ left_done c.args.widening done (map tree (zip_first it)) (map tree (zip_second it)) _ (search (rules, a.1)) c.loop-dtype.invariant.merged
      | inr b ↦ right_done c.args.widening done (map tree (zip_first it)) (map tree (zip_second it)) _ (search (rules, b.1)) c.loop-dtype.invariant.merged
    ]
