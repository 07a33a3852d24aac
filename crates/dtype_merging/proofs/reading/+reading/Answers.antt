-- SPDX-License-Identifier: Apache-2.0
-- SPDX-FileCopyrightText: Copyright the Vortex contributors

use Rattle.std.proofs.Common.{arith, rules, ◌≡◌, ◌∙◌, ◌&&◌, ap, sym, map, true, false, inl, inr}
use Rattle.std.specs.Iterator.Adapters.{zip_first, zip_second}
use Rattle.std.proofs.lemmas.Slice.Eq.{bytes_eq-Decides}
use Rattle.dtype_types.specs.parts.Lookups.{field_names, field_types, first_named}
use Rattle.dtype_types.specs.tree.TreeOf.{children, shown, tree}
use Rattle.dtype_merging.specs.private.Readable.{allowed, structs_readable, types_readable}
use Rattle.dtype_merging.proofs.Collecting.{lighter}
use Rattle.dtype_merging.proofs.Ordered.{fields_weigh, told_alike, told_apart, weight_all}
use Rattle.dtype_merging.proofs.Testing.{found_more, found_stops, names_alike, names_apart, structs_tested, types_done, types_done_too, unions_whole}
use Rattle.dtype_merging.proofs.reading.+reading.Goals as goal

pub are_fields_found-returns-then-not-is_readable_as : goal.are_fields_found-returns-then-not-is_readable_as
are_fields_found-returns-then-not-is_readable_as t c =
    let found : shown tree c.field.result ≡ first_named (children c.args.b.now) c.in-Some.name.now = search (rules, c.field.ensures, c.as_str.ensures) in
    found_stops c.args.widening (children c.args.b.now) c.loop-name.name-iterator c.next.new.self c.in-Some.name.now c.in-Some.dtype.now (shown tree c.field.result) c.is_readable_as.result _
    c.loop-name.invariant.same c.in-Some.ensures.steps found c.is_readable_as.ensures c.if-not-is_readable_as.true

pub are_fields_found-loop-name-preserved : goal.are_fields_found-loop-name-preserved
are_fields_found-loop-name-preserved t c =
    let found : shown tree c.field.result ≡ first_named (children c.args.b.now) c.in-Some.name.now = search (rules, c.field.ensures, c.as_str.ensures) in
    record {
      same = found_more c.args.widening (children c.args.b.now) c.loop-name.name-iterator c.next.new.self c.in-Some.name.now c.in-Some.dtype.now (shown tree c.field.result) c.is_readable_as.result _
          c.loop-name.invariant.same c.in-Some.ensures.steps found c.is_readable_as.ensures c.if-not-is_readable_as.false;
      within = lighter c.loop-name.name-iterator c.next.new.self c.in-Some.name.now c.in-Some.dtype.now _ c.in-Some.ensures.steps c.loop-name.invariant.within;
    }

pub are_fields_readable-returns-then-ne : goal.are_fields_readable-returns-then-ne
are_fields_readable-returns-then-ne t c =
    sym (names_apart c.args.widening (children c.args.a.now) (children c.args.b.now)
    (λ e. told_apart bytes_eq-Decides c.names.result.now c.names-2.result.now c.ne.result c.ne.ensures c.if-ne.true (c.names.ensures ∙ e ∙ sym c.names-2.ensures)))

pub are_fields_readable-loop-dtype-init : goal.are_fields_readable-loop-dtype-init
are_fields_readable-loop-dtype-init t c =
    let it = c.into_iter-dtype-iterator.result in
    let first : map tree (zip_first it) ≡ field_types (children c.args.a.now) = ap (λ z. map tree (zip_first z)) c.into_iter-dtype-iterator.ensures.into_iter_gives ∙ ap (map tree) c.zip-dtype-items.ensures.first ∙ c.fields.ensures.all in
    let second : map tree (zip_second it) ≡ field_types (children c.args.b.now) = ap (λ z. map tree (zip_second z)) c.into_iter-dtype-iterator.ensures.into_iter_gives ∙ ap (map tree) c.zip-dtype-items.ensures.second ∙ c.fields-2.ensures.all in
    record {
      same = ap (λ ts. types_readable c.args.widening ts (map tree (zip_second it))) first ∙ ap (types_readable c.args.widening (field_types (children c.args.a.now))) second;
      within = omega (arith, ap weight_all first, fields_weigh (children c.args.a.now));
    }

pub are_fields_readable-returns-then-not-is_readable : goal.are_fields_readable-returns-then-not-is_readable
are_fields_readable-returns-then-not-is_readable t c =
    let ps = children c.args.a.now in
    let qs = children c.args.b.now in
    let same : field_names ps ≡ field_names qs = sym c.names.ensures ∙ told_alike bytes_eq-Decides c.names.result.now c.names-2.result.now c.ne.result c.ne.ensures c.if-ne.false ∙ c.names-2.ensures in
    let stops : false ≡ types_readable c.args.widening (field_types ps) (field_types qs) = search (rules, c.loop-dtype.invariant.same, c.in-Some.ensures.steps, c.is_readable.ensures, c.if-not-is_readable.true) in
    stops ∙ sym (names_alike c.args.widening ps qs same)

pub are_fields_readable-returns : goal.are_fields_readable-returns
are_fields_readable-returns t c =
    let ps = children c.args.a.now in
    let qs = children c.args.b.now in
    let it = c.loop-dtype.dtype-iterator in
    let same : field_names ps ≡ field_names qs = sym c.names.ensures ∙ told_alike bytes_eq-Decides c.names.result.now c.names-2.result.now c.ne.result c.ne.ensures c.if-ne.false ∙ c.names-2.ensures in
    elim c.in-None.ensures.steps [
      | inl a ↦ types_done c.args.widening (map tree (zip_first it)) (map tree (zip_second it)) _ (search (rules, a.1)) c.loop-dtype.invariant.same ∙ sym (names_alike c.args.widening ps qs same)
      | inr b ↦ types_done_too c.args.widening (map tree (zip_first it)) (map tree (zip_second it)) _ (search (rules, b.1)) c.loop-dtype.invariant.same ∙ sym (names_alike c.args.widening ps qs same)
    ]

pub is_readable-returns-then-allows-4 : goal.is_readable-returns-then-allows-4
is_readable-returns-then-allows-4 t c =
    let of = c.in-Struct-Struct in
    let may : true ≡ allowed of.m of.n = sym c.if-allows-4.true ∙ c.allows-in-Struct-Struct.ensures in
    c.is_struct_readable.ensures ∙ ap (λ b. b && structs_readable c.args.widening (children of.fields) (children of.others)) may
    ∙ sym (structs_tested c.args.widening c.args.a.now c.args.b.now of.fields of.others of.m of.n of.is-0 of.is-1)

pub is_readable-returns-else-have_own_tags : goal.is_readable-returns-else-have_own_tags
is_readable-returns-else-have_own_tags t c =
    let of = c.in-Union-Union in
    unions_whole c.args.widening c.args.a.now c.args.b.now of.variants of.others of.m of.n c.eq_with_nullability_subset.result of.is-0 of.is-1 (sym c.have_own_tags.ensures ∙ c.if-have_own_tags.false) c.eq_with_nullability_subset.ensures
