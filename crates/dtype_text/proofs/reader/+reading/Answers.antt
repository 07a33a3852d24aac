-- SPDX-License-Identifier: Apache-2.0
-- SPDX-FileCopyrightText: Copyright the Vortex contributors

use Rattle.std.proofs.Common.{◌≡◌, ℕ, List, subst, ◌∙◌, ◌++◌, ◌∷◌, [], Some, true, false, sym, ap, length}
use Rattle.std.proofs.lemmas.Result.{err_from_is_err_and}
use Rattle.std.proofs.lemmas.List.{map_push}
use Rattle.dtype_types.specs.tree.Tree as of
use Rattle.dtype_types.specs.tree.TreeOf.{tree, variants_of}
use Rattle.dtype_types.proofs.lemmas.TreeLaws.{tree_union}
use Rattle.dtype_base.specs.declared.nullability.Nullability.{Nullability}
use Rattle.dtype_text.specs.Leaves.{skipped}
use Rattle.dtype_text.specs.Unions.{union_at}
use Rattle.dtype_types.specs.parts.FieldTypes.{field_tree}
use Rattle.dtype_text.specs.Outcome.{got, Stops}
use Rattle.dtype_text.specs.TypeParts.{end_at}
use Rattle.dtype_text.specs.Types.{part_at, field_by, variant_by, items_by, union_by, marked, extension_by, wrapped_by}
use Rattle.dtype_text.specs.Views.{field_pairs, read_variant, read_variants}
use Rattle.dtype_text.proofs.Loops.{stops_then, separated_stops, separated_ends, separated_closed, separated_more}
use Rattle.dtype_text.proofs.reader.+reading.Goals as goal

pub some_fields-returns-in_err-field : goal.some_fields-returns-in_err-field
some_fields-returns-in_err-field t c =
    let p = err_from_is_err_and c.from_residual.result c.from_residual.ensures.1 in
    rw (p.1, p.2) (separated_stops 125 (field_by (part_at c.args.levels)) (field_pairs c.loop.fields.items) (length c.args.bytes.now) c.loop.counter c.loop.rest.now _ c.in_err-field.field-0.0 c.loop-test.true c.in_err-field.ensures c.loop.invariant)

pub some_fields-returns-in_err-is_end : goal.some_fields-returns-in_err-is_end
some_fields-returns-in_err-is_end t c =
    let p = err_from_is_err_and c.from_residual-in_err-is_end.result c.from_residual-in_err-is_end.ensures.1 in
    let f = c.in_ok-field.field in
    rw (p.1, p.2) (separated_ends 125 (field_by (part_at c.args.levels)) (field_pairs c.loop.fields.items) (length c.args.bytes.now) c.loop.counter c.loop.rest.now _ (f.0, field_tree f.1) c.in_ok-field.behind.now c.loop-test.true c.in_ok-field.ensures c.loop.invariant c.in_err-is_end.field-0.0 c.in_err-is_end.ensures)

pub some_fields-returns-then-is_end : goal.some_fields-returns-then-is_end
some_fields-returns-then-is_end t c =
    let f = c.in_ok-field.field in
    let e : field_pairs c.push.new.self.items ≡ field_pairs c.loop.fields.items ++ (f.0, field_tree f.1) ∷ [] = rw c.in_ok-push.ensures.items (map_push _ c.loop.fields.items f) in
    let closed : end_at 125 c.in_ok-field.behind.now ≡ Some (true, c.in_ok-is_end.behind.now) = c.in_ok-is_end.ensures ∙ ap (λ b. Some (b, c.in_ok-is_end.behind.now)) c.if-is_end.true in
    rw e (separated_closed 125 (field_by (part_at c.args.levels)) (field_pairs c.loop.fields.items) (length c.args.bytes.now) c.loop.counter c.loop.rest.now _ (f.0, field_tree f.1) c.in_ok-field.behind.now c.loop-test.true c.in_ok-field.ensures c.loop.invariant c.in_ok-is_end.behind.now closed)

pub some_fields-loop-preserved : goal.some_fields-loop-preserved
some_fields-loop-preserved t c =
    let f = c.in_ok-field.field in
    let e : field_pairs c.push.new.self.items ≡ field_pairs c.loop.fields.items ++ (f.0, field_tree f.1) ∷ [] = rw c.in_ok-push.ensures.items (map_push _ c.loop.fields.items f) in
    let open_ : end_at 125 c.in_ok-field.behind.now ≡ Some (false, c.in_ok-is_end.behind.now) = c.in_ok-is_end.ensures ∙ ap (λ b. Some (b, c.in_ok-is_end.behind.now)) c.if-is_end.false in
    rw e (separated_more 125 (field_by (part_at c.args.levels)) (field_pairs c.loop.fields.items) (length c.args.bytes.now) c.loop.counter c.loop.rest.now _ (f.0, field_tree f.1) c.in_ok-field.behind.now c.loop-test.true c.in_ok-field.ensures c.loop.invariant c.in_ok-is_end.behind.now open_)

pub some_variants-returns-in_err-variant : goal.some_variants-returns-in_err-variant
some_variants-returns-in_err-variant t c =
    let p = err_from_is_err_and c.from_residual.result c.from_residual.ensures.1 in
    rw (p.1, p.2) (separated_stops 41 (variant_by (part_at c.args.levels)) (read_variants c.loop.variants.items) (length c.args.bytes.now) c.loop.counter c.loop.rest.now _ c.in_err-variant.field-0.0 c.loop-test.true c.in_err-variant.ensures c.loop.invariant)

pub some_variants-returns-in_err-is_end : goal.some_variants-returns-in_err-is_end
some_variants-returns-in_err-is_end t c =
    let p = err_from_is_err_and c.from_residual-in_err-is_end.result c.from_residual-in_err-is_end.ensures.1 in
    let f = c.in_ok-variant.variant in
    rw (p.1, p.2) (separated_ends 41 (variant_by (part_at c.args.levels)) (read_variants c.loop.variants.items) (length c.args.bytes.now) c.loop.counter c.loop.rest.now _ (read_variant f) c.in_ok-variant.behind.now c.loop-test.true c.in_ok-variant.ensures c.loop.invariant c.in_err-is_end.field-0.0 c.in_err-is_end.ensures)

pub some_variants-returns-then-is_end : goal.some_variants-returns-then-is_end
some_variants-returns-then-is_end t c =
    let f = c.in_ok-variant.variant in
    let e : read_variants c.push.new.self.items ≡ read_variants c.loop.variants.items ++ (read_variant f) ∷ [] = rw c.in_ok-push.ensures.items (map_push _ c.loop.variants.items f) in
    let closed : end_at 41 c.in_ok-variant.behind.now ≡ Some (true, c.in_ok-is_end.behind.now) = c.in_ok-is_end.ensures ∙ ap (λ b. Some (b, c.in_ok-is_end.behind.now)) c.if-is_end.true in
    rw e (separated_closed 41 (variant_by (part_at c.args.levels)) (read_variants c.loop.variants.items) (length c.args.bytes.now) c.loop.counter c.loop.rest.now _ (read_variant f) c.in_ok-variant.behind.now c.loop-test.true c.in_ok-variant.ensures c.loop.invariant c.in_ok-is_end.behind.now closed)

pub some_variants-loop-preserved : goal.some_variants-loop-preserved
some_variants-loop-preserved t c =
    let f = c.in_ok-variant.variant in
    let e : read_variants c.push.new.self.items ≡ read_variants c.loop.variants.items ++ (read_variant f) ∷ [] = rw c.in_ok-push.ensures.items (map_push _ c.loop.variants.items f) in
    let open_ : end_at 41 c.in_ok-variant.behind.now ≡ Some (false, c.in_ok-is_end.behind.now) = c.in_ok-is_end.ensures ∙ ap (λ b. Some (b, c.in_ok-is_end.behind.now)) c.if-is_end.false in
    rw e (separated_more 41 (variant_by (part_at c.args.levels)) (read_variants c.loop.variants.items) (length c.args.bytes.now) c.loop.counter c.loop.rest.now _ (read_variant f) c.in_ok-variant.behind.now c.loop-test.true c.in_ok-variant.ensures c.loop.invariant c.in_ok-is_end.behind.now open_)

pub extension-returns-in_err-storage : goal.extension-returns-in_err-storage
unfolding extension_by
extension-returns-in_err-storage t c =
    let p = err_from_is_err_and c.from_residual-in_err-storage.result c.from_residual-in_err-storage.ensures.1 in
    rw (p.1, p.2, c.in_ok-read.ensures) (stops_then c.in_err-storage.field-0.0 (wrapped_by (part_at c.args.levels) c.in_ok-read.rest.now) _ c.in_err-storage.ensures)

pub extension-returns : goal.extension-returns
unfolding extension_by
extension-returns t c =
    let made : of.extension c.args.id.now c.in_ok-read.read.items (tree c.in_ok-storage.storage) ≡ tree c.in_ok-extension_of.field-0 = sym c.in_ok-extension_of.ensures in
    rw (c.in_ok-read.ensures, c.in_ok-storage.ensures) (ap (λ u. got (u, c.in_ok-storage.rest.now)) made)

pub union-returns-in_err-variants : goal.union-returns-in_err-variants
unfolding union_by
union-returns-in_err-variants t c =
    let p = err_from_is_err_and c.from_residual-in_err-variants.result c.from_residual-in_err-variants.ensures.1 in
    let read = items_by 41 (variant_by (part_at c.args.levels)) in
    let e = c.in_err-variants.field-0.0 in
    rw (p.1, p.2, c.in_ok-rest.ensures) (stops_then e (read (skipped c.in_ok-rest.rest.now)) _ (subst (λ (bs : List ℕ). Stops e (read bs)) c.skip.ensures c.in_err-variants.ensures))

pub union-returns-in_err-made : goal.union-returns-in_err-made
unfolding union_by
union-returns-in_err-made t c =
    let p = err_from_is_err_and c.from_residual-in_err-made.result c.from_residual-in_err-made.ensures.1 in
    let read = items_by 41 (variant_by (part_at c.args.levels)) in
    let vs = read_variants c.in_ok-variants.variants.items in
    let e : read (skipped c.in_ok-rest.rest.now) ≡ got (vs, c.in_ok-variants.rest.now) = subst (λ (bs : List ℕ). read bs ≡ got (vs, c.in_ok-variants.rest.now)) c.skip.ensures c.in_ok-variants.ensures in
    rw (p.1, p.2, c.in_ok-rest.ensures, e) (stops_then c.in_err-made.field-0.0 (union_at vs) _ c.in_err-made.ensures)

pub union-returns : goal.union-returns
unfolding union_by marked
union-returns t c =
    let read = items_by 41 (variant_by (part_at c.args.levels)) in
    let vs = read_variants c.in_ok-variants.variants.items in
    let made = c.in_ok-made.made in
    let n = c.nullability-n.result.0 in
    let rest = c.nullability-n.result.1.now in
    let e : read (skipped c.in_ok-rest.rest.now) ≡ got (vs, c.in_ok-variants.rest.now) = subst (λ (bs : List ℕ). read bs ≡ got (vs, c.in_ok-variants.rest.now)) c.skip.ensures c.in_ok-variants.ensures in
    rw (c.in_ok-rest.ensures, e, c.in_ok-made.ensures)
    (ap (λ (m : Nullability × List ℕ). got (of.union (variants_of made) m.0, m.1)) (sym c.nullability-n.ensures) ∙ ap (λ (u : of.Tree). got (u, rest)) (sym (tree_union made n)))
