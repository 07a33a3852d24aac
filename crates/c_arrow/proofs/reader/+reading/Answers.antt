-- SPDX-License-Identifier: Apache-2.0
-- SPDX-FileCopyrightText: Copyright the Vortex contributors

use Rattle.std.proofs.Common.{◌≡◌, ◌∙◌, ◌+◌, ◌<◌, ◌++◌, ◌∷◌, [], ℕ, List, ap, arith}
use Rattle.std.proofs.lemmas.List.{length_push}
use Rattle.std.proofs.lemmas.List.Elements.{All-push}
use Rattle.std.proofs.lemmas.Result.{err_from_is_err_and}
use Rattle.dtype_text.specs.Grammar.{levels}
use Rattle.dtype_types.specs.tree.TreeOf.{tree}
use Rattle.dtype_types.specs.tree.Valid.{Valid}
use Rattle.c_arrow.specs.Read.{inside_at, part_by}
use Rattle.c_arrow.specs.Rests.{seen}
use Rattle.c_arrow.proofs.Reading.{children_of, children_push, times_more, times_stops}
use Rattle.c_arrow.proofs.Sound.{struct_below, union_below}
use Rattle.c_arrow.proofs.reader.+reading.Goals as goal

pub read_children-loop-at-preserved : goal.read_children-loop-at-preserved
read_children-loop-at-preserved t c =
    let ns = c.loop-at.names.items in
    let ds = c.loop-at.dtypes.items in
    let n = c.in_ok-new.field-0 in
    let d = c.in_ok-name.dtype in
    let names = length_push ns n in
    let types = length_push ds d in
    let below : levels (tree d) < c.args.place.levels = c.in_ok-name.ensures.levels in
    let item = part_by (inside_at c.args.place.fields) (seen c.args.field.now) c.args.place.levels in
    let pushed : children_of (ns ++ n ∷ []) (ds ++ d ∷ []) ≡ children_of ns ds ++ (c.in_ok-name.name.now, tree d) ∷ [] =
    children_push ns ds n d c.loop-at.invariant.counts ∙ ap (λ (m : List ℕ). children_of ns ds ++ (m, tree d) ∷ []) c.in_ok-new.ensures in
    rw (c.in_ok-push.ensures.items, c.in_ok-push-2.ensures.items)
    (record {
      read = rw pushed (times_more item (children_of ns ds) _ c.loop-at._at _ _ _ _ c.loop-at-test.true c.in_ok-name.ensures.read c.loop-at.invariant.read);
      counts = omega (arith, names, types, c.loop-at.invariant.counts);
      valid = All-push (λ d. Valid (tree d)) ds d c.loop-at.invariant.valid c.in_ok-name.ensures.valid;
      levels = All-push (λ d. levels (tree d) < c.args.place.levels) ds d c.loop-at.invariant.levels below;
    })

pub read_children-returns-in_err-name-clause-read : goal.read_children-returns-in_err-name-clause-read
read_children-returns-in_err-name-clause-read t c =
    let p = err_from_is_err_and c.from_residual-in_err-name.result c.from_residual-in_err-name.ensures.1 in
    let item = part_by (inside_at c.args.place.fields) (seen c.args.field.now) c.args.place.levels in
    rw (p.1, p.2) (times_stops item (children_of c.loop-at.names.items c.loop-at.dtypes.items) _ c.loop-at._at _ _ c.in_err-name.field-0.0 c.loop-at-test.true c.in_err-name.ensures.read c.loop-at.invariant.read)

pub read_struct-returns-clause-levels : goal.read_struct-returns-clause-levels
read_struct-returns-clause-levels t c =
    struct_below (tree c.in_ok-struct_type.field-0) _ c.in_ok-names.names.items c.in_ok-names.dtypes.items c.args.place.levels c.in_ok-struct_type.ensures.made c.in_ok-names.ensures.levels

pub read_union-returns-clause-levels : goal.read_union-returns-clause-levels
read_union-returns-clause-levels t c =
    union_below (tree c.in_ok-union_type.field-0) _ c.in_ok-names.names.items c.in_ok-names.dtypes.items _ c.args.place.levels c.in_ok-union_type.ensures.made c.in_ok-names.ensures.levels
