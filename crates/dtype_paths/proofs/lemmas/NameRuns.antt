-- SPDX-License-Identifier: Apache-2.0
-- SPDX-FileCopyrightText: Copyright the Vortex contributors

-- What a run over the names of a cursor reads, place by place.
use Rattle.std.proofs.Common.{◌≡◌, ◌∙◌, ◌<◌, ℕ, List, ◌∷◌, length, true, Option, Some, None, IsTrue, IfSome, IsSomeAnd, option_map, refl, sym, ap, arith, subst}
use Rattle.std.proofs.iter.Rest.{run_of_first_by}
use Rattle.std.proofs.lemmas.Bool.{false≢true}
use Rattle.std.proofs.lemmas.Option.{IfSome_then, none-some, same_Some, slice_get_within}
use Rattle.std.specs.Borrow.{Bor}
use Rattle.std.specs.Iterator.{YieldsFirstBy}
use Rattle.std.specs.Iterator.Runs.{AllItems, AnyItem, EachRunFrom, Run, YieldsRun}
use Rattle.std.specs.List.{Contains, HoldsAt, slice_index_or}
use Rattle.dtype_paths.specs.Cursors.{contains_below, borrowed_below, names_left}
use Rattle.dtype_paths.specs.PathPredicates.{AreNames, PathPredicate}
use Rattle.dtype_paths.specs.declared.cursor_names.CursorNames.{CursorNames}
use Rattle.dtype_paths.specs.declared.field.Field.{Field}
use Rattle.dtype_paths.specs.declared.field.Field.TheVariants.{Name}
use Rattle.dtype_paths.specs.declared.field_path_cursor.FieldPathCursor.{FieldPathCursor}
use Rattle.dtype_paths.proofs.lemmas.ListMembers.{contains-map}

-- an item is one of the entries that were left
item_left : (it : CursorNames) (p : Run (YieldsFirstBy borrowed_below names_left)) → p.from ≡ it → AllItems p (λ x. Contains (names_left it) (borrowed_below x))
unfolding YieldsRun
item_left it p e k =
    let reads = (run_of_first_by borrowed_below names_left p).1 in
    go (p.at k) refl (reads.3 k)
  where
    go : (o : Option (Bor (List ℕ) × FieldPathCursor)) → p.at k ≡ o → IfSome o (λ x. HoldsAt (λ y. borrowed_below x ≡ y) (names_left p.from) k) → IfSome o (λ x. Contains (names_left it) (borrowed_below x))
    go None is h = tt
    go (Some x) is h =
        let within = slice_get_within p.items k x (sym (p.gave.1 k) ∙ is) in
        let reads = (run_of_first_by borrowed_below names_left p).1 in
        subst (λ i. Contains (names_left i) (borrowed_below x)) e (k, omega (arith, within, p.long, reads.0), sym (h (borrowed_below x)))

-- what is contained below the name of an item
pub names_each : (w : PathPredicate) (it : CursorNames) → AreNames w (names_left it) → EachRunFrom (YieldsFirstBy borrowed_below names_left) it (λ p. AllItems p (λ x. ((q : List Field) → contains_below x.1 q ≡ w (Name x.0.now ∷ q)) × ((q : List Field) × IsTrue (w (Name x.0.now ∷ q)))))
names_each w it a p seen e k = IfSome_then (p.at k) (item_left it p e k) (λ x c.
    let is = a.each (borrowed_below x) c in
    let q = a.some (borrowed_below x) c in
    (λ r. ap (λ (v : PathPredicate). v r) is, (q.0, ap (λ (v : PathPredicate). v q.0) (sym is) ∙ q.1)))

-- a whole run comes by each name with which a path goes on
pub names_all : (w : PathPredicate) (it : CursorNames) → AreNames w (names_left it) → EachRunFrom (YieldsFirstBy borrowed_below names_left) it (λ p. p.whole ≡ true → (n : List ℕ) (q : List Field) → IsTrue (w (Name n ∷ q)) → AnyItem p (λ x. x.0.now ≡ n))
names_all w it a p seen e whole n q asked =
    let reads = (run_of_first_by borrowed_below names_left p).1 in
    let named = (a.exact n).1 (λ none. false≢true (sym (ap (λ (v : PathPredicate). v q) none) ∙ asked)) in
    let c = contains-map (λ (d : List ℕ × PathPredicate). d.0) (names_left it) n named in
    let long : p.len ≡ length (names_left it) = reads.1 whole ∙ ap (λ i. length (names_left i)) e in
    let within : c.1.0 < p.len = omega (arith, long, c.1.1) in
    let is = reads.2 c.1.0 c.0 within ∙ ap (λ i. Some (slice_index_or (names_left i) c.1.0 c.0)) e ∙ ap Some c.1.2 in
    (c.1.0, within, found (p.at c.1.0) c.0 is c.2)
  where
    found : (o : Option (Bor (List ℕ) × FieldPathCursor)) (d : List ℕ × PathPredicate) → option_map borrowed_below o ≡ Some d → d.0 ≡ n → IsSomeAnd o (λ x. x.0.now ≡ n)
    found None d is named = absurd (none-some d is)
    found (Some x) d is named = ap (λ (y : List ℕ × PathPredicate). y.0) (same_Some (borrowed_below x) d is) ∙ named
