-- SPDX-License-Identifier: Apache-2.0
-- SPDX-FileCopyrightText: Copyright the Vortex contributors

-- The paths that a set lends. `lent_paths` names all of it in one line.
use Rattle.std.specs.Prelude.{◌≡◌, ◌<◌, ℕ, IsTrue, List, get_or, length, map, refl}
use Rattle.std.specs.Borrow.{Bor}
use Rattle.std.specs.FinSet as set
use Rattle.std.specs.List.{All, Any, Contains, slice_index_or, starts_with}
use Rattle.std.proofs.Common.{arith}
use Rattle.std.proofs.lemmas.List.Elements.{Contains-get_or}
use Rattle.dtype_paths.specs.Covering.{covers}
use Rattle.dtype_paths.specs.Equality.{same_field}
use Rattle.dtype_paths.specs.PathOrder.{PathSet, path_cmp}
use Rattle.dtype_paths.specs.declared.field.Field.{Field}
use Rattle.dtype_paths.proofs.lemmas.ListMembers.{contains-map, contains-mapped}
use Rattle.dtype_paths.proofs.lemmas.Beginnings.{starts_with-Decides}
use Rattle.dtype_paths.proofs.lemmas.SetCovers.{covers_word}
use Rattle.dtype_paths.proofs.lemmas.SetMembers.{of_has, of_only}
use Rattle.dtype_paths.proofs.lemmas.Stepping.{beginning_tested, tested_beginning}

-- what holds of each member of a mapped list holds of all that it is made of
pub all_mapped : {X : Type 0} (f : X → List Field) (P : List Field → Type 0) (xs : List X) → ((q : List Field) → Contains (map f xs) q → P q) → All (λ x. P (f x)) xs
all_mapped f P xs holds = λ i d lt. holds (f (get_or xs i d)) (contains-mapped f (get_or xs i d) xs (Contains-get_or xs i d lt))

-- Each that is lent is a member, and each member is lent. The first part of each of these two says nothing: it shows a
-- search the call to match, so that `all`, `any` and `find` prove whatever their closure asks of a path.
pub lent_here : (xs : List (Bor (List Field))) (k : ℕ) (d : Bor (List Field)) → (slice_index_or xs k d ≡ slice_index_or xs k d) × (k < length xs → IsTrue (set.contains (set.from_list {R = path_cmp} (map (λ x. x.now) xs)) (slice_index_or xs k d).now))
lent_here xs k d = (refl, λ l. all_mapped (λ x. x.now) (λ q. IsTrue (set.contains (set.from_list {R = path_cmp} (map (λ x. x.now) xs)) q)) xs (λ q c. of_has (map (λ x. x.now) xs) q c) k d l)

pub lent_place : (xs : List (Bor (List Field))) (p : List Field) → (set.contains (set.from_list {R = path_cmp} (map (λ x. x.now) xs)) p ≡ set.contains (set.from_list {R = path_cmp} (map (λ x. x.now) xs)) p) × (IsTrue (set.contains (set.from_list {R = path_cmp} (map (λ x. x.now) xs)) p) → (k : ℕ) × (x : Bor (List Field)) × (k < length xs) × (slice_index_or xs k x ≡ x) × (x.now ≡ p))
lent_place xs p = (refl, λ h. let w = contains-map (λ x. x.now) xs p (of_only (map (λ x. x.now) xs) p h) in (w.1.0, w.0, w.1.1, w.1.2, w.2))

-- a path that begins with one of those lent is covered, and the converse
pub begun_covered : (xs : List (Bor (List Field))) (s : PathSet) (q : List Field) (k : ℕ) (x : Bor (List Field)) → set.from_list (map (λ y. y.now) xs) ≡ s → k < length xs → slice_index_or xs k x ≡ x → IsTrue (starts_with same_field q x.now) → IsTrue (covers s q)
begun_covered xs s q k x is l e b = grind (arith, lent_here, covers_word, starts_with-Decides)

pub covered_begun : (xs : List (Bor (List Field))) (s : PathSet) (q : List Field) → set.from_list (map (λ y. y.now) xs) ≡ s → IsTrue (covers s q) → Any (λ x. IsTrue (starts_with same_field q x.now)) xs
covered_begun xs s q is h = grind (arith, covers_word, lent_place, starts_with-Decides)

pub ruleset lent_paths = (lent_here, lent_place, begun_covered, covered_begun, tested_beginning, beginning_tested)
