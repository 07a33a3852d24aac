-- SPDX-License-Identifier: Apache-2.0
-- SPDX-FileCopyrightText: Copyright the Vortex contributors

-- Fields within others, and items that are read one after the other, as a loop does.
use Rattle.std.proofs.Common.{◌≡◌, ℕ, suc, ◌+◌, ◌-◌, ◌<◌, ◌≤◌, List, [], ◌∷◌, ◌++◌, length, map, Bool, Result, Ok, Err, refl, sym, ap, ◌∙◌, append_assoc, append-nil, arith}
use Rattle.std.specs.List.{zip}
use Rattle.dtype_types.specs.declared.dtype.DType.{DType}
use Rattle.dtype_types.specs.tree.Tree.{Tree}
use Rattle.dtype_types.specs.tree.TreeOf.{tree}
use Rattle.c_arrow.specs.Faults.{Fault, ◌>>=◌, refused, Stops}
use Rattle.c_arrow.specs.Read.{Left, Reader, Field, inside_at, child_by, inner_by, values_by, value_by, map_by, map_with, times, type_by}
use Rattle.c_arrow.specs.declared.fault.ArrowFault.{ArrowFault}
use Rattle.c_arrow.specs.declared.fault.Problem.TheVariants.{Nested}
use Rattle.c_arrow.proofs.FaultFacts.{stops_all}

deeper : (n : ℕ) → 0 < n → n ≡ suc (n - 1)
deeper n lt = omega (arith, lt)

module _ (n : ℕ) (field : Field) (nullable : Bool) (levels : ℕ) (left : Left) where
  pub child_none : n ≡ 0 → child_by (inside_at n) field nullable levels left ≡ Err (refused [] field.format Nested)
  unfolding child_by
  child_none e = rw e refl

  pub child_deeper : 0 < n → child_by (inside_at n) field nullable levels left ≡ inner_by (type_by (inside_at (n - 1))) nullable levels left
  unfolding child_by
  child_deeper lt = ap (λ (k : ℕ). child_by (inside_at k) field nullable levels left) (deeper n lt)

  pub values_none : n ≡ 0 → values_by (inside_at n) field nullable levels left ≡ Err (refused [] field.format Nested)
  unfolding values_by
  values_none e = rw e refl

  pub values_deeper : 0 < n → values_by (inside_at n) field nullable levels left ≡ value_by (type_by (inside_at (n - 1))) nullable levels left
  unfolding values_by
  values_deeper lt = ap (λ (k : ℕ). values_by (inside_at k) field nullable levels left) (deeper n lt)

  pub map_none : n ≡ 0 → map_by (inside_at n) field nullable levels left ≡ Err (refused [] field.format Nested)
  unfolding map_by
  map_none e = rw e refl

  pub map_deeper : 0 < n → map_by (inside_at n) field nullable levels left ≡ map_with (inside_at (n - 1)) field nullable levels left
  unfolding map_by
  map_deeper lt = ap (λ (k : ℕ). map_by (inside_at k) field nullable levels left) (deeper n lt)

pub ruleset children = (child_none, child_deeper)

pub ruleset dictionaries = (values_none, values_deeper)

pub ruleset maps = (map_none, map_deeper)

-- ---- loops

-- what was read before, and what is still read
abbrev pub behind : {A : Type 0} → List A → Result (List A × Left) Fault → Result (List A × Left) Fault
behind front (Ok x) = Ok (front ++ x.0, x.1)
behind front (Err e) = Err e

regroup : {A : Type 0} (front : List A) (x : A) (read : Result (List A × Left) Fault) → behind front (read >>= λ xs. Ok (x ∷ xs.0, xs.1)) ≡ behind (front ++ x ∷ []) read
regroup front x (Ok xs) = ap (λ ys. Ok (ys, xs.1)) (simp append_assoc refl)
regroup front x (Err e) = refl

-- a fault of what is read first
pub stops_then : {A B : Type 0} (e : ArrowFault) (a : Result A Fault) (then : A → Result B Fault) → Stops e a → Stops e (a >>= then)
stops_then e a then h = stops_all e a (a >>= then) h (λ f is. ap (λ (r : Result _ Fault). r >>= then) is)

module _ {A : Type 0} (item : Reader A) (front : List A) (count i : ℕ) (rest : Left) (total : Result (List A × Left) Fault) where
  abbrev pub SoFar : Type 0
  SoFar = behind front (times (count - i) item rest) ≡ total

  pub times_stops : (e : ArrowFault) → i < count → Stops e (item rest) → SoFar → Stops e total
  times_stops e lt failed so_far =
      let k : count - i ≡ suc (count - (i + 1)) = omega arith in
      stops_all e (item rest) total failed (λ f is.
      let one : behind front (times (count - i) item rest) ≡ Err f = rw (k, is) refl in sym so_far ∙ one)

  pub times_more : (x : A) (after : Left) → i < count → item rest ≡ Ok (x, after) → SoFar → behind (front ++ x ∷ []) (times (count - (i + 1)) item after) ≡ total
  times_more x after lt found so_far =
      let k : count - i ≡ suc (count - (i + 1)) = omega arith in
      let one : behind front (times (count - i) item rest) ≡ behind (front ++ x ∷ []) (times (count - (i + 1)) item after) = rw (k, found) (regroup front x (times (count - (i + 1)) item after)) in
      sym one ∙ so_far

  pub times_end : count ≤ i → SoFar → total ≡ Ok (front, rest)
  times_end le so_far =
      let k : count - i ≡ 0 = omega arith in
      let one : behind front (times (count - i) item rest) ≡ Ok (front, rest) = rw k (ap (λ (xs : List A). Ok (xs, rest)) (append-nil front)) in
      sym so_far ∙ one

-- the names and the types of children, side by side
abbrev pub children_of : List (List ℕ) → List DType → List (List ℕ × Tree)
children_of names dtypes = zip names (map tree dtypes)

-- one child more
pub children_push : (ns : List (List ℕ)) (ds : List DType) (n : List ℕ) (d : DType) → length ns ≡ length ds → children_of (ns ++ n ∷ []) (ds ++ d ∷ []) ≡ children_of ns ds ++ (n, tree d) ∷ []
children_push [] [] n d e = refl
children_push [] (b ∷ ds) n d e = absurd (omega (arith, e))
children_push (a ∷ ns) [] n d e = absurd (omega (arith, e))
children_push (a ∷ ns) (b ∷ ds) n d e = ap (λ (cs : List (List ℕ × Tree)). (a, tree b) ∷ cs) (children_push ns ds n d (omega (arith, e)))
