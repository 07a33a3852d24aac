-- SPDX-License-Identifier: Apache-2.0
-- SPDX-FileCopyrightText: Copyright the Vortex contributors

-- Items that are read one after the other, as a loop does, and other facts of the readers.
use Rattle.std.proofs.Common.{◌≡◌, ℕ, suc, ◌+◌, ◌-◌, ◌<◌, ◌≤◌, List, [], ◌∷◌, ◌++◌, Bool, true, false, Result, Ok, Err, refl, sym, ap, ◌∙◌, append_assoc, append-nil, arith}
use Rattle.std.specs.Str.{is_utf8, IsUtf8}
use Rattle.std.proofs.lemmas.Str.{is_utf8-from_IsUtf8, IsUtf8-from_is_utf8}
use Rattle.c_nodes.specs.Read.{Left, Reader, ◌>>=◌, times, Stops, message_by, part_at}
use Rattle.c_nodes.specs.declared.fault.NodeFault.{NodeFault}
use Rattle.c_nodes.specs.declared.fault.NodeFault.TheVariants.{OutOfMemory, NotUtf8, TooDeep, OutOfRange}

pub utf8_true : (bs : List ℕ) → IsUtf8 bs → is_utf8 bs ≡ true
utf8_true = is_utf8-from_IsUtf8

false_unless : (b : Bool) → (b ≡ true → ⊥) → b ≡ false
false_unless true h = absurd (h refl)
false_unless false h = refl

pub utf8_false : (bs : List ℕ) → (IsUtf8 bs → ⊥) → is_utf8 bs ≡ false
utf8_false bs h = false_unless (is_utf8 bs) (λ e. h (IsUtf8-from_is_utf8 bs e))

pub ruleset utf8 = (utf8_true, utf8_false)

pub part_none : (levels : ℕ) (left : Left) → levels ≡ 0 → part_at levels left ≡ Err TooDeep
part_none levels left e = rw e refl

pub part_deeper : (levels : ℕ) (left : Left) → 0 < levels → part_at levels left ≡ message_by (part_at (levels - 1)) left
part_deeper levels left lt = let e : levels ≡ suc (levels - 1) = omega arith in ap (λ (n : ℕ). part_at n left) e

pub ruleset parts = (part_none, part_deeper)

-- ---- loops

-- what was read before, and what is still read
abbrev pub behind : {A : Type 0} → List A → Result (List A × Left) NodeFault → Result (List A × Left) NodeFault
behind front (Ok x) = Ok (front ++ x.0, x.1)
behind front (Err e) = Err e

regroup : {A : Type 0} (front : List A) (x : A) (read : Result (List A × Left) NodeFault) → behind front (read >>= λ xs. Ok (x ∷ xs.0, xs.1)) ≡ behind (front ++ x ∷ []) read
regroup front x (Ok xs) = ap (λ ys. Ok (ys, xs.1)) (simp append_assoc refl)
regroup front x (Err e) = refl

-- a fault of a part is one of the whole
pub stops_all : {A B : Type 0} (e : NodeFault) (a : Result A NodeFault) (b : Result B NodeFault) → Stops e a → ((f : NodeFault) → a ≡ Err f → b ≡ Err f) → Stops e b
stops_all OutOfMemory a b h f = tt
stops_all NotUtf8 a b h f = f NotUtf8 h
stops_all TooDeep a b h f = f TooDeep h
stops_all OutOfRange a b h f = f OutOfRange h

module _ {A : Type 0} (item : Reader A) (front : List A) (count i : ℕ) (rest : Left) (total : Result (List A × Left) NodeFault) where
  abbrev pub SoFar : Type 0
  SoFar = behind front (times (count - i) item rest) ≡ total

  pub times_stops : (e : NodeFault) → i < count → Stops e (item rest) → SoFar → Stops e total
  times_stops e lt failed so_far =
      let k : count - i ≡ suc (count - (i + 1)) = omega arith in
      stops_all e (item rest) total failed (λ f is.
      let one : behind front (times (count - i) item rest) ≡ Err f = rw (k, is) refl in sym so_far ∙ one)

  pub times_more : (x : A) (after : Left) → i < count → item rest ≡ Ok (x, after) → SoFar → behind (front ++ x ∷ []) (times (count - (i + 1)) item after) ≡ total
  times_more x after lt found so_far =
      let k : count - i ≡ suc (count - (i + 1)) = omega arith in
      let one : behind front (times (count - i) item rest) ≡ behind (front ++ x ∷ []) (times (count - (i + 1)) item after) = rw (k, found) (regroup front x (times (count - (i + 1)) item after)) in
      sym one ∙ so_far

  pub times_end : count ≤ i → SoFar → total ≡ Ok (front, rest)
  times_end le so_far =
      let k : count - i ≡ 0 = omega arith in
      let one : behind front (times (count - i) item rest) ≡ Ok (front, rest) = rw k (ap (λ (xs : List A). Ok (xs, rest)) (append-nil front)) in
      sym so_far ∙ one
