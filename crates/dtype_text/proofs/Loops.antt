-- SPDX-License-Identifier: Apache-2.0
-- SPDX-FileCopyrightText: Copyright the Vortex contributors

-- Items read one after the other, as a loop does.
use Rattle.std.proofs.Common.{◌≡◌, ℕ, suc, ◌-◌, ◌+◌, ◌≤◌, ◌<◌, List, [], ◌∷◌, ◌++◌, true, false, Option, Some, None, refl, sym, ap, ◌∙◌, append_assoc, arith}
use Rattle.std.proofs.lemmas.List.{append-nil}
use Rattle.dtype_base.specs.declared.vortex_error.VortexError.{VortexError}
use Rattle.dtype_text.specs.declared.fault.Fault.{Fault}
use Rattle.dtype_text.specs.declared.fault.Fault.TheVariants.{Memory, Refused, TooDeep, Misread}
use Rattle.dtype_text.specs.TypeParts.{end_at}
use Rattle.dtype_text.specs.Types.{Reader, separated}
use Rattle.dtype_text.specs.Outcome.{Outcome, got, misspelled, refused, too_deep, Stops}
use Rattle.dtype_text.specs.Outcome.{◌>>=◌ as then}
use Rattle.dtype_text.specs.Read.{Fails, with_first, until}

-- what was read before, and what is still read
abbrev pub with_front : {A : Type 0} → List A → Option (List A × List ℕ) → Option (List A × List ℕ)
with_front front None = None
with_front front (Some x) = Some (front ++ x.0, x.1)

regroup : {A : Type 0} (front : List A) (x : A) (read : Option (List A × List ℕ)) → with_front front (with_first x read) ≡ with_front (front ++ x ∷ []) read
regroup front x None = refl
regroup front x (Some xs) = ap (λ ys. Some (ys, xs.1)) (simp append_assoc refl)

pub fails_none : {A B : Type 0} (e : Fault) (a : Option A) (b : Option B) → Fails e a → (a ≡ None → b ≡ None) → Fails e b
fails_none Memory a b h f = tt
fails_none (Refused v) a b h f = h
fails_none (TooDeep l) a b h f = h
fails_none (Misread l x) a b h f = f h

module _ {A : Type 0} (close : List ℕ → Option (List ℕ)) (item : List ℕ → Option (A × List ℕ)) (front : List A) (count i : ℕ) (rest : List ℕ) (total : Option (List A × List ℕ)) where
  abbrev pub SoFar : Type 0
  SoFar = with_front front (until close item (count - i) rest) ≡ total

  pub until_closed : (after : List ℕ) → i < count → close rest ≡ Some after → SoFar → total ≡ Some (front, after)
  until_closed after lt h so_far =
      let k : count - i ≡ suc (count - (i + 1)) = omega arith in
      let one : with_front front (until close item (count - i) rest) ≡ Some (front, after) = rw (k, h) (ap (λ (xs : List A). Some (xs, after)) (append-nil front)) in
      sym so_far ∙ one

  pub until_more : (x : A) (after : List ℕ) → i < count → close rest ≡ None → item rest ≡ Some (x, after) → SoFar
      → with_front (front ++ x ∷ []) (until close item (count - (i + 1)) after) ≡ total
  until_more x after lt h read so_far =
      let k : count - i ≡ suc (count - (i + 1)) = omega arith in
      let one : with_front front (until close item (count - i) rest) ≡ with_front (front ++ x ∷ []) (until close item (count - (i + 1)) after) = rw (k, h, read) (regroup front x (until close item (count - (i + 1)) after)) in
      sym one ∙ so_far

  pub until_fails : (e : Fault) → i < count → close rest ≡ None → Fails e (item rest) → SoFar → Fails e total
  until_fails e lt h failed so_far =
      fails_none e (item rest) total failed (λ none.
      let k : count - i ≡ suc (count - (i + 1)) = omega arith in
      let one : with_front front (until close item (count - i) rest) ≡ None = rw (k, h, none) refl in
      sym so_far ∙ one)

  pub until_out : count ≤ i → SoFar → total ≡ None
  until_out le so_far =
      let k : count - i ≡ 0 = omega arith in
      let one : with_front front (until close item (count - i) rest) ≡ None = rw k refl in
      sym so_far ∙ one

-- ---- items that contain types

-- the same, where the library may refuse an item
abbrev pub behind : {A : Type 0} → List A → Outcome (List A × List ℕ) → Outcome (List A × List ℕ)
behind front (got x) = got (front ++ x.0, x.1)
behind front misspelled = misspelled
behind front (refused v) = refused v
behind front (too_deep l) = too_deep l

regroup_all : {A : Type 0} (front : List A) (x : A) (read : Outcome (List A × List ℕ)) → behind front (then read (λ xs. got (x ∷ xs.0, xs.1))) ≡ behind (front ++ x ∷ []) read
regroup_all front x (got xs) = ap (λ ys. got (ys, xs.1)) (simp append_assoc refl)
regroup_all front x misspelled = refl
regroup_all front x (refused v) = refl
regroup_all front x (too_deep l) = refl

-- what stops an item stops all
pub stops_all : {A B : Type 0} (e : Fault) (a : Outcome A) (b : Outcome B) → Stops e a → (a ≡ misspelled → b ≡ misspelled) → ((v : VortexError) → a ≡ refused v → b ≡ refused v) → ((l : ℕ) → a ≡ too_deep l → b ≡ too_deep l) → Stops e b
stops_all Memory a b h f g k = tt
stops_all (Refused v) a b h f g k = g v h
stops_all (TooDeep l) a b h f g k = k l h
stops_all (Misread l x) a b h f g k = f h

pub stops_then : {A B : Type 0} (e : Fault) (a : Outcome A) (f : A → Outcome B) → Stops e a → Stops e (then a f)
stops_then e a f h = stops_all e a (then a f) h (λ is. rw is refl) (λ v is. rw is refl) (λ l is. rw is refl)

pub stops_said : {A B : Type 0} (e : Fault) (a : Option A) (b : Outcome B) → Fails e a → (a ≡ None → b ≡ misspelled) → Stops e b
stops_said Memory a b h f = tt
stops_said (Refused v) a b h f = absurd h
stops_said (TooDeep l) a b h f = absurd h
stops_said (Misread l x) a b h f = f h

module _ {A : Type 0} (close : ℕ) (item : Reader A) (front : List A) (count i : ℕ) (rest : List ℕ) (total : Outcome (List A × List ℕ)) where
  abbrev pub Left : Type 0
  Left = behind front (separated close item (count - i) rest) ≡ total

  pub separated_stops : (e : Fault) → i < count → Stops e (item rest) → Left → Stops e total
  separated_stops e lt failed so_far =
      let k : count - i ≡ suc (count - (i + 1)) = omega arith in
      stops_all e (item rest) total failed
      (λ is. let one : behind front (separated close item (count - i) rest) ≡ misspelled = rw (k, is) refl in sym so_far ∙ one)
      (λ v is. let one : behind front (separated close item (count - i) rest) ≡ refused v = rw (k, is) refl in sym so_far ∙ one)
      (λ l is. let one : behind front (separated close item (count - i) rest) ≡ too_deep l = rw (k, is) refl in sym so_far ∙ one)

  module _ (x : A) (after : List ℕ) (lt : i < count) (found : item rest ≡ got (x, after)) (so_far : Left) where
    pub separated_ends : (e : Fault) → Fails e (end_at close after) → Stops e total
    separated_ends e failed =
        stops_said e (end_at close after) total failed (λ none.
        let k : count - i ≡ suc (count - (i + 1)) = omega arith in
        let one : behind front (separated close item (count - i) rest) ≡ misspelled = rw (k, found, none) refl in
        sym so_far ∙ one)

    pub separated_closed : (left : List ℕ) → end_at close after ≡ Some (true, left) → total ≡ got (front ++ x ∷ [], left)
    separated_closed left closed =
        let k : count - i ≡ suc (count - (i + 1)) = omega arith in
        let one : behind front (separated close item (count - i) rest) ≡ got (front ++ x ∷ [], left) = rw (k, found, closed) refl in
        sym so_far ∙ one

    pub separated_more : (left : List ℕ) → end_at close after ≡ Some (false, left) → behind (front ++ x ∷ []) (separated close item (count - (i + 1)) left) ≡ total
    separated_more left open_ =
        let k : count - i ≡ suc (count - (i + 1)) = omega arith in
        let one : behind front (separated close item (count - i) rest) ≡ behind (front ++ x ∷ []) (separated close item (count - (i + 1)) left) = rw (k, found, open_) (regroup_all front x (separated close item (count - (i + 1)) left)) in
        sym one ∙ so_far

  pub separated_out : count ≤ i → Left → total ≡ misspelled
  separated_out le so_far =
      let k : count - i ≡ 0 = omega arith in
      let one : behind front (separated close item (count - i) rest) ≡ misspelled = rw k refl in
      sym so_far ∙ one
