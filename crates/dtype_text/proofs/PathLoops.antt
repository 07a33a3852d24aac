-- SPDX-License-Identifier: Apache-2.0
-- SPDX-FileCopyrightText: Copyright the Vortex contributors

-- Steps of a path, read and written one after the other, as a loop does.
use Rattle.std.proofs.Common.{◌≡◌, ℕ, suc, ◌-◌, ◌+◌, ◌≤◌, ◌<◌, List, [], ◌∷◌, ◌++◌, Option, Some, None, get_or, length, take, refl, sym, ap, subst, ◌∙◌, append_assoc, append-nil, arith}
use Rattle.std.specs.List.{flat_map}
use Rattle.std.proofs.lemmas.Grind.{flat_map-append}
use Rattle.std.proofs.lemmas.List.{take_more}
use Rattle.dtype_paths.specs.declared.field.Field.{Field}
use Rattle.dtype_text.specs.declared.fault.Fault.{Fault}
use Rattle.dtype_text.specs.Read.{Fails, byte_at, with_first}
use Rattle.dtype_text.specs.Paths.{step_at, steps_at}
use Rattle.dtype_text.specs.PathSource.{IsTextStep, HasTextSteps, dotted_source}
use Rattle.dtype_text.proofs.Loops.{with_front, fails_none}

regroup : (front : List Field) (f : Field) (read : Option (List Field × List ℕ)) → with_front front (with_first f read) ≡ with_front (front ++ f ∷ []) read
regroup front f None = refl
regroup front f (Some fs) = ap (λ gs. Some (gs, fs.1)) (simp append_assoc refl)

module _ (front : List Field) (count i : ℕ) (rest : List ℕ) (total : Option (List Field × List ℕ)) where
  abbrev pub Left : Type 0
  Left = with_front front (steps_at (count - i) rest) ≡ total

  pub steps_fail : (e : Fault) → i < count → Fails e (step_at rest) → Left → Fails e total
  steps_fail e lt failed so_far =
      fails_none e (step_at rest) total failed (λ none.
      let k : count - i ≡ suc (count - (i + 1)) = omega arith in
      let one : with_front front (steps_at (count - i) rest) ≡ None = rw (k, none) refl in
      sym so_far ∙ one)

  module _ (f : Field) (after : List ℕ) (lt : i < count) (got : step_at rest ≡ Some (f, after)) (so_far : Left) where
    pub steps_end : byte_at 46 after ≡ None → total ≡ Some (front ++ f ∷ [], after)
    steps_end closed =
        let k : count - i ≡ suc (count - (i + 1)) = omega arith in
        let one : with_front front (steps_at (count - i) rest) ≡ Some (front ++ f ∷ [], after) = rw (k, got, closed) refl in
        sym so_far ∙ one

    pub steps_go_on : (next : List ℕ) → byte_at 46 after ≡ Some next → with_front (front ++ f ∷ []) (steps_at (count - (i + 1)) next) ≡ total
    steps_go_on next dot =
        let k : count - i ≡ suc (count - (i + 1)) = omega arith in
        let one : with_front front (steps_at (count - i) rest) ≡ with_front (front ++ f ∷ []) (steps_at (count - (i + 1)) next) = rw (k, got, dot) (regroup front f (steps_at (count - (i + 1)) next)) in
        sym one ∙ so_far

  pub steps_out : count ≤ i → Left → total ≡ None
  steps_out le so_far =
      let k : count - i ≡ 0 = omega arith in
      let one : with_front front (steps_at (count - i) rest) ≡ None = rw k refl in
      sym so_far ∙ one

-- ---- what is written

-- one more step is written
pub steps_more : (p : List Field) (i : ℕ) (d : Field) → i < length p → flat_map dotted_source (take (i + 1) p) ≡ flat_map dotted_source (take i p) ++ dotted_source (get_or p i d)
steps_more p i d lt =
    ap (flat_map dotted_source) (take_more p i d lt) ∙ flat_map-append dotted_source (take i p) (get_or p i d ∷ []) ∙ ap (λ x. flat_map dotted_source (take i p) ++ x) (append-nil (dotted_source (get_or p i d)))

-- one more step has a name that is UTF-8
all_pushed : (p : List Field) (f : Field) → HasTextSteps p → IsTextStep f → HasTextSteps (p ++ f ∷ [])
all_pushed [] f h t = (t, tt)
all_pushed (g ∷ p) f h t = (h.0, all_pushed p f h.1 t)

pub texts_more : (p : List Field) (i : ℕ) (d : Field) → i < length p → HasTextSteps (take i p) → IsTextStep (get_or p i d) → HasTextSteps (take (i + 1) p)
texts_more p i d lt h t = subst HasTextSteps (sym (take_more p i d lt)) (all_pushed (take i p) (get_or p i d) h t)
