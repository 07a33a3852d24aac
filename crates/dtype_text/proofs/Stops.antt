-- SPDX-License-Identifier: Apache-2.0
-- SPDX-FileCopyrightText: Copyright the Vortex contributors

-- Where reading stops in a loop over what is read.
use Rattle.std.proofs.Common.{◌≡◌, ℕ, suc, ◌-◌, ◌+◌, ◌<◌, List, Option, Some, None, refl, sym, ◌∙◌, arith}
use Rattle.dtype_paths.specs.declared.field.Field.{Field}
use Rattle.dtype_text.specs.Leaves.{unit_at}
use Rattle.dtype_text.specs.Paths.{step_at}
use Rattle.dtype_text.specs.Places.{IsAt, Place, step_stop, steps_stop, unit_stop, units_stop}
use Rattle.dtype_text.specs.Read.{Fails, byte_at}
use Rattle.dtype_text.specs.declared.fault.Fault.{Fault}
use Rattle.dtype_text.specs.declared.fault.Fault.TheVariants.{Memory, Refused, TooDeep, Misread}

-- the fault of a part is that of all, if it is where all stops
at_once : {A : Type 0} (e : Fault) (read : Option A) (p q : Place) → Fails e read → (read ≡ None → p ≡ q) → IsAt p e → IsAt q e
at_once Memory read p q failed same at = tt
at_once (Refused v) read p q failed same at = tt
at_once (TooDeep l) read p q failed same at = tt
at_once (Misread l x) read p q failed same at = sym (same failed) ∙ at

module _ (count i : ℕ) (rest : List ℕ) where
  pub units_stop_more : (b : ℕ) (after : List ℕ) (p : Place) → i < count → unit_at rest ≡ Some (b, after) → units_stop (count - i) rest ≡ p → units_stop (count - (i + 1)) after ≡ p
  units_stop_more b after p lt read so_far =
      let k : count - i ≡ suc (count - (i + 1)) = omega arith in
      let one : units_stop (count - i) rest ≡ units_stop (count - (i + 1)) after = rw (k, read) refl in
      sym one ∙ so_far

  pub units_stop_here : (e : Fault) (p : Place) → i < count → Fails e (unit_at rest) → IsAt (unit_stop rest) e → units_stop (count - i) rest ≡ p → IsAt p e
  units_stop_here e p lt failed at so_far =
      at_once e (unit_at rest) (unit_stop rest) p failed (λ none.
      let k : count - i ≡ suc (count - (i + 1)) = omega arith in
      let one : units_stop (count - i) rest ≡ unit_stop rest = rw (k, none) refl in
      sym one ∙ so_far) at

  pub steps_stop_more : (f : Field) (after next : List ℕ) (p : Place) → i < count → step_at rest ≡ Some (f, after) → byte_at 46 after ≡ Some next → steps_stop (count - i) rest ≡ p → steps_stop (count - (i + 1)) next ≡ p
  steps_stop_more f after next p lt read dot so_far =
      let k : count - i ≡ suc (count - (i + 1)) = omega arith in
      let one : steps_stop (count - i) rest ≡ steps_stop (count - (i + 1)) next = rw (k, read, dot) refl in
      sym one ∙ so_far

  pub steps_stop_here : (e : Fault) (p : Place) → i < count → Fails e (step_at rest) → IsAt (step_stop rest) e → steps_stop (count - i) rest ≡ p → IsAt p e
  steps_stop_here e p lt failed at so_far =
      at_once e (step_at rest) (step_stop rest) p failed (λ none.
      let k : count - i ≡ suc (count - (i + 1)) = omega arith in
      let one : steps_stop (count - i) rest ≡ step_stop rest = rw (k, none) refl in
      sym one ∙ so_far) at
