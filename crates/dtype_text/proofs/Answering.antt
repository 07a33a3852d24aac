-- SPDX-License-Identifier: Apache-2.0
-- SPDX-FileCopyrightText: Copyright the Vortex contributors

-- How what is read of parts makes what is read of the whole.
use Rattle.std.proofs.Common.{◌≡◌, ℕ, ◌<◌, ◌≤◌, refl, sym, subst}
use Rattle.dtype_base.specs.declared.vortex_error.VortexError.{VortexError}
use Rattle.dtype_text.specs.Outcome.{Outcome, got, misspelled, refused, too_deep, ◌>>=◌, Answers}

-- what is read of a part, and then of what is behind it
pub through : {A B : Type 0} (x : A) (V W : Type 0) (E F : VortexError → Type 0) (m k n l : ℕ) (y : B) (r : Outcome A) (f : A → Outcome B)
    → Answers x V E m k r → (W → V) → ((e : VortexError) → E e → F e) → (k < m → l < n) → (V → m ≤ k → Answers y W F n l (f x)) → Answers y W F n l (r >>= f)
through x V W E F m k n l y (got z) f a valid has deeper go = subst (λ u. Answers y W F n l (f u)) (sym a.0) (go a.1 a.2)
through x V W E F m k n l y misspelled f a valid has deeper go = absurd a
through x V W E F m k n l y (refused e) f a valid has deeper go = (λ w. a.0 (valid w), has e a.1)
through x V W E F m k n l y (too_deep d) f a valid has deeper go = deeper a

-- the same outcome, reached in another way
pub under : {A : Type 0} (x : A) (V : Type 0) (E : VortexError → Type 0) (m k : ℕ) (r s : Outcome A) → r ≡ s → Answers x V E m k s → Answers x V E m k r
under x V E m k r s e a = subst (λ o. Answers x V E m k o) (sym e) a

pub as_got : {A : Type 0} (x : A) (V : Type 0) (E : VortexError → Type 0) (m k : ℕ) (r : Outcome A) → r ≡ got x → V → m ≤ k → Answers x V E m k r
as_got x V E m k r e v le = under x V E m k r (got x) e (refl, v, le)

-- the same answer, with its conditions said in other words
pub reworded : {A : Type 0} (x : A) (V W : Type 0) (E F : VortexError → Type 0) (m n k : ℕ) (r : Outcome A) → (V → W) → (W → V) → ((e : VortexError) → E e → F e) → m ≡ n → Answers x V E m k r → Answers x W F n k r
reworded x V W E F m n k (got y) f g h e a = (a.0, f a.1, subst (λ (i : ℕ). i ≤ k) e a.2)
reworded x V W E F m n k misspelled f g h e a = a
reworded x V W E F m n k (refused v) f g h e a = (λ w. a.0 (g w), h v a.1)
reworded x V W E F m n k (too_deep d) f g h e a = subst (λ (i : ℕ). k < i) e a
