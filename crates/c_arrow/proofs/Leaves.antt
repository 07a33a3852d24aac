-- SPDX-License-Identifier: Apache-2.0
-- SPDX-FileCopyrightText: Copyright the Vortex contributors

-- What readers of formats need, and what a test tells that is two tests.
use Rattle.std.proofs.Common.{◌≡◌, ℕ, suc, ◌+◌, ◌<◌, Bool, true, false, ◌&&◌, List, ◌∷◌, length, get_or, drop, refl, ap, ◌∙◌, arith, drop-cons}
use Rattle.std.specs.Str.{is_utf8, IsUtf8}
use Rattle.std.proofs.lemmas.Bool.{false_from_ne_true}
use Rattle.std.proofs.lemmas.List.Sums.{prefix_len-le-length}
use Rattle.std.proofs.lemmas.Str.{is_utf8-from_IsUtf8, IsUtf8-from_is_utf8}
use Rattle.dtype_text.specs.Read.{◌>>=◌}
use Rattle.c_arrow.specs.Numbers.{digit_after, number_after}

pub ruleset lens = (prefix_len-le-length)

pub utf8_false : (bs : List ℕ) → (IsUtf8 bs → ⊥) → is_utf8 bs ≡ false
utf8_false bs h = false_from_ne_true (is_utf8 bs) (λ e. h (IsUtf8-from_is_utf8 bs e))

pub ruleset utf8 = (is_utf8-from_IsUtf8, utf8_false)

-- both of two tests
pub both : (a b : Bool) → (a && b) ≡ true → (a ≡ true) × (b ≡ true)
both true true e = (refl, refl)
both true false e = absurd cc
both false b e = absurd cc

-- the items from one on
pub drop_next : (xs : List ℕ) (i : ℕ) → i < length xs → drop i xs ≡ get_or xs i 0 ∷ drop (i + 1) xs
drop_next xs i lt =
    let one : suc i ≡ i + 1 = omega arith in
    drop-cons xs i 0 lt ∙ ap (λ (k : ℕ). get_or xs i 0 ∷ drop k xs) one

-- one more digit is read
pub number_step : (n i : ℕ) (word : List ℕ) → i < length word → number_after n (drop i word) ≡ (digit_after n (get_or word i 0) >>= λ m. number_after m (drop (i + 1) word))
number_step n i word lt = ap (number_after n) (drop_next word i lt)

pub ruleset numbers = (number_step)
