-- SPDX-License-Identifier: Apache-2.0
-- SPDX-FileCopyrightText: Copyright the Vortex contributors

-- Steps with different keys are different, and short names with equal keys are equal.
use Rattle.std.proofs.Common.{◌≡◌, ◌≢◌, ◌≤◌, ◌<◌, ◌+◌, ◌-◌, ◌*◌, ◌∙◌, ℕ, zero, suc, false, List, [], ◌∷◌, length, get_or, drop, min, refl, sym, ap, arith}
use Rattle.std.specs.Int.{w64, from_be_bytes}
use Rattle.std.proofs.lemmas.List.{drop_all, drop_more}
use Rattle.std.proofs.lemmas.List.Elements.{All-tail}
use Rattle.dtype_base.specs.Bytes.{Bytes}
use Rattle.dtype_paths.specs.Equality.{same_field}
use Rattle.dtype_paths.specs.EqualityLaws.{same_field-Decides}
use Rattle.dtype_paths.specs.private.StepKeys.{name_step_key, step_key, with_bytes, HasBytes, IsExactKey}
use Rattle.dtype_paths.specs.declared.field.Field.{Field}
use Rattle.dtype_paths.proofs.lemmas.Cases.{by_bool}

-- ---- how a key is read

-- k bytes of a name, from position s on
abbrev bytes_from : ℕ → ℕ → List ℕ → List ℕ
bytes_from zero s n = []
bytes_from (suc k) s n = get_or n s 0 ∷ bytes_from k (suc s) n

last-bytes : (k s : ℕ) (n : List ℕ) → length n ≡ s + k → drop s n ≡ bytes_from k s n
last-bytes zero s n e = drop_all s n (omega (arith, e))
last-bytes (suc k) s n e =
    let next : s + 1 ≡ suc s = omega arith in
    drop_more n s 0 (omega (arith, e)) ∙ ap (λ (r : List ℕ). get_or n s 0 ∷ r) (ap (λ (j : ℕ). drop j n) next ∙ last-bytes k (suc s) n (omega (arith, e)))

-- a key of so many last bytes, from position s on
key-from : (k s l : ℕ) (n : List ℕ) → length n ≡ s + k → s ≡ length n - 7 → l ≡ min (length n) 8 → with_bytes 0 (bytes_from k s n) * 256 + l ≡ name_step_key n
unfolding name_step_key
key-from k s l n e at len =
    ap (λ (r : List ℕ). with_bytes 0 r * 256 + l) (sym (last-bytes k s n e))
    ∙ ap (λ (j : ℕ). with_bytes 0 (drop j n) * 256 + l) at
    ∙ ap (λ (m : ℕ). with_bytes 0 (drop (length n - 7) n) * 256 + m) len

-- eight bytes that are read at once
read-at-once : (a b c d e f g l : ℕ) → from_be_bytes w64 (a ∷ b ∷ c ∷ d ∷ e ∷ f ∷ g ∷ l ∷ []) ≡ with_bytes 0 (a ∷ b ∷ c ∷ d ∷ e ∷ f ∷ g ∷ []) * 256 + l
read-at-once a b c d e f g l = omega arith

module _ (n : List ℕ) where
  short : (k : ℕ) → length n ≡ k → k ≤ 7 → with_bytes 0 (bytes_from k 0 n) * 256 + k ≡ name_step_key n
  short k e few = key-from k 0 k n (omega (arith, e)) (omega (arith, e, few)) (omega (arith, e, few))

  pub key_of_none : length n ≡ 0 → 0 ≡ name_step_key n
  key_of_none e = short 0 e (omega arith)

  pub key_of_1 : length n ≡ 1 → from_be_bytes w64 (0 ∷ 0 ∷ 0 ∷ 0 ∷ 0 ∷ 0 ∷ get_or n 0 0 ∷ 1 ∷ []) ≡ name_step_key n
  key_of_1 e = read-at-once 0 0 0 0 0 0 (get_or n 0 0) 1 ∙ short 1 e (omega arith)

  pub key_of_2 : length n ≡ 2 → from_be_bytes w64 (0 ∷ 0 ∷ 0 ∷ 0 ∷ 0 ∷ get_or n 0 0 ∷ get_or n 1 0 ∷ 2 ∷ []) ≡ name_step_key n
  key_of_2 e = read-at-once 0 0 0 0 0 (get_or n 0 0) (get_or n 1 0) 2 ∙ short 2 e (omega arith)

  pub key_of_3 : length n ≡ 3 → from_be_bytes w64 (0 ∷ 0 ∷ 0 ∷ 0 ∷ get_or n 0 0 ∷ get_or n 1 0 ∷ get_or n 2 0 ∷ 3 ∷ []) ≡ name_step_key n
  key_of_3 e = read-at-once 0 0 0 0 (get_or n 0 0) (get_or n 1 0) (get_or n 2 0) 3 ∙ short 3 e (omega arith)

  pub key_of_4 : length n ≡ 4 → from_be_bytes w64 (0 ∷ 0 ∷ 0 ∷ get_or n 0 0 ∷ get_or n 1 0 ∷ get_or n 2 0 ∷ get_or n 3 0 ∷ 4 ∷ []) ≡ name_step_key n
  key_of_4 e = read-at-once 0 0 0 (get_or n 0 0) (get_or n 1 0) (get_or n 2 0) (get_or n 3 0) 4 ∙ short 4 e (omega arith)

  pub key_of_5 : length n ≡ 5 → from_be_bytes w64 (0 ∷ 0 ∷ get_or n 0 0 ∷ get_or n 1 0 ∷ get_or n 2 0 ∷ get_or n 3 0 ∷ get_or n 4 0 ∷ 5 ∷ []) ≡ name_step_key n
  key_of_5 e = read-at-once 0 0 (get_or n 0 0) (get_or n 1 0) (get_or n 2 0) (get_or n 3 0) (get_or n 4 0) 5 ∙ short 5 e (omega arith)

  pub key_of_6 : length n ≡ 6 → from_be_bytes w64 (0 ∷ get_or n 0 0 ∷ get_or n 1 0 ∷ get_or n 2 0 ∷ get_or n 3 0 ∷ get_or n 4 0 ∷ get_or n 5 0 ∷ 6 ∷ []) ≡ name_step_key n
  key_of_6 e = read-at-once 0 (get_or n 0 0) (get_or n 1 0) (get_or n 2 0) (get_or n 3 0) (get_or n 4 0) (get_or n 5 0) 6 ∙ short 6 e (omega arith)

  pub key_of_7 : length n ≡ 7 → from_be_bytes w64 (get_or n 0 0 ∷ get_or n 1 0 ∷ get_or n 2 0 ∷ get_or n 3 0 ∷ get_or n 4 0 ∷ get_or n 5 0 ∷ get_or n 6 0 ∷ 7 ∷ []) ≡ name_step_key n
  key_of_7 e = read-at-once (get_or n 0 0) (get_or n 1 0) (get_or n 2 0) (get_or n 3 0) (get_or n 4 0) (get_or n 5 0) (get_or n 6 0) 7 ∙ short 7 e (omega arith)

  pub key_of_more : 8 ≤ length n → from_be_bytes w64 (get_or n (length n - 7) 0 ∷ get_or n (length n - 6) 0 ∷ get_or n (length n - 5) 0 ∷ get_or n (length n - 4) 0
      ∷ get_or n (length n - 3) 0 ∷ get_or n (length n - 2) 0 ∷ get_or n (length n - 1) 0 ∷ 8 ∷ []) ≡ name_step_key n
  key_of_more long =
      let s = length n - 7 in
      let b : length n - 6 ≡ suc s = omega (arith, long) in
      let c : length n - 5 ≡ suc (suc s) = omega (arith, long) in
      let d : length n - 4 ≡ suc (suc (suc s)) = omega (arith, long) in
      let e : length n - 3 ≡ suc (suc (suc (suc s))) = omega (arith, long) in
      let f : length n - 2 ≡ suc (suc (suc (suc (suc s)))) = omega (arith, long) in
      let g : length n - 1 ≡ suc (suc (suc (suc (suc (suc s))))) = omega (arith, long) in
      (λ i. from_be_bytes w64 (get_or n s 0 ∷ get_or n (b i) 0 ∷ get_or n (c i) 0 ∷ get_or n (d i) 0 ∷ get_or n (e i) 0 ∷ get_or n (f i) 0 ∷ get_or n (g i) 0 ∷ 8 ∷ []))
      ∙ read-at-once (get_or n s 0) (get_or n (suc s) 0) (get_or n (suc (suc s)) 0) (get_or n (suc (suc (suc s))) 0) (get_or n (suc (suc (suc (suc s)))) 0)
      (get_or n (suc (suc (suc (suc (suc s))))) 0) (get_or n (suc (suc (suc (suc (suc (suc s)))))) 0) 8
      ∙ key-from 7 s 8 n (omega (arith, long)) refl (omega (arith, long))

pub ruleset name_keys = (key_of_none, key_of_1, key_of_2, key_of_3, key_of_4, key_of_5, key_of_6, key_of_7, key_of_more)

-- as many bytes that make the same number are the same
same_bytes : (k j : ℕ) (m n : List ℕ) → length m ≡ length n → Bytes m → Bytes n → with_bytes k m ≡ with_bytes j n → (k ≡ j) × (m ≡ n)
same_bytes k j [] [] long hm hn e = (e, refl)
same_bytes k j (b ∷ m) (c ∷ n) long hm hn e =
    let w = same_bytes (k * 256 + b) (j * 256 + c) m n (omega (arith, long)) (All-tail (λ d. d < 256) b m hm) (All-tail (λ d. d < 256) c n hn) e in
    let sum : k * 256 + b ≡ j * 256 + c = w.0 in
    let less_b : b < 256 = hm 0 b (omega arith) in
    let less_c : c < 256 = hn 0 c (omega arith) in
    let first : b ≡ c = omega (arith, sum, less_b, less_c) in
    (omega (arith, sum, less_b, less_c), λ i. (first i ∷ w.1 i))
same_bytes k j _ _ long hm hn e = absurd (omega (arith, long))

-- ---- keys

-- a step with an exact key is equal to each step of that key
pub told : (f g : Field) → HasBytes f → HasBytes g → IsExactKey f → step_key f ≡ step_key g → f ≡ g
unfolding step_key name_step_key HasBytes IsExactKey
told f g h e is a = grind (arith, same_bytes)

-- steps of different keys differ
pub keys_differ : (f g : Field) → step_key g ≢ step_key f → same_field f g ≡ false
keys_differ f g ne = by_bool (same_field f g) (λ e. absurd (ne (sym (ap step_key ((same_field-Decides f g).0 e))))) (λ e. e)
