-- SPDX-License-Identifier: Apache-2.0
-- SPDX-FileCopyrightText: Copyright the Vortex contributors

-- Joining texts one at a time.
use Rattle.std.proofs.Common.{◌≡◌, ℕ, ◌+◌, ◌<◌, List, [], ◌∷◌, ◌++◌, length, take, get_or, ap, sym, ◌∙◌, append-nil, append_assoc, arith, length-take}
use Rattle.std.specs.List.{flat_map, join_by}
use Rattle.std.proofs.lemmas.Grind.{flat_map-append}
use Rattle.std.proofs.lemmas.List.{take_more}

module _ {X : Type 0} (f : X → List ℕ) (sep : List ℕ) where
  joined_push : (xs : List X) (x : X) → 0 < length xs → join_by f sep (xs ++ x ∷ []) ≡ join_by f sep xs ++ (sep ++ f x)
  joined_push [] x some = absurd (omega arith)
  joined_push (y ∷ ys) x some =
      let later = λ (z : X). sep ++ f z in
      ap (λ bs. f y ++ bs) (flat_map-append later ys (x ∷ []) ∙ ap (λ bs. flat_map later ys ++ bs) (append-nil (sep ++ f x)))
      ∙ sym (append_assoc (f y) (flat_map later ys) (sep ++ f x))

  taken : (xs : List X) (i : ℕ) (x : X) → i < length xs → x ≡ get_or xs i x → join_by f sep (take (i + 1) xs) ≡ join_by f sep (take i xs ++ x ∷ [])
  taken xs i x h is = ap (join_by f sep) (take_more xs i x h ∙ ap (λ y. take i xs ++ y ∷ []) (sym is))

  -- the first text alone
  pub joined_first : (xs : List X) (i : ℕ) (x : X) → i < length xs → x ≡ get_or xs i x → i ≡ 0 → join_by f sep (take i xs) ++ f x ≡ join_by f sep (take (i + 1) xs)
  joined_first xs i x h is none = let one = rw none at (taken xs i x h is) in rw none (sym (one ∙ append-nil (f x)))

  -- a later text, after the separator
  pub joined_more : (xs : List X) (i : ℕ) (x : X) → i < length xs → x ≡ get_or xs i x → 0 < i → join_by f sep (take i xs) ++ (sep ++ f x) ≡ join_by f sep (take (i + 1) xs)
  joined_more xs i x h is some = sym (taken xs i x h is ∙ joined_push (take i xs) x (omega (arith, length-take i xs)))
