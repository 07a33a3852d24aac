-- SPDX-License-Identifier: Apache-2.0
-- SPDX-FileCopyrightText: Copyright the Vortex contributors

-- Type ids, read byte by byte as the loop does.
use Rattle.std.proofs.Common.{◌≡◌, ℕ, ◌+◌, ◌<◌, List, [], ◌∷◌, ◌++◌, length, get_or, drop, false, nat_eq, Option, Some, None, refl, sym, ap, ◌∙◌, append_assoc}
use Rattle.c_arrow.specs.Ids.{ended, id_with, ids_after}
use Rattle.c_arrow.proofs.Leaves.{drop_next}

-- the ids that were read before, and those that are still read
abbrev pub with_front : List ℕ → Option (List ℕ) → Option (List ℕ)
with_front front None = None
with_front front (Some ids) = Some (front ++ ids)

regroup : (front : List ℕ) (id : ℕ) (read : Option (List ℕ)) → with_front front (ended (Some id) read) ≡ with_front (front ++ id ∷ []) read
regroup front id None = refl
regroup front id (Some ids) = ap Some (simp append_assoc refl)

module _ (front : List ℕ) (bytes : List ℕ) (i : ℕ) (total : Option (List ℕ)) where
  abbrev pub SoFar : Option ℕ → Type 0
  SoFar id = with_front front (ids_after id (drop i bytes)) ≡ total

  pub no_id_ends : i < length bytes → get_or bytes i 0 ≡ 44 → SoFar None → total ≡ None
  no_id_ends lt comma so_far =
      let one : with_front front (ids_after None (drop i bytes)) ≡ None = rw (drop_next bytes i lt, comma) refl in
      sym so_far ∙ one

  pub id_ends : (id : ℕ) → i < length bytes → get_or bytes i 0 ≡ 44 → SoFar (Some id) → with_front (front ++ id ∷ []) (ids_after None (drop (i + 1) bytes)) ≡ total
  id_ends id lt comma so_far =
      let one : with_front front (ids_after (Some id) (drop i bytes)) ≡ with_front (front ++ id ∷ []) (ids_after None (drop (i + 1) bytes)) =
      rw (drop_next bytes i lt, comma) (regroup front id (ids_after None (drop (i + 1) bytes))) in
      sym one ∙ so_far

  pub no_digit : (id : Option ℕ) → i < length bytes → nat_eq (get_or bytes i 0) 44 ≡ false → id_with id (get_or bytes i 0) ≡ None → SoFar id → total ≡ None
  no_digit id lt other bad so_far =
      let one : with_front front (ids_after id (drop i bytes)) ≡ None = rw (drop_next bytes i lt, other, bad) refl in
      sym so_far ∙ one

  pub a_digit : (id : Option ℕ) (n : ℕ) → i < length bytes → nat_eq (get_or bytes i 0) 44 ≡ false → id_with id (get_or bytes i 0) ≡ Some n → SoFar id
      → with_front front (ids_after (Some n) (drop (i + 1) bytes)) ≡ total
  a_digit id n lt other good so_far =
      let one : with_front front (ids_after id (drop i bytes)) ≡ with_front front (ids_after (Some n) (drop (i + 1) bytes)) = rw (drop_next bytes i lt, other, good) refl in
      sym one ∙ so_far

pub ruleset ids = (no_id_ends, id_ends, no_digit, a_digit)
