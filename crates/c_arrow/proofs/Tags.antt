-- SPDX-License-Identifier: Apache-2.0
-- SPDX-FileCopyrightText: Copyright the Vortex contributors

-- The tags of a union, written one after the other as the loop does.
use Rattle.std.proofs.Common.{◌≡◌, ℕ, ◌+◌, ◌<◌, List, ◌++◌, length, get_or, drop, Bool, true, false, codes, refl, sym, ◌∙◌, append_assoc}
use Rattle.std.specs.Fmt.{decimal}
use Rattle.std.specs.List.{list_all}
use Rattle.c_arrow.specs.FormatsWritten.{is_id, joined}
use Rattle.c_arrow.proofs.Leaves.{drop_next}

module _ (tags : List ℕ) (i : ℕ) (lt : i < length tags) where
  pub ids_more : (total : Bool) → is_id (get_or tags i 0) ≡ true → list_all is_id (drop i tags) ≡ total → list_all is_id (drop (i + 1) tags) ≡ total
  ids_more total id so_far =
      let one : list_all is_id (drop i tags) ≡ list_all is_id (drop (i + 1) tags) = rw (drop_next tags i lt, id) refl in
      sym one ∙ so_far

  pub no_id : is_id (get_or tags i 0) ≡ false → list_all is_id (drop i tags) ≡ false
  no_id bad = rw (drop_next tags i lt, bad) refl

  pub joined_more : (before format total : List ℕ) → format ++ joined before (drop i tags) ≡ total → (format ++ (before ++ decimal (get_or tags i 0))) ++ joined (codes ",") (drop (i + 1) tags) ≡ total
  joined_more before format total so_far =
      let one : format ++ joined before (drop i tags) ≡ (format ++ (before ++ decimal (get_or tags i 0))) ++ joined (codes ",") (drop (i + 1) tags) =
      rw (drop_next tags i lt) (simp append_assoc refl) in
      sym one ∙ so_far

pub ruleset tags = (no_id)
