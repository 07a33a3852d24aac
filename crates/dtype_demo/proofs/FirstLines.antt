-- SPDX-License-Identifier: Apache-2.0
-- SPDX-FileCopyrightText: Copyright the Vortex contributors

-- What is cut off a text at its first newline is its first line.
use Rattle.std.proofs.Common.{◌≡◌, ℕ, ◌+◌, ◌<◌, ◌==◌, List, [], ◌∷◌, length, cond, not, Bool, true, false, Option, Some, None, MatchOption, refl, sym, ap, ◌∙◌, arith}
use borrow.Author.Tests.{ne_eqb}
use Rattle.std.specs.Borrow.{Bor}
use Rattle.std.specs.List.{after_first, before_first, onto_first, position_or_len, slice_split}
use Rattle.std.specs.Option.{unwrap_or}
use Rattle.std.proofs.lemmas.List.Splits.{length-slice_split, slice_split_first}
use Rattle.dtype_demo.specs.Lines.{lines_of, without_empty_end}

abbrev is_newline : ℕ → Bool
is_newline b = b == 10

one_piece : (w : List ℕ) → position_or_len is_newline w ≡ length w → slice_split is_newline w ≡ w ∷ []
one_piece [] none = refl
one_piece (b ∷ bs) none = go (is_newline b) (λ e. one_piece bs e) none
  where
    go : (t : Bool) → (position_or_len is_newline bs ≡ length bs → slice_split is_newline bs ≡ bs ∷ []) → cond (not t) (1 + position_or_len is_newline bs) 0 ≡ length (b ∷ bs) → cond t ([] ∷ slice_split is_newline bs) (onto_first b (slice_split is_newline bs)) ≡ (b ∷ bs) ∷ []
    go true rest e = absurd (omega arith)
    go false rest e = ap (onto_first b) (rest (omega arith))

more_pieces : (x : List ℕ) (ys : List (List ℕ)) → 0 < length ys → without_empty_end (x ∷ ys) ≡ x ∷ without_empty_end ys
more_pieces x [] some = absurd (omega arith)
more_pieces x (y ∷ ys) some = refl

-- by the clause `byte` of `split_once`; without a newline the text is the line, and nothing is after it
pub first_line_is : (w : List ℕ) (r : Option (Bor (List ℕ) × Bor (List ℕ))) (whole : Bor (List ℕ) × Bor (List ℕ)) → 0 < length w → whole.0.now ≡ w → whole.1.now ≡ []
    → MatchOption r (position_or_len is_newline w ≡ length w) (λ x. (x.0.now ≡ before_first is_newline w) × (x.1.now ≡ after_first is_newline w) × (position_or_len is_newline w < length w))
    → lines_of w ≡ (unwrap_or r whole).0.now ∷ lines_of (unwrap_or r whole).1.now
first_line_is w None whole some all nothing none = ap without_empty_end (one_piece w none) ∙ ap (λ t. cond t [] (w ∷ [])) (ne_eqb (length w) 0 (λ z. omega arith)) ∙ (λ i. sym all i ∷ lines_of (sym nothing i))
first_line_is w (Some x) whole some all nothing cut =
    ap without_empty_end (slice_split_first is_newline w 0 cut.2) ∙ more_pieces (before_first is_newline w) (slice_split is_newline (after_first is_newline w)) (omega (arith, length-slice_split is_newline (after_first is_newline w))) ∙ (λ i. sym cut.0 i ∷ lines_of (sym cut.1 i))
