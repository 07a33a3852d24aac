-- SPDX-License-Identifier: Apache-2.0
-- SPDX-FileCopyrightText: Copyright the Vortex contributors

-- The narrowest integer type that can hold an offset. From the documentation of `match_smallest_offset_type`.
use Rattle.std.specs.Prelude.{ℕ, ◌≤◌, List, All, Contains}
use Rattle.dtype_base.specs.declared.ptype.PType.{PType}
use Rattle.dtype_base.specs.Primitives.{ptype_row}

-- the greatest value of the type p is at least n
abbrev pub FitsIn : ℕ → PType → Type 0
FitsIn n p = n ≤ (ptype_row p).greatest

-- p is the narrowest of these types that can hold n
pub record IsLeastReaching (names : List PType) (n : ℕ) (p : PType) : Type 0 where
  pub among : Contains names p
  pub fits : FitsIn n p
  pub least : All (λ q. FitsIn n q → FitsIn (ptype_row p).greatest q) names

-- r is an answer for the narrowest of these types that can hold n
abbrev pub AnswersLeast : {A : Type 0} → (PType → A → Type 0) → List PType → ℕ → A → Type 0
AnswersLeast answers names n r = (p : PType) × IsLeastReaching names n p × answers p r
