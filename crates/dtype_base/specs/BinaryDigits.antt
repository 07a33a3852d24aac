-- SPDX-License-Identifier: Apache-2.0
-- SPDX-FileCopyrightText: Copyright the Vortex contributors

-- The number of binary digits of a number; 0 has none. From arithmetic.
use Rattle.std.proofs.Common.{ℕ, zero, suc, ◌+◌, ◌<◌, ◌≤◌, ◌^◌, ◌==◌, cond}

-- `digits + 1` if n is 2 ^ digits, and otherwise `digits`
abbrev pub one_more : ℕ → ℕ → ℕ
one_more digits n = cond (2 ^ digits == n) (digits + 1) digits

-- how many binary digits a number has
unfoldable pub binary_digits : ℕ → ℕ
binary_digits zero = 0
binary_digits (suc n) = one_more (binary_digits n) (suc n)

-- `digits` is the number of binary digits of n: n is below 2 ^ digits, and below no smaller power of two
pub record IsDigitsOf (n digits : ℕ) : Type 0 where
  pub is_enough : n < 2 ^ digits
  pub fewest : (d : ℕ) → n < 2 ^ d → digits ≤ d
