-- SPDX-License-Identifier: Apache-2.0
-- SPDX-FileCopyrightText: Copyright the Vortex contributors

-- How many names a lookup compares, as a number: of at most 1,000 names 11, since 1,000 is at most the tenth power of two.
use Rattle.std.proofs.Common.{◌≡◌, ◌≤◌, ◌-◌, ◌^◌, ℕ, List, length, suc, zero, true, ltb, refl, arith}
use Rattle.std.proofs.lemmas.Bool.{ltb-true}
use Rattle.std.proofs.lemmas.List.{length-map}
use Rattle.dtype_base.specs.Comparisons.{comparisons, longest_bucket}
use Rattle.dtype_base.proofs.lemmas.Lookups.{few_compared, longest_within}
use Rattle.dtype_types.specs.tree.Tree.{Tree}
use Rattle.dtype_types.specs.parts.Lookups.{field_names}

-- how many names a lookup compares
abbrev counted : List (List ℕ × Tree) → ℕ
counted fields = comparisons (longest_bucket (field_names fields))

-- at most one more than any number of digits to whose power of two there are at most so many fields
compared_to : (fields : List (List ℕ × Tree)) (digits : ℕ) → length fields ≤ 2 ^ digits → counted fields ≤ suc digits
compared_to fields digits few = few_compared (field_names fields) _ digits refl (omega (arith, few, length-map fields (λ p. p.0)))

pub compared_within : (fields : List (List ℕ × Tree)) (most count limit : ℕ) → count ≡ counted fields → length fields ≤ most → ltb most (2 ^ (limit - 1)) ≡ true → count ≤ limit
compared_within fields most count zero is few fits = grind (arith, is, few, ltb-true most 1 fits, longest_within (field_names fields), length-map fields (λ p. p.0))
compared_within fields most count (suc digits) is few fits = grind (arith, is, few, ltb-true most (2 ^ digits), fits, compared_to fields digits)

-- the same for one field, and for each power of two up to the twentieth: the tactics find no number of digits by themselves
pub compared_up_to : (fields : List (List ℕ × Tree)) →
    (length fields ≤ 1 → counted fields ≤ 1) × (length fields ≤ 2 → counted fields ≤ 2) × (length fields ≤ 4 → counted fields ≤ 3) × (length fields ≤ 8 → counted fields ≤ 4) × (length fields ≤ 16 → counted fields ≤ 5) ×
    (length fields ≤ 32 → counted fields ≤ 6) × (length fields ≤ 64 → counted fields ≤ 7) × (length fields ≤ 128 → counted fields ≤ 8) × (length fields ≤ 256 → counted fields ≤ 9) ×
    (length fields ≤ 512 → counted fields ≤ 10) × (length fields ≤ 1024 → counted fields ≤ 11) × (length fields ≤ 2048 → counted fields ≤ 12) × (length fields ≤ 4096 → counted fields ≤ 13) ×
    (length fields ≤ 8192 → counted fields ≤ 14) × (length fields ≤ 16384 → counted fields ≤ 15) × (length fields ≤ 32768 → counted fields ≤ 16) × (length fields ≤ 65536 → counted fields ≤ 17) ×
    (length fields ≤ 131072 → counted fields ≤ 18) × (length fields ≤ 262144 → counted fields ≤ 19) × (length fields ≤ 524288 → counted fields ≤ 20) × (length fields ≤ 1048576 → counted fields ≤ 21)
compared_up_to fields = (compared_to fields 0, compared_to fields 1, compared_to fields 2, compared_to fields 3, compared_to fields 4, compared_to fields 5, compared_to fields 6, compared_to fields 7, compared_to fields 8, compared_to fields 9, compared_to fields 10, compared_to fields 11, compared_to fields 12, compared_to fields 13, compared_to fields 14, compared_to fields 15, compared_to fields 16, compared_to fields 17, compared_to fields 18, compared_to fields 19, compared_to fields 20)
