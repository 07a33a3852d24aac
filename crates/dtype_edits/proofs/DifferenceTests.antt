-- SPDX-License-Identifier: Apache-2.0
-- SPDX-FileCopyrightText: Copyright the Vortex contributors

-- The tests of equality and of nullabilities, by what is ignored.
use Rattle.std.proofs.Common.{◌≡◌, ◌≢◌, ◌↔◌, ◌∙◌, ◌||◌, Bool, IsTrue, cond, true, false, refl, sym, ap}
use Rattle.dtype_base.specs.declared.nullability.Nullability.{Nullability}
use Rattle.dtype_base.specs.declared.nullability.Nullability.TheVariants.{NonNullable, Nullable}
use Rattle.dtype_types.specs.declared.dtype.DType.{DType}
use Rattle.dtype_types.specs.equality.Equality.{same_by}
use Rattle.dtype_types.specs.equality.EqualityLaws.{equal_under-Decides}
use Rattle.dtype_types.specs.tree.Erase.{erase}
use Rattle.dtype_types.specs.tree.TreeOf.{tree}
use Rattle.dtype_edits.specs.Differences.{allowed, same_nullability, seen}
use Rattle.dtype_edits.specs.declared.difference.Ignoring.{Ignoring}

-- two tests that are true of the same are the same
both_ways : (a b : Bool) → (a ≡ true → b ≡ true) → (b ≡ true → a ≡ true) → a ≡ b
both_ways true b f g = sym (f refl)
both_ways false true f g = g refl
both_ways false false f g = refl

pub equal_if_ignored : (i : Ignoring) (d e : DType) (b : Bool) → i.nullability ≡ true → IsTrue b ↔ (erase (tree d) ≡ erase (tree e)) → b ≡ same_by (seen i) (tree d) (tree e)
equal_if_ignored i d e b on is =
    both_ways b (same_by erase (tree d) (tree e))
    (λ h. (equal_under-Decides (erase (tree d)) (erase (tree e))).1 (is.0 h))
    (λ h. is.1 ((equal_under-Decides (erase (tree d)) (erase (tree e))).0 h))
    ∙ ap (λ c. same_by (λ x. cond c (erase x) x) (tree d) (tree e)) (sym on)

pub equal_if_compared : (i : Ignoring) (d e : DType) (b : Bool) → i.nullability ≡ false → b ≡ same_by tree d e → b ≡ same_by (seen i) (tree d) (tree e)
equal_if_compared i d e b off is = is ∙ ap (λ c. same_by (λ x. cond c (erase x) x) (tree d) (tree e)) (sym off)

pub same_mark : (m n : Nullability) → m ≡ n → same_nullability m n ≡ true
same_mark NonNullable NonNullable e = refl
same_mark Nullable Nullable e = refl
same_mark NonNullable Nullable e = cc
same_mark Nullable NonNullable e = cc

pub other_mark : (m n : Nullability) → m ≢ n → same_nullability m n ≡ false
other_mark NonNullable NonNullable ne = absurd (ne refl)
other_mark Nullable Nullable ne = absurd (ne refl)
other_mark NonNullable Nullable ne = refl
other_mark Nullable NonNullable ne = refl

pub any_is_allowed : (i : Ignoring) (m n : Nullability) → i.nullability ≡ true → allowed i m n ≡ true
any_is_allowed i m n e = ap (λ b. b || same_nullability m n) e

pub same_is_allowed : (i : Ignoring) (m n : Nullability) → i.nullability ≡ false → m ≡ n → allowed i m n ≡ true
same_is_allowed i m n e same = ap (λ b. b || same_nullability m n) e ∙ same_mark m n same

pub other_is_not : (i : Ignoring) (m n : Nullability) → i.nullability ≡ false → m ≢ n → allowed i m n ≡ false
other_is_not i m n e other = ap (λ b. b || same_nullability m n) e ∙ other_mark m n other

pub ruleset whole_tests = (equal_if_ignored, equal_if_compared)

pub ruleset mark_tests = (any_is_allowed, same_is_allowed, other_is_not)
