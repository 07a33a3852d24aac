-- SPDX-License-Identifier: Apache-2.0
-- SPDX-FileCopyrightText: Copyright the Vortex contributors

-- Which types have null as a value, and the values of a type that is made nullable.
use Rattle.std.proofs.Common.{◌≡◌, ◌∙◌, ◌⊎◌, ◌↔◌, IfSome, Result, Ok, Err, IfOk, refl, ap, sym, subst, inl, inr}
use Rattle.std.proofs.lemmas.Option.{same_Some}
use Rattle.dtype_base.specs.Nullability.{either}
use Rattle.dtype_base.specs.declared.nullability.Nullability.{Nullability}
use Rattle.dtype_base.specs.declared.nullability.Nullability.TheVariants.{NonNullable, Nullable}
use Rattle.dtype_types.specs.nullability.Nullable.{nullability, set_null, SetNull, IsNullable}
use Rattle.dtype_types.specs.nullability.Sub.{Allows}
use Rattle.dtype_types.specs.tree.Tree.{Tree, null, extension}
use Rattle.dtype_types.specs.tree.TreeOf.{tree}
use Rattle.dtype_types.specs.declared.dtype.DType.{DType}
use Rattle.dtype_types.proofs.lemmas.Nullabilities.{in_storage, set_is, set_own}
use Rattle.dtype_types.specs.values.Value.{Value, Of, AddsNull, null_value}

pub null_is_of_nullable : (t : Tree) → Of null_value t ↔ IsNullable t
null_is_of_nullable (extension i b s) = null_is_of_nullable s
null_is_of_nullable null = (λ h. h, λ h. h)
null_is_of_nullable _ = (λ h. h, λ h. h)

-- the other values don't depend on it
abbrev NullOrSame : Value → Tree → Tree → Type 0
NullOrSame v t u = (v ≡ null_value) ⊎ (Of v t ↔ Of v u)

others : (t : Tree) (n : Nullability) (v : Value) → IfSome (set_null t n) (NullOrSame v t)
others null NonNullable v = tt
others (extension i b s) n v = in_storage (NullOrSame v s) (NullOrSame v s) i b (set_null s n) (λ x h. h) (others s n v)
others _ n null_value = inl refl
others _ n v = inr (λ o. o, λ o. o)

-- a value is of the type with another nullability too, unless it is null and that is non-nullable
pub of_set : (t u : Tree) (n : Nullability) → SetNull t n u → Allows (nullability t) n → (v : Value) → Of v t → Of v u
of_set t u n e h v o = go (rw e at (others t n v))
  where
    go : NullOrSame v t u → Of v u
    go (inl is) = subst (λ x. Of x u) (sym is) ((null_is_of_nullable u).1 (set_is t u n e ∙ h ((null_is_of_nullable t).0 (subst (λ x. Of x t) is o))))
    go (inr same) = same.0 o

pub either_nullable : (m n : Nullability) → (either m n ≡ Nullable) ↔ ((m ≡ Nullable) ⊎ (n ≡ Nullable))
either_nullable NonNullable NonNullable = (λ e. inl e, λ s. elim s [ inl e ↦ e | inr e ↦ e ])
either_nullable NonNullable Nullable = (λ e. inr e, λ s. refl)
either_nullable Nullable NonNullable = (λ e. inl refl, λ s. refl)
either_nullable Nullable Nullable = (λ e. inl refl, λ s. refl)

pub allows_either : (m n : Nullability) → Allows m (either m n)
allows_either m n h = (either_nullable m n).1 (inl h)

-- a type's values are values of the type that is nullable where it or another is
pub either_values : (t u : Tree) (n : Nullability) (v : Value) → SetNull t (either (nullability t) n) u → Of v t → Of v u
either_values t u n v e o = of_set t u (either (nullability t) n) e (allows_either (nullability t) n) v o

-- null is a value of it where one of the two is nullable
pub null_of_either : (t u : Tree) (m n : Nullability) → SetNull t (either m n) u → Of null_value u ↔ ((m ≡ Nullable) ⊎ (n ≡ Nullable))
null_of_either t u m n e =
    let is = set_is t u (either m n) e in
    (λ o. (either_nullable m n).0 (sym is ∙ (null_is_of_nullable u).0 o), λ s. (null_is_of_nullable u).1 (is ∙ (either_nullable m n).1 s))

-- made nullable a type is what it was where null was a value of it
pub null_when_same : (t u : Tree) → SetNull t Nullable u → (u ≡ t) ↔ Of null_value t
null_when_same t u e = (
  λ s. (null_is_of_nullable t).1 (ap nullability (sym s) ∙ set_is t u Nullable e),
  λ o. same_Some u t (sym e ∙ ap (set_null t) (sym ((null_is_of_nullable t).0 o)) ∙ set_own t),
)

pub nullable_adds_null : (t u : Tree) → SetNull t Nullable u → AddsNull t u
nullable_adds_null t u e v = (split (rw e at (others t Nullable v)), join)
  where
    split : NullOrSame v t u → Of v u → Of v t ⊎ (v ≡ null_value)
    split (inl is) o = inr is
    split (inr same) o = inl (same.1 o)

    join : Of v t ⊎ (v ≡ null_value) → Of v u
    join (inl o) = of_set t u Nullable e (λ h. refl) v o
    join (inr is) = subst (λ x. Of x u) (sym is) ((null_is_of_nullable u).1 (set_is t u Nullable e))

-- the same of what a call gives that makes a type nullable
pub made_nullable : {E : Type 0} (t : Tree) (r : Result DType E) → IfOk r (λ d. SetNull t Nullable (tree d)) → IfOk r (λ d. AddsNull t (tree d))
made_nullable t (Ok d) h = nullable_adds_null t (tree d) h
made_nullable t (Err e) h = tt

pub ruleset null_values = (null_is_of_nullable, either_values, null_of_either, null_when_same, nullable_adds_null, made_nullable)
