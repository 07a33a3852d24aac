-- SPDX-License-Identifier: Apache-2.0
-- SPDX-FileCopyrightText: Copyright the Vortex contributors

-- A type whose nullability was set: its parts, and what setting it again gives.
use Rattle.std.proofs.Common.{◌≡◌, ℕ, List, Option, Some, None, IfSome, IsSome, option_and_then, refl, ap, sym, ◌∙◌, subst}
use Rattle.dtype_base.specs.declared.nullability.Nullability.{Nullability}
use Rattle.dtype_base.specs.declared.nullability.Nullability.TheVariants.{NonNullable}
use Rattle.dtype_types.specs.tree.Erase.{erase}
use Rattle.dtype_types.specs.nullability.Nullable.{CanBeNonNullable, nullability, set_null}
use Rattle.dtype_types.specs.tree.Tree.{Tree, null, extension}

-- what holds of an extension whose storage was set, if it follows from what holds of the storage that was set
pub in_storage : (P Q : Tree → Type 0) (i b : List ℕ) (o : Option Tree) → ((x : Tree) → P x → Q (extension i b x)) → IfSome o P → IfSome (option_and_then (λ x. Some (extension i b x)) o) Q
in_storage P Q i b None f h = tt
in_storage P Q i b (Some x) f h = f x h

has_set : (t : Tree) (n : Nullability) → IfSome (set_null t n) (λ u. nullability u ≡ n)
has_set null NonNullable = tt
has_set (extension i b s) n = in_storage (λ u. nullability u ≡ n) (λ u. nullability u ≡ n) i b (set_null s n) (λ x h. h) (has_set s n)
has_set _ n = refl

pub set_is : (t u : Tree) (n : Nullability) → set_null t n ≡ Some u → nullability u ≡ n
set_is t u n e = subst (λ o. IfSome o (λ v. nullability v ≡ n)) e (has_set t n)

keeps_rest : (t : Tree) (n : Nullability) → IfSome (set_null t n) (λ u. erase u ≡ erase t)
keeps_rest null NonNullable = tt
keeps_rest (extension i b s) n = in_storage (λ u. erase u ≡ erase s) (λ u. erase u ≡ extension i b (erase s)) i b (set_null s n) (λ x h. ap (extension i b) h) (keeps_rest s n)
keeps_rest _ n = refl

pub set_keeps : (t u : Tree) (n : Nullability) → set_null t n ≡ Some u → erase u ≡ erase t
set_keeps t u n e = subst (λ o. IfSome o (λ v. erase v ≡ erase t)) e (keeps_rest t n)

set_twice : (t : Tree) (m n : Nullability) → IfSome (set_null t m) (λ u. set_null u n ≡ set_null t n)
set_twice null NonNullable n = tt
set_twice (extension i b s) m n =
    in_storage (λ u. set_null u n ≡ set_null s n) (λ u. set_null u n ≡ set_null (extension i b s) n) i b (set_null s m) (λ x h. ap (option_and_then (λ y. Some (extension i b y))) h) (set_twice s m n)
set_twice _ m n = refl

pub set_again : (t u : Tree) (m n : Nullability) → set_null t m ≡ Some u → set_null u n ≡ set_null t n
set_again t u m n e = subst (λ o. IfSome o (λ v. set_null v n ≡ set_null t n)) e (set_twice t m n)

-- setting a nullability twice is setting the last, and setting the first one back restores the type
pub set_again-all : (t u : Tree) (n : Nullability) → set_null t n ≡ Some u → set_null u ≡ set_null t
set_again-all t u n e = λ i m. set_again t u n m e i

pub set_own : (t : Tree) → set_null t (nullability t) ≡ Some t
set_own (extension i b s) = ap (option_and_then (λ x. Some (extension i b x))) (set_own s)
set_own _ = refl

pub set_back : (t u : Tree) (n : Nullability) → set_null t n ≡ Some u → set_null u (nullability t) ≡ Some t
set_back t u n e = set_again t u n (nullability t) e ∙ set_own t

-- what can be made non-nullable still can
pub set_can : (t u : Tree) (n : Nullability) → set_null t n ≡ Some u → CanBeNonNullable t → CanBeNonNullable u
set_can t u n e c = subst (λ (f : Nullability → Option Tree). IsSome (f NonNullable)) (sym (set_again-all t u n e)) c

-- a nullability set twice: the last decides
pub set_last : (t u v : Tree) (m n : Nullability) → set_null t m ≡ Some u → set_null u n ≡ Some v → set_null t n ≡ Some v
set_last t u v m n e f = sym (set_again t u m n e) ∙ f

pub ruleset nullabilities = (set_is, set_keeps, set_again-all, set_own, set_back, set_can, set_last)
