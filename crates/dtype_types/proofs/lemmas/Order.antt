-- SPDX-License-Identifier: Apache-2.0
-- SPDX-FileCopyrightText: Copyright the Vortex contributors

-- The order of types by nullability: that `Sub` is one, what setting a nullability does to it, and which values a type
-- has that is below another.
use Rattle.std.proofs.Common.{◌≡◌, ◌∙◌, ℕ, IfSome, List, Option, Some, option_and_then, refl, sym}
use Rattle.dtype_base.specs.Nullability.{either}
use Rattle.dtype_base.specs.declared.nullability.Nullability.{Nullability}
use Rattle.dtype_base.specs.declared.nullability.Nullability.TheVariants.{NonNullable, Nullable}
use Rattle.dtype_types.specs.nullability.Nullable.{nullability, set_null}
use Rattle.dtype_types.specs.nullability.Sub.{Sub, Allows, NullableWherever}
use Rattle.dtype_types.specs.tree.Tree.{Tree, null, list, fixed_size_list, map_of, struct, union, extension}
use Rattle.dtype_types.specs.values.Value.{null_value}
use Rattle.dtype_types.proofs.lemmas.Nullabilities.{set_keeps, set_own}
use Rattle.dtype_types.proofs.lemmas.Bounds.{after_itself, after_more, below, equal_in_order, sub_upwards, upwards}
use Rattle.dtype_types.proofs.lemmas.NullValues.{allows_either, either_values, null_is_of_nullable}
use Rattle.dtype_types.proofs.lemmas.SubValues.{sub_values}

-- ---- an order

pub sub_reflexive : (a : Tree) → Sub a a
sub_reflexive a = sub_upwards a a (after_itself upwards a)

pub sub_transitive : (a b c : Tree) → Sub a b → Sub b c → Sub a c
sub_transitive a b c h k = sub_upwards a c (after_more upwards a b c (below a b h) (below b c k))

pub sub_antisymmetric : (a b : Tree) → Sub a b → Sub b a → a ≡ b
sub_antisymmetric a b h k = equal_in_order upwards a b (below a b h) (below b a k)

-- ---- a type whose nullability was set

in_storages : (i b : List ℕ) (o p : Option Tree) → IfSome o (λ u. IfSome p (NullableWherever u))
    → IfSome (option_and_then (λ x. Some (extension i b x)) o) (λ u. IfSome (option_and_then (λ x. Some (extension i b x)) p) (NullableWherever u))
in_storages i b (Some x) (Some y) h = h
in_storages i b _ _ h = tt

-- one type with two outer nullabilities, of which the second allows the first
set_within : (t : Tree) (m n : Nullability) → Allows m n → IfSome (set_null t m) (λ u. IfSome (set_null t n) (NullableWherever u))
set_within null Nullable Nullable h = tt
set_within null _ _ h = tt
set_within (list t l) m n h = (h, (sub_reflexive t).nullable)
set_within (fixed_size_list t k l) m n h = (h, (sub_reflexive t).nullable)
set_within (map_of t v s l) m n h = (h, (sub_reflexive t).nullable, (sub_reflexive v).nullable)
set_within (struct fs l) m n h = (h, (sub_reflexive (struct fs l)).nullable.1)
set_within (union vs l) m n h = (h, (sub_reflexive (union vs l)).nullable.1)
set_within (extension i b s) m n h = in_storages i b (set_null s m) (set_null s n) (set_within s m n h)
set_within _ m n h = h

set_below : (t u v : Tree) (m n : Nullability) → Allows m n → set_null t m ≡ Some u → set_null t n ≡ Some v → Sub u v
set_below t u v m n h e f = record { erased = set_keeps t u m e ∙ sym (set_keeps t v n f); nullable = rw (e, f) at (set_within t m n h) }

-- a type is below the type made nullable
pub below_nullable : (t u : Tree) → set_null t Nullable ≡ Some u → Sub t u
below_nullable t u e = set_below t t u (nullability t) Nullable (λ h. refl) (set_own t) e

-- the type made non-nullable is below it
pub above_non_nullable : (t u : Tree) → set_null t NonNullable ≡ Some u → Sub u t
above_non_nullable t u e = set_below t u t NonNullable (nullability t) (λ h. cc) e (set_own t)

-- a type is below itself with a nullability joined to its own
pub below_either : (t u : Tree) (n : Nullability) → set_null t (either (nullability t) n) ≡ Some u → Sub t u
below_either t u n e = set_below t t u (nullability t) (either (nullability t) n) (allows_either (nullability t) n) (set_own t) e

-- what is above a nullable type is nullable
pub above_nullable : (t u : Tree) → Sub t u → nullability t ≡ Nullable → nullability u ≡ Nullable
above_nullable t u h e = (null_is_of_nullable u).0 (sub_values t u h null_value ((null_is_of_nullable t).1 e))

pub ruleset order = (sub_reflexive, sub_transitive, below_nullable, above_non_nullable, above_nullable, below_either, sub_values, either_values)
