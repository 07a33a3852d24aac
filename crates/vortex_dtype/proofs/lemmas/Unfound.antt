-- SPDX-License-Identifier: Apache-2.0
-- SPDX-FileCopyrightText: Copyright the Vortex contributors

-- Values at a path at which a type has nothing: there are none, unless the path leads through an extension. A search takes
-- `FoundIn` apart, so each lemma has its two parts as premises.
use Rattle.std.specs.Prelude.{◌≡◌, ℕ, List, [], ◌∷◌, None, Some, bytes_eq}
use Rattle.std.proofs.Common.{◌⊎◌, inl, inr, ap, arith, refl}
use Rattle.dtype_types.specs.parts.Lookups.{first_named}
use Rattle.dtype_types.specs.tree.Tree.{Tree, Fields, no_items, item, extension, pairs}
use Rattle.dtype_types.specs.values.Value.{Value, Values, Named, Of, NamedOf, Each, no_values, value, no_named, named}
use Rattle.dtype_paths.specs.Along.{along}
use Rattle.dtype_paths.specs.At.{At, ExistsIn, step}
use Rattle.dtype_paths.specs.Crosses.{CrossesNoExtension}
use Rattle.dtype_paths.specs.Found.{Found, Reaches, Member, first_value}
use Rattle.dtype_paths.specs.declared.field.Field.{Field}
use Rattle.dtype_paths.proofs.lemmas.Cases.{by_bool}
use Rattle.dtype_paths.proofs.lemmas.Stepping.{none_at}

member_of : (P : Value → Type 0) (vs : Values) (x : Value) → Each P vs → Member vs x → P x
member_of P no_values x h m = absurd m
member_of P (value v vs) x h m = grind (arith, h, m, member_of P vs)

named_step : (nvs : Named) (fs : Fields) (m : List ℕ) (y : Value) → NamedOf nvs fs → first_value nvs m ≡ Some y → (x : Tree) × (first_named (pairs fs) m ≡ Some x) × Of y x
named_step no_named no_items m y h b = cc
named_step (named n v rest) (item k t _ fs) m y h b = by_bool (bytes_eq n m)
    (λ c. grind (arith, h, b, c))
    (λ c. let later = named_step rest fs m y h.2 (rw c at b) in grind (arith, h, c, later))
named_step _ _ m y h b = absurd h

-- where a value leads on, its type does, unless that is an extension
one_step : (w : Value) (t : Tree) (f : Field) (y : Value) → Of w t → Reaches w f y
    → ((id : List ℕ) × (metadata : List ℕ) × (s : Tree) × (t ≡ extension id metadata s)) ⊎ ((x : Tree) × (step t f ≡ Some x) × Of y x)
one_step w t f y h e = grind (arith, named_step, member_of)

untyped : (t : Tree) (p : List Field) (v w : Value) → ((u : Tree) → At t p u → ⊥) → CrossesNoExtension t p → Of w t → Found w p v → ⊥
untyped t [] v w none clear o f = none t refl
untyped t (s ∷ p) v w none clear o f = elim (one_step w t s f.0 o f.1) [
  | inl x ↦ clear [] x.0 x.1 x.2 (s ∷ p, refl) x.3
  | inr x ↦ untyped x.0 p v f.0 (λ u a. none u (x.0, x.1, a)) (λ q i b y begins a. clear (s ∷ q) i b y (begins.0, ap (λ z. s ∷ z) begins.1) (x.0, x.1, a)) x.2 f.2
]

-- where `resolve` returns `None`
pub unresolved_unfound : (t : Tree) (p : List Field) (v w : Value) → None ≡ along t p → CrossesNoExtension t p → Of w t → Found w p v → ⊥
unresolved_unfound t p v w e clear o f = untyped t p v w (λ u a. none_at t u p e a) clear o f

-- where `exists_in` returns false
pub missing_unfound : (t : Tree) (p : List Field) (v w : Value) → (ExistsIn t p → ⊥) → CrossesNoExtension t p → Of w t → Found w p v → ⊥
missing_unfound t p v w e clear o f = untyped t p v w (λ u a. e (record { found = u; at = a })) clear o f

-- that no value lies along a path in values of a type
pub ruleset unfound_values = (unresolved_unfound, missing_unfound)
