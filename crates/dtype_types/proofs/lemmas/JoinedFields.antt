-- SPDX-License-Identifier: Apache-2.0
-- SPDX-FileCopyrightText: Copyright the Vortex contributors

-- The first field of a name in two lists joined, and in a list of one field.
use Rattle.std.proofs.Common.{◌≡◌, ◌≢◌, ◌∙◌, ℕ, Bool, List, [], ◌∷◌, ◌++◌, Some, None, if◌then◌else◌, refl, sym, ap, arith}
use Rattle.std.specs.Prelude.{IsSome, bytes_eq}
use Rattle.std.proofs.lemmas.Bool.{false≢true, false_from_ne_true}
use Rattle.std.proofs.lemmas.Slice.Eq.{bytes_eq-Decides}
use Rattle.dtype_types.specs.parts.Lookups.{first_named}
use Rattle.dtype_types.specs.tree.Tree.{Tree}

pub named_before : (fs gs : List (List ℕ × Tree)) (name : List ℕ) → IsSome (first_named fs name) → first_named (fs ++ gs) name ≡ first_named fs name
named_before [] gs name h = absurd (false≢true h)
named_before (p ∷ fs) gs name h = grind (arith, named_before fs gs name)

pub named_behind : (fs gs : List (List ℕ × Tree)) (name : List ℕ) → first_named fs name ≡ None → first_named (fs ++ gs) name ≡ first_named gs name
named_behind [] gs name e = refl
named_behind (p ∷ fs) gs name e = grind (arith, named_behind fs gs name)

-- of one field
pub one_named : (ps : List (List ℕ × Tree)) (n : List ℕ) (t : Tree) → ps ≡ (n, t) ∷ [] → first_named ps n ≡ Some t
one_named ps n t e = ap (λ qs. first_named qs n) e ∙ ap (λ (b : Bool). if b then Some t else None) ((bytes_eq-Decides n n).1 refl)

pub other_unnamed : (ps : List (List ℕ × Tree)) (n m : List ℕ) (t : Tree) → ps ≡ (n, t) ∷ [] → m ≢ n → first_named ps m ≡ None
other_unnamed ps n m t e other = ap (λ qs. first_named qs m) e ∙ ap (λ (b : Bool). if b then Some t else None) (false_from_ne_true (bytes_eq n m) (λ q. other (sym ((bytes_eq-Decides n m).0 q))))

pub ruleset joined_fields = (named_before, named_behind, one_named, other_unnamed)
