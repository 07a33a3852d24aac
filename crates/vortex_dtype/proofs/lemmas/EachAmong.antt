-- SPDX-License-Identifier: Apache-2.0
-- SPDX-FileCopyrightText: Copyright the Vortex contributors

-- What `find`, `field` and `variant` say of a name by the word `IsAmong`, so that `all`, `any` and `find` over names prove.
-- `each_among` names all of it in one line.
use Rattle.std.proofs.Common.{arith, ◌≡◌, ◌∙◌, ℕ, List, Option, true, sym}
use Rattle.std.specs.Borrow.{Bor}
use Rattle.std.specs.Option.{is_some}
use Rattle.dtype_base.specs.FieldNames.{first_place}
use Rattle.dtype_types.specs.parts.Lookups.{field_names, first_named, variant_named, variant_names}
use Rattle.dtype_types.specs.tree.Tree.{Tree}
use Rattle.dtype_types.specs.tree.TreeOf.{shown, tree}
use Rattle.dtype_types.specs.declared.dtype.DType.{DType}
use Rattle.dtype_types.proofs.lemmas.Presence.{among_is_placed, placed_is_among, placed_is_named, placed_is_variant}
use Rattle.vortex_dtype.specs.Names.{IsAmong}

pub placed_among : (ns : List (List ℕ)) (n : List ℕ) → is_some (first_place ns n) ≡ true → IsAmong ns n
unfolding IsAmong
placed_among ns n = placed_is_among ns n

pub among_placed : (ns : List (List ℕ)) (n : List ℕ) → IsAmong ns n → is_some (first_place ns n) ≡ true
unfolding IsAmong
among_placed ns n = among_is_placed ns n

pub named_among : (fs : List (List ℕ × Tree)) (n : List ℕ) → is_some (first_named fs n) ≡ true → IsAmong (field_names fs) n
named_among fs n h = placed_among (field_names fs) n (sym (placed_is_named fs n) ∙ h)

pub among_named : (fs : List (List ℕ × Tree)) (n : List ℕ) → IsAmong (field_names fs) n → is_some (first_named fs n) ≡ true
among_named fs n a = placed_is_named fs n ∙ among_placed (field_names fs) n a

pub variant_among : (vs : List (List ℕ × (Tree × ℕ))) (n : List ℕ) → is_some (variant_named vs n) ≡ true → IsAmong (variant_names vs) n
variant_among vs n h = placed_among (variant_names vs) n (sym (placed_is_variant vs n) ∙ h)

pub among_variant : (vs : List (List ℕ × (Tree × ℕ))) (n : List ℕ) → IsAmong (variant_names vs) n → is_some (variant_named vs n) ≡ true
among_variant vs n a = placed_is_variant vs n ∙ among_placed (variant_names vs) n a

-- where a call lends the type, as `field` does, by whether it lends one
pub typed_among : (fs : List (List ℕ × Tree)) (n : List ℕ) (r : Option (Bor DType)) → shown tree r ≡ first_named fs n → (is_some r ≡ true → IsAmong (field_names fs) n) × (IsAmong (field_names fs) n → is_some r ≡ true)
typed_among fs n r e = grind (arith, e, named_among fs n, among_named fs n)

pub ruleset each_among = (placed_among, among_placed, named_among, among_named, variant_among, among_variant, typed_among)
