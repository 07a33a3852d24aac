-- SPDX-License-Identifier: Apache-2.0
-- SPDX-FileCopyrightText: Copyright the Vortex contributors

-- Items with commas between them: those of structs, and those of unions.
use Rattle.std.proofs.Common.{ℕ, ◌<◌, ◌≤◌, false, List, [], ◌∷◌, arith}
use Rattle.std.specs.Prelude.{codes}
use Rattle.dtype_types.specs.tree.Tree.{Tree, Items, fields, pairs, a_struct, no_items, item}
use Rattle.dtype_types.specs.tree.Valid.{Valid, ValidItems}
use Rattle.dtype_text.specs.Grammar.{Lang, lit, ◌<>◌, blanks, SpellsItems, levels, levels_of_items}
use Rattle.dtype_text.specs.Within.{field_text}

-- what is behind an item, before others
abbrev pub more_items : {A : Type 0} → List A → Lang → Lang
more_items [] S = lit []
more_items (x ∷ xs) S = lit (codes ",") <> (blanks <> S)

-- the texts of items, each with the blanks behind it
abbrev pub sequence : {A : Type 0} → (A → Lang) → List A → Lang
sequence L [] = lit []
sequence L (x ∷ xs) = L x <> (blanks <> more_items xs (sequence L xs))

-- each item is so
abbrev pub Good : {A : Type 0} → (A → Type 0) → List A → Type 0
Good P [] = Unit {0}
Good P (x ∷ xs) = P x × Good P xs

-- the language behind another one
pub behind : (L P Q : Lang) → ((x : List ℕ) → P x → Q x) → (x : List ℕ) → (L <> P) x → (L <> Q) x
behind L P Q f x h = (h.0, h.1, h.2, f h.1 h.3, h.4)

pub behind_comma : (L P Q : Lang) → ((x : List ℕ) → P x → Q x) → (x : List ℕ) → (L <> (blanks <> (lit (codes ",") <> (blanks <> P)))) x → (L <> (blanks <> (lit (codes ",") <> (blanks <> Q)))) x
behind_comma L P Q f x h =
    behind L (blanks <> (lit (codes ",") <> (blanks <> P))) (blanks <> (lit (codes ",") <> (blanks <> Q)))
    (behind blanks (lit (codes ",") <> (blanks <> P)) (lit (codes ",") <> (blanks <> Q))
    (behind (lit (codes ",")) (blanks <> P) (blanks <> Q)
    (behind blanks P Q f))) x h

-- ---- fields

pub fields_spelled : (ps : List (List ℕ × Tree)) (x : List ℕ) → sequence field_text ps x → SpellsItems {h = a_struct} false (fields ps) x
fields_spelled [] x h = h
fields_spelled (p ∷ []) x h = h
fields_spelled (p ∷ q ∷ ps) x h =
    behind_comma (field_text p) (sequence field_text (q ∷ ps)) (SpellsItems {h = a_struct} false (fields (q ∷ ps))) (λ y s. fields_spelled (q ∷ ps) y s) x h

pub spelled_fields : (fs : Items a_struct) (x : List ℕ) → SpellsItems {h = a_struct} false fs x → sequence field_text (pairs fs) x
spelled_fields no_items x h = h
spelled_fields (item n t g no_items) x h = h
spelled_fields (item n t g (item m u k fs)) x h =
    behind_comma (field_text (n, t)) (SpellsItems {h = a_struct} false (item m u k fs)) (sequence field_text (pairs (item m u k fs))) (λ y s. spelled_fields (item m u k fs) y s) x h

pub good_fields : (deep : ℕ) (ps : List (List ℕ × Tree)) → Good (λ f. (levels f.1 < deep) × Valid f.1) ps → (levels_of_items (fields ps) ≤ deep) × ValidItems (fields ps)
good_fields deep [] h = (omega arith, tt)
good_fields deep (p ∷ ps) h = let more = good_fields deep ps h.1 in (omega (arith, h.0.0, more.0), (h.0.1, more.1))
