-- SPDX-License-Identifier: Apache-2.0
-- SPDX-FileCopyrightText: Copyright the Vortex contributors

-- Fields and variants that are alike position by position have the same names and tags, and what is merged of them
-- position by position.
use Rattle.std.proofs.Common.{◌≡◌, ◌&&◌, ℕ, List, ◌∷◌, Bool, true, false, Option, Some, None, if◌then◌else◌, refl, ap, ◌∙◌}
use Rattle.std.specs.Str.{bytes_eq}
use Rattle.std.proofs.lemmas.Bool.Decides.{Decides-eqb}
use Rattle.std.proofs.lemmas.Option.{same_Some}
use Rattle.std.proofs.lemmas.Slice.Eq.{bytes_eq-Decides}
use Rattle.dtype_base.specs.declared.nullability.Nullability.{Nullability}
use Rattle.dtype_types.specs.equality.Equality.{same_tag}
use Rattle.dtype_types.specs.parts.Lookups.{variant_names}
use Rattle.dtype_types.specs.tree.Tree.{Tree, Fields, Variants, Items, Holder, Tag, a_struct, a_union, no_items, item, triples}
use Rattle.dtype_merging.specs.MergedColumns.{columns_merged, merged_beside, put_first}
use Rattle.dtype_merging.specs.ReadsAs.{EachBeside, names, tags}
use Rattle.dtype_merging.specs.declared.widening.Widening.{Widening}
use Rattle.dtype_merging.proofs.lemmas.Finding.{both_true, true_both}

-- ---- the names and tags

module _ (L : Tree → Tree → Type 0) (R : Nullability → Nullability → Type 0) (K : Bool → Tree → Bool → Tree → Type 0) (E : Tree → Type 0) (V : Type 0) where
  pub beside_names : (fs gs : Fields) → EachBeside L R K E V fs gs → names fs ≡ names gs
  beside_names no_items no_items h = refl
  beside_names (item m t _ fs) (item n u _ gs) h = ap (λ k. k ∷ names fs) h.0 ∙ ap (λ ns. n ∷ ns) (beside_names fs gs h.3)
  beside_names no_items (item n u _ gs) h = absurd h
  beside_names (item m t _ fs) no_items h = absurd h

  pub beside_tags : (vs ws : Variants) → EachBeside L R K E V vs ws → tags vs ≡ tags ws
  beside_tags no_items no_items h = refl
  beside_tags (item m t f vs) (item n u g ws) h = ap (λ k. k ∷ tags vs) h.1 ∙ ap (λ ks. g ∷ ks) (beside_tags vs ws h.3)
  beside_tags no_items (item n u g ws) h = absurd h
  beside_tags (item m t f vs) no_items h = absurd h

  pub beside_variants : (vs ws : Variants) → EachBeside L R K E V vs ws → variant_names (triples vs) ≡ variant_names (triples ws)
  beside_variants no_items no_items h = refl
  beside_variants (item m t f vs) (item n u g ws) h = ap (λ k. k ∷ variant_names (triples vs)) h.0 ∙ ap (λ ns. n ∷ ns) (beside_variants vs ws h.3)
  beside_variants no_items (item n u g ws) h = absurd h
  beside_variants (item m t f vs) no_items h = absurd h

-- ---- the first item

-- its name and its type, or these
abbrev pub name_or : {h : Holder} → List ℕ → Items h → List ℕ
name_or n no_items = n
name_or n (item m t f xs) = m

abbrev pub type_or : {h : Holder} → Tree → Items h → Tree
type_or u no_items = u
type_or u (item m t f xs) = t

-- ---- what is merged

same_tag_is : (h : Holder) (f g : Tag h) → same_tag h f g ≡ true → f ≡ g
same_tag_is a_struct f g e = refl
same_tag_is a_union f g e = (Decides-eqb f g).0 e

is_same_tag : (h : Holder) (f g : Tag h) → f ≡ g → same_tag h f g ≡ true
is_same_tag a_struct f g e = refl
is_same_tag a_union f g e = (Decides-eqb f g).1 e

picked_some : {X : Type 0} (b : Bool) (o : Option X) (x : X) → (if b then o else None) ≡ Some x → (b ≡ true) × (o ≡ Some x)
picked_some true o x e = (refl, e)
picked_some false o x e = cc

pub put_some : {h : Holder} (n : List ℕ) (f : Tag h) (o : Option Tree) (r : Option (Items h)) (zs : Items h) → put_first n f o r ≡ Some zs
    → (x : Tree) × (rest : Items h) × (o ≡ Some x) × (r ≡ Some rest) × (item n x f rest ≡ zs)
put_some n f (Some x) (Some rest) zs e = (x, rest, refl, refl, same_Some (item n x f rest) zs e)
put_some n f (Some x) None zs e = cc
put_some n f None r zs e = cc

-- the names and tags are the same, and the types and the other items are merged
pub items_of : (wide : Widening) {h : Holder} (m : List ℕ) (t : Tree) (f : Tag h) (xs : Items h) (n : List ℕ) (u : Tree) (g : Tag h) (ys zs : Items h) → merged_beside wide (item m t f xs) (item n u g ys) ≡ Some zs
    → (x : Tree) × (rest : Items h) × (m ≡ n) × (f ≡ g) × (columns_merged wide t u ≡ Some x) × (merged_beside wide xs ys ≡ Some rest) × (item m x f rest ≡ zs)
items_of wide {h} m t f xs n u g ys zs e =
    let s = picked_some (bytes_eq m n && same_tag h f g) (put_first m f (columns_merged wide t u) (merged_beside wide xs ys)) zs e in
    let both = both_true (bytes_eq m n) (same_tag h f g) s.0 in
    let r = put_some m f (columns_merged wide t u) (merged_beside wide xs ys) zs s.1 in
    (r.0, r.1, (bytes_eq-Decides m n).0 both.0, same_tag_is h f g both.1, r.2, r.3, r.4)

pub of_items : (wide : Widening) {h : Holder} (m : List ℕ) (t : Tree) (f : Tag h) (xs : Items h) (n : List ℕ) (u : Tree) (g : Tag h) (ys : Items h) (x : Tree) (rest : Items h) → m ≡ n → f ≡ g → columns_merged wide t u ≡ Some x
    → merged_beside wide xs ys ≡ Some rest → merged_beside wide (item m t f xs) (item n u g ys) ≡ Some (item m x f rest)
of_items wide {h} m t f xs n u g ys x rest e d made others =
    ap (λ b. if b then put_first m f (columns_merged wide t u) (merged_beside wide xs ys) else None) (true_both (bytes_eq m n) (same_tag h f g) ((bytes_eq-Decides m n).1 e) (is_same_tag h f g d))
    ∙ ap (λ o. put_first m f o (merged_beside wide xs ys)) made ∙ ap (put_first m f (Some x)) others
