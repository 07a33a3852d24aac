-- SPDX-License-Identifier: Apache-2.0
-- SPDX-FileCopyrightText: Copyright the Vortex contributors

-- Which field a name finds, in fields whose names don't repeat, and that the name of each field of a struct finds a field
-- of another.
use Rattle.std.proofs.Common.{◌≡◌, ◌≢◌, IsSomeAnd, ℕ, List, ◌∷◌, ◌&&◌, Bool, true, false, Option, Some, None, refl, sym, ap, subst, ◌∙◌}
use Rattle.std.specs.Option.{is_none}
use Rattle.std.specs.Str.{bytes_eq}
use Rattle.std.proofs.lemmas.Bool.{false≢true}
use Rattle.std.proofs.lemmas.Option.{same_Some}
use Rattle.std.proofs.lemmas.Slice.Eq.{bytes_eq-Decides}
use Rattle.dtype_base.specs.declared.nullability.Nullability.{Nullability}
use Rattle.dtype_types.specs.parts.Lookups.{first_named}
use Rattle.dtype_types.specs.tree.Tree.{Tree, Fields, Variants, no_items, item, pairs}
use Rattle.dtype_types.proofs.lemmas.Lookups.{other_name, taken_same_name}
use Rattle.dtype_merging.specs.ReadsAs.{Alike, EachFound, EachTagged, keyed}
use Rattle.dtype_merging.specs.MergedColumns.{no_repeats}

-- ---- cases

pub by_bool : {P : Type 0} (b : Bool) → (b ≡ true → P) → (b ≡ false → P) → P
by_bool true f g = f refl
by_bool false f g = g refl

pub by_option : {A P : Type 0} (o : Option A) → (o ≡ None → P) → ((x : A) → o ≡ Some x → P) → P
by_option None f g = f refl
by_option (Some x) f g = g x refl

pub by_name : {P : Type 0} (m n : List ℕ) → (m ≡ n → P) → (m ≢ n → P) → P
by_name m n same other = by_bool (bytes_eq m n) (λ e. same ((bytes_eq-Decides m n).0 e)) (λ e. other (λ q. let t : bytes_eq m n ≡ true = (bytes_eq-Decides m n).1 q in false≢true (sym e ∙ t)))

pub both_true : (a b : Bool) → (a && b) ≡ true → (a ≡ true) × (b ≡ true)
both_true true b e = (refl, e)
both_true false b e = absurd (false≢true e)

pub true_both : (a b : Bool) → a ≡ true → b ≡ true → (a && b) ≡ true
true_both true b e f = f
true_both false b e f = absurd (false≢true e)

pub some_and : {A : Type 0} (P : A → Type 0) (o : Option A) → IsSomeAnd o P → (x : A) × (o ≡ Some x) × P x
some_and P (Some x) h = (x, refl, h)
some_and P None h = absurd h

pub of_some_and : {A : Type 0} (P : A → Type 0) (o : Option A) (x : A) → o ≡ Some x → P x → IsSomeAnd o P
of_some_and P o x e h = subst (λ p. IsSomeAnd p P) (sym e) h

pub none_when : {A : Type 0} (o : Option A) → is_none o ≡ true → o ≡ None
none_when None e = refl
none_when (Some x) e = absurd (false≢true e)

-- ---- the first field and the others

abbrev pub Pairs : Type 0
Pairs = List (List ℕ × Tree)

pub finds_first : (m n : List ℕ) (t : Tree) (ps : Pairs) → m ≡ n → first_named ((m, t) ∷ ps) n ≡ Some t
finds_first m n t ps e = taken_same_name m n (Some t) (first_named ps n) e

pub finds_later : (m n : List ℕ) (t : Tree) (ps : Pairs) → m ≢ n → first_named ((m, t) ∷ ps) n ≡ first_named ps n
finds_later m n t ps ne = other_name m n (Some t) (first_named ps n) ne

-- what a name finds: the first field, if it has the name, and otherwise what it finds in the others
pub by_place : {P : Type 0} (m n : List ℕ) (t u : Tree) (ps : Pairs) → first_named ((m, t) ∷ ps) n ≡ Some u → (m ≡ n → t ≡ u → P) → (m ≢ n → first_named ps n ≡ Some u → P) → P
by_place m n t u ps is first later =
    by_name m n (λ e. first e (same_Some t u (sym (finds_first m n t ps e) ∙ is))) (λ ne. later ne (sym (finds_later m n t ps ne) ∙ is))

-- `gs` finds at each name what `fs` finds
abbrev pub Agrees : Pairs → Pairs → Type 0
Agrees fs gs = (n : List ℕ) (t : Tree) → first_named fs n ≡ Some t → first_named gs n ≡ Some t

pub agrees_first : (m : List ℕ) (t : Tree) (ps gs : Pairs) → Agrees ((m, t) ∷ ps) gs → first_named gs m ≡ Some t
agrees_first m t ps gs h = h m t (finds_first m m t ps refl)

pub agrees_rest : (m : List ℕ) (t : Tree) (ps gs : Pairs) → first_named ps m ≡ None → Agrees ((m, t) ∷ ps) gs → Agrees ps gs
agrees_rest m t ps gs none h n u is = h n u (finds_later m n t ps (λ e. let f : first_named ps m ≡ Some u = ap (first_named ps) e ∙ is in cc) ∙ is)

-- no name repeats in a list where the first doesn't occur in the others, and none repeats in them
pub no_repeats_rest : (f : List ℕ × Tree) (ps : Pairs) → no_repeats (f ∷ ps) ≡ true → (first_named ps f.0 ≡ None) × (no_repeats ps ≡ true)
no_repeats_rest f ps e = let h = both_true (is_none (first_named ps f.0)) (no_repeats ps) e in (none_when (first_named ps f.0) h.0, h.1)

-- ---- the names of fields find fields

module _ (L : Tree → Tree → Type 0) (R : Nullability → Nullability → Type 0) (K : Bool → Tree → Bool → Tree → Type 0) (E : Tree → Type 0) (V : Type 0) where
  pub found : (fs gs : Fields) → EachFound L R K E V fs gs → (n : List ℕ) (t : Tree) → first_named (pairs fs) n ≡ Some t → (u : Tree) × (first_named (pairs gs) n ≡ Some u) × Alike L R K E V t u
  found no_items gs h n t is = cc
  found (item m x _ fs) gs h n t is =
      by_place m n x t (pairs fs) is
      (λ e same. let s = some_and (Alike L R K E V x) (first_named (pairs gs) m) h.0 in (s.0, sym (ap (first_named (pairs gs)) e) ∙ s.1, subst (λ z. Alike L R K E V z s.0) same s.2))
      (λ ne later. found fs gs h.1 n t later)

  pub each_found : (fs gs : Fields) → no_repeats (pairs fs) ≡ true
      → ((n : List ℕ) (t : Tree) → first_named (pairs fs) n ≡ Some t → (u : Tree) × (first_named (pairs gs) n ≡ Some u) × Alike L R K E V t u) → EachFound L R K E V fs gs
  each_found no_items gs d f = tt
  each_found (item m x _ fs) gs d f =
      let r = no_repeats_rest (m, x) (pairs fs) d in
      let s = f m x (finds_first m m x (pairs fs) refl) in
      (of_some_and (Alike L R K E V x) (first_named (pairs gs) m) s.0 s.1 s.2, each_found fs gs r.1 (λ n t is. f n t (agrees_rest m x (pairs fs) ((m, x) ∷ pairs fs) r.0 (λ k y e. e) n t is)))

  -- the same of variants
  pub to_found : (vs : Variants) (gs : Fields) → EachTagged L R K E V vs gs → EachFound L R K E V (keyed vs) gs
  to_found no_items gs h = tt
  to_found (item n t f vs) gs h = (h.0, to_found vs gs h.1)

  pub of_found : (vs : Variants) (gs : Fields) → EachFound L R K E V (keyed vs) gs → EachTagged L R K E V vs gs
  of_found no_items gs h = tt
  of_found (item n t f vs) gs h = (h.0, of_found vs gs h.1)
