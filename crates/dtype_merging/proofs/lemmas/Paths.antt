-- SPDX-License-Identifier: Apache-2.0
-- SPDX-FileCopyrightText: Copyright the Vortex contributors

-- Paths in types that are read as others, and in merged types. A path that exists in a type exists in each type as which
-- it can be read, and the part at it can be read as the part there. A path that exists in a merged type exists in one of
-- the types that were merged.
use Rattle.std.proofs.Common.{◌≡◌, ◌==◌, ◌&&◌, ◌++◌, ℕ, List, [], ◌∷◌, Bool, true, false, Option, Some, None, IfSome, refl, sym, ap, subst, ◌∙◌, inl, inr, ◌⊎◌}
use Rattle.std.specs.List.{AllByRecursion}
use Rattle.std.specs.Option.{is_some, option_map}
use Rattle.std.specs.Str.{bytes_eq}
use Rattle.std.proofs.lemmas.Bool.{false≢true}
use Rattle.std.proofs.lemmas.Option.{same_Some}
use Rattle.dtype_base.specs.Nullability.{either}
use Rattle.dtype_types.specs.declared.dtype.DType.{DType}
use Rattle.dtype_types.specs.declared.dtype.kinds.Kind.{Kind}
use Rattle.dtype_types.specs.declared.dtype.kinds.Kind.TheVariants as variants
use Rattle.dtype_types.specs.nullability.Nullable.{IsNullable}
use Rattle.dtype_types.specs.nullability.Sub.{Allows}
use Rattle.dtype_types.specs.parts.Lookups.{first_named}
use Rattle.dtype_types.specs.tree.Kinds.{kind}
use Rattle.dtype_types.specs.tree.Tree.{Tree, Fields, no_items, item, pairs, fields, null, list, fixed_size_list, struct, extension}
use Rattle.dtype_types.specs.tree.TreeOf.{tree}
use Rattle.dtype_types.proofs.lemmas.JoinedFields.{named_behind}
use Rattle.dtype_types.proofs.lemmas.Merging.{under_where}
use Rattle.dtype_paths.specs.At.{At, ExistsIn, step}
use Rattle.dtype_paths.specs.declared.field.Field.{Field}
use Rattle.dtype_paths.specs.declared.field.Field.TheVariants.{Name, ElementType}
use Rattle.dtype_merging.specs.AllMerged.{all_columns_merged}
use Rattle.dtype_merging.specs.MergedColumns.{column, columns_merged, further, made_nullable, merged_beside, merged_by_name, no_repeats, struct_with}
use Rattle.dtype_merging.specs.ReadsAs.{EachBeside, ReadsAs, ReadsPlain, StaySorted}
use Rattle.dtype_merging.specs.declared.widening.Widening.{Widening}
use Rattle.dtype_merging.proofs.lemmas.AllMerged.{one_more, reads_all}
use Rattle.dtype_merging.proofs.lemmas.Beside.{items_of}
use Rattle.dtype_merging.proofs.lemmas.Columns.{Rows, found_before, further_back, made_in_storage, of_columns, row_back}
use Rattle.dtype_merging.proofs.lemmas.Finding.{Pairs, by_bool, by_option, by_place, finds_first, finds_later, found}
use Rattle.dtype_merging.proofs.lemmas.Merging.{above, if_some, mapped_some, merged_with_null, pick_false, pick_true, prepended}
use Rattle.dtype_merging.proofs.lemmas.Order.{of_fixed, of_list, of_struct}
use Rattle.dtype_merging.proofs.lemmas.Reading.{erased_kind, plain_kinds, reads_kind}

-- ---- a type that is read as another

-- the first field of a name, in structs whose fields are read one by one
beside_found : (wide : Widening) (fs gs : Fields) → EachBeside (ReadsPlain wide) Allows StaySorted IsNullable (Unit {0}) fs gs → (n : List ℕ) (t : Tree) → first_named (pairs fs) n ≡ Some t → (u : Tree) × (first_named (pairs gs) n ≡ Some u) × ReadsAs wide t u
beside_found wide no_items no_items h n t is = cc
beside_found wide (item m x _ fs) (item k y _ gs) h n t is = by_place m n x t (pairs fs) is
    (λ e same. (y, finds_first k n y (pairs gs) (sym h.0 ∙ e), subst (λ z. ReadsAs wide z y) same h.2))
    (λ ne later. let r = beside_found wide fs gs h.3 n t later in (r.0, finds_later k n y (pairs gs) (λ q. ne (h.0 ∙ q)) ∙ r.1, r.2))
beside_found wide no_items (item k y _ gs) h n t is = absurd h
beside_found wide (item m x _ fs) no_items h n t is = absurd h

-- what a step leads to can be read as what it leads to in the other type
read_step : (wide : Widening) (t u : Tree) (f : Field) (x : Tree) → ReadsAs wide t u → step t f ≡ Some x → (y : Tree) × (step u f ≡ Some y) × ReadsAs wide x y
read_step wide (list t m) u ElementType x h is =
    let i = of_list (ReadsPlain wide) Allows StaySorted IsNullable (Unit {0}) (plain_kinds wide) t m u h in (i.0, ap (λ w. step w ElementType) i.2, subst (λ z. ReadsAs wide z i.0) (same_Some t x is) i.4)
read_step wide (fixed_size_list t j m) u ElementType x h is =
    let i = of_fixed (ReadsPlain wide) Allows StaySorted IsNullable (Unit {0}) (plain_kinds wide) t j m u h in (i.0, ap (λ w. step w ElementType) i.2, subst (λ z. ReadsAs wide z i.0) (same_Some t x is) i.4)
read_step wide (struct fs m) u (Name n) x h is =
    let i = of_struct (ReadsPlain wide) Allows StaySorted IsNullable (Unit {0}) (plain_kinds wide) fs m u h in
    let there : (y : Tree) × (first_named (pairs i.0) n ≡ Some y) × ReadsAs wide x y = elim i.3 [
      | inl s ↦ found (ReadsPlain wide) Allows StaySorted IsNullable (Unit {0}) fs i.0 s.2 n x is
      | inr s ↦ beside_found wide fs i.0 s.2 n x is
    ] in (there.0, ap (λ w. step w (Name n)) i.2 ∙ there.1, there.2)
read_step wide t u f x h is = cc

read_path : (wide : Widening) (p : List Field) (t u x : Tree) → ReadsAs wide t u → At t p x → (y : Tree) × At u p y × ReadsAs wide x y
read_path wide [] t u x h at = (u, refl, subst (λ z. ReadsAs wide z u) at h)
read_path wide (f ∷ p) t u x h at = let s = read_step wide t u f at.0 h at.1 in let r = read_path wide p at.0 s.0 x s.2 at.2 in (r.0, (s.0, s.1, r.1), r.2)

pub read_at : (wide : Widening) (t u x : Tree) (p : List Field) → ReadsAs wide t u → At t p x → (y : Tree) × At u p y × ReadsAs wide x y
read_at wide t u x p = read_path wide p t u x

pub read_exists : (wide : Widening) (p : List Field) (t u : Tree) → ReadsAs wide t u → ExistsIn t p → ExistsIn u p
read_exists wide p t u h e = let r = read_path wide p t u e.found h e.at in record { found = r.0; at = r.1 }

-- ---- a type that is made nullable

made_step : (t : Tree) (f : Field) → step (made_nullable t) f ≡ step t f
made_step (extension i b s) (Name n) = ap (λ z. step z (Name n)) (made_in_storage i b s)
made_step (extension i b s) ElementType = ap (λ z. step z ElementType) (made_in_storage i b s)
made_step _ f = refl

made_exists : (t : Tree) (p : List Field) → ExistsIn (made_nullable t) p → ExistsIn t p
made_exists t [] h = record { found = t; at = refl }
made_exists t (f ∷ p) h = record { found = h.found; at = (h.at.0, sym (made_step t f) ∙ h.at.1, h.at.2) }

-- ---- a merged type

-- the kinds of types into which steps lead
abbrev leads : Kind → Bool
leads variants.List = true
leads variants.FixedSizeList = true
leads variants.Struct = true
leads _ = false

no_step : (t : Tree) (f : Field) → leads (kind t) ≡ false → step t f ≡ None
no_step (list t m) f e = absurd (false≢true (sym e))
no_step (fixed_size_list t j m) f e = absurd (false≢true (sym e))
no_step (struct fs m) f e = absurd (false≢true (sym e))
no_step t (Name n) e = refl
no_step t ElementType e = refl

-- `x`, to which a step leads in the merged type, is merged of what the step leads to in both types
abbrev OfBoth : Widening → Tree → Tree → Field → Tree → Type 0
OfBoth wide a b f x = (y : Tree) × (z : Tree) × (step a f ≡ Some y) × (step b f ≡ Some z) × (columns_merged wide y z ≡ Some x)

-- or each path that exists in it exists in what the step leads to in one of them
abbrev OfOne : Tree → Field → Tree → Type 0
OfOne a f x = (y : Tree) × (step a f ≡ Some y) × ((q : List Field) → ExistsIn x q → ExistsIn y q)

abbrev Comes : Widening → Tree → Tree → Field → Tree → Type 0
Comes wide a b f x = OfBoth wide a b f x ⊎ (OfOne a f x ⊎ OfOne b f x)

of_made : (a c : Tree) (f : Field) (x : Tree) → made_nullable a ≡ c → step c f ≡ Some x → OfOne a f x
of_made a c f x is s = (x, sym (made_step a f) ∙ ap (λ z. step z f) is ∙ s, λ q h. h)

-- a column is merged of the field and the field of that name in the other struct, or it is the field made nullable
abbrev Kept : Widening → Fields → List ℕ → Tree → Tree → Type 0
Kept wide gs n t x = ((u : Tree) × (first_named (pairs gs) n ≡ Some u) × (columns_merged wide t u ≡ Some x)) ⊎ (made_nullable t ≡ x)

kept_rows : (wide : Widening) (fs gs : Fields) (ps : Pairs) → merged_by_name wide fs gs ≡ Some ps → Rows (Kept wide gs) fs ps
kept_rows wide no_items gs ps e = subst (Rows (Kept wide gs) no_items) (same_Some [] ps e) tt
kept_rows wide (item n t _ fs) gs ps e =
    let r = prepended n (column t (λ u. columns_merged wide t u) (first_named (pairs gs) n)) (merged_by_name wide fs gs) ps e in
    let x = r.0 in
    let here : Kept wide gs n t x = by_option (first_named (pairs gs) n)
    (λ none. inr (same_Some (made_nullable t) x (sym (ap (column t (λ u. columns_merged wide t u)) none) ∙ r.2)))
    (λ u some. inl (u, some, sym (ap (column t (λ u. columns_merged wide t u)) some) ∙ r.2)) in
    subst (Rows (Kept wide gs) (item n t tt fs)) r.4 (refl, here, kept_rows wide fs gs r.1 r.3)

-- the field of a name in a struct that is merged by name
named_step : (wide : Widening) (fs gs : Fields) (ps : Pairs) (n : List ℕ) (x : Tree) → merged_by_name wide fs gs ≡ Some ps → first_named (ps ++ further (pairs fs) (pairs gs)) n ≡ Some x
    → ((y : Tree) × (z : Tree) × (first_named (pairs fs) n ≡ Some y) × (first_named (pairs gs) n ≡ Some z) × (columns_merged wide y z ≡ Some x))
    ⊎ (((y : Tree) × (first_named (pairs fs) n ≡ Some y) × (made_nullable y ≡ x)) ⊎ ((y : Tree) × (first_named (pairs gs) n ≡ Some y) × (made_nullable y ≡ x)))
named_step wide fs gs ps n x e is =
    let more = further (pairs fs) (pairs gs) in
    by_option (first_named ps n)
    (λ lacks. let b = further_back (pairs fs) (pairs gs) n x (sym (named_behind ps more n lacks) ∙ is) in inr (inr (b.0, b.2, sym b.3)))
    (λ y some.
    let same = same_Some y x (sym (found_before ps more n y some) ∙ is) in
    let b = row_back (Kept wide gs) fs ps (kept_rows wide fs gs ps e) n y some in
    elim b.2 [
      | inl k ↦ inl (b.0, k.0, b.1, k.1, k.2 ∙ ap Some same)
      | inr k ↦ inr (inl (b.0, b.1, k ∙ same))
    ])

-- the first field of a name in a struct that is merged position by position
beside_step : (wide : Widening) (fs gs hs : Fields) (n : List ℕ) (x : Tree) → merged_beside wide fs gs ≡ Some hs → first_named (pairs hs) n ≡ Some x
    → (y : Tree) × (z : Tree) × (first_named (pairs fs) n ≡ Some y) × (first_named (pairs gs) n ≡ Some z) × (columns_merged wide y z ≡ Some x)
beside_step wide no_items no_items hs n x e is = let none : first_named (pairs hs) n ≡ None = sym (ap (λ z. first_named (pairs z) n) (same_Some no_items hs e)) in cc
beside_step wide (item m t f fs) (item k u g gs) hs n x e is =
    let r = items_of wide m t f fs k u g gs hs e in
    let at : first_named (pairs (item m r.0 f r.1)) n ≡ Some x = ap (λ z. first_named (pairs z) n) r.6 ∙ is in
    by_place m n r.0 x (pairs r.1) at
    (λ same type. (t, u, finds_first m n t (pairs fs) same, finds_first k n u (pairs gs) (sym r.2 ∙ same), r.4 ∙ ap Some type))
    (λ ne later. let s = beside_step wide fs gs r.1 n x r.5 later in (s.0, s.1, finds_later m n t (pairs fs) ne ∙ s.2, finds_later k n u (pairs gs) (λ q. ne (r.2 ∙ q)) ∙ s.3, s.4))
beside_step wide no_items (item k u g gs) hs n x e is = cc
beside_step wide (item m t f fs) no_items hs n x e is = cc

merged_step : (wide : Widening) (a b c : Tree) (f : Field) (x : Tree) → columns_merged wide a b ≡ Some c → step c f ≡ Some x → Comes wide a b f x
merged_step wide null b c f x e s = inr (inr (of_made b c f x (same_Some (made_nullable b) c e) s))
merged_step wide a null c f x e s = inr (inl (of_made a c f x (same_Some (made_nullable a) c (sym (merged_with_null wide a) ∙ e)) s))
merged_step wide (list t m) (list u n) c (Name k) x e s =
    let r = mapped_some (λ x. list x (either m n)) (columns_merged wide t u) c e in let z : None ≡ Some x = ap (λ w. step w (Name k)) r.2 ∙ s in cc
merged_step wide (list t m) (list u n) c ElementType x e s =
    let r = mapped_some (λ x. list x (either m n)) (columns_merged wide t u) c e in inl (t, u, refl, refl, r.1 ∙ ap (λ w. step w ElementType) r.2 ∙ s)
merged_step wide (list t m) b c f x e s = let k = erased_kind (list t m) b ((under_where either (list t m) b).0 (ap is_some e)) in cc
merged_step wide (fixed_size_list t j m) (fixed_size_list u k n) c (Name i) x e s =
    let d = if_some (j == k) (option_map (λ x. fixed_size_list x j (either m n)) (columns_merged wide t u)) c e in
    let r = mapped_some (λ x. fixed_size_list x j (either m n)) (columns_merged wide t u) c d.1 in let z : None ≡ Some x = ap (λ w. step w (Name i)) r.2 ∙ s in cc
merged_step wide (fixed_size_list t j m) (fixed_size_list u k n) c ElementType x e s =
    let d = if_some (j == k) (option_map (λ x. fixed_size_list x j (either m n)) (columns_merged wide t u)) c e in
    let r = mapped_some (λ x. fixed_size_list x j (either m n)) (columns_merged wide t u) c d.1 in inl (t, u, refl, refl, r.1 ∙ ap (λ w. step w ElementType) r.2 ∙ s)
merged_step wide (fixed_size_list t j m) b c f x e s = let k = erased_kind (fixed_size_list t j m) b ((under_where either (fixed_size_list t j m) b).0 (ap is_some e)) in cc
merged_step wide (struct fs m) (struct gs n) c (Name k) x e s =
    let test = no_repeats (pairs fs) && no_repeats (pairs gs) in
    let more = further (pairs fs) (pairs gs) in
    let named = struct_with (merged_by_name wide fs gs) more (either m n) in
    let beside = option_map (λ hs. struct hs (either m n)) (merged_beside wide fs gs) in
    by_bool test
    (λ tested.
    let r = mapped_some (λ qs. struct (fields (qs ++ more)) (either m n)) (merged_by_name wide fs gs) c (sym (pick_true test named beside tested) ∙ e) in
    let is = of_columns (r.0 ++ more) k (Some x) (ap (λ w. step w (Name k)) r.2 ∙ s) in
    elim (named_step wide fs gs r.0 k x r.1 is) [
      | inl b ↦ inl b
      | inr o ↦ elim o [
        | inl y ↦ inr (inl (y.0, y.1, λ q h. made_exists y.0 q (subst (λ z. ExistsIn z q) (sym y.2) h)))
        | inr y ↦ inr (inr (y.0, y.1, λ q h. made_exists y.0 q (subst (λ z. ExistsIn z q) (sym y.2) h)))
      ]
    ])
    (λ differ.
    let r = mapped_some (λ hs. struct hs (either m n)) (merged_beside wide fs gs) c (sym (pick_false test named beside differ) ∙ e) in
    inl (beside_step wide fs gs r.0 k x r.1 (ap (λ w. step w (Name k)) r.2 ∙ s)))
merged_step wide (struct fs m) (struct gs n) c ElementType x e s =
    let i = of_struct (ReadsPlain wide) Allows StaySorted IsNullable (Unit {0}) (plain_kinds wide) fs m c (above wide (struct fs m) (struct gs n) c e).0 in
    let z : None ≡ Some x = sym (ap (λ w. step w ElementType) i.2) ∙ s in cc
merged_step wide (struct fs m) b c f x e s = let k = erased_kind (struct fs m) b ((under_where either (struct fs m) b).0 (ap is_some e)) in cc
merged_step wide a b c f x e s = let none = no_step c f (sym (ap leads (reads_kind wide a c refl (above wide a b c e).0))) in cc

-- ---- a path in a merged type

after : (t : Tree) (f : Field) (x : Tree) (p : List Field) → step t f ≡ Some x → ExistsIn x p → ExistsIn t (f ∷ p)
after t f x p is h = record { found = h.found; at = (x, is, h.at) }

merged_exists : (wide : Widening) (p : List Field) (a b c : Tree) → columns_merged wide a b ≡ Some c → ExistsIn c p → ExistsIn a p ⊎ ExistsIn b p
merged_exists wide [] a b c e h = inl (record { found = a; at = refl })
merged_exists wide (f ∷ p) a b c e h =
    let x = h.at.0 in
    let rest : ExistsIn x p = record { found = h.found; at = h.at.2 } in
    elim (merged_step wide a b c f x e h.at.1) [
      | inl s ↦ elim (merged_exists wide p s.0 s.1 x s.4 rest) [ inl l ↦ inl (after a f s.0 p s.2 l) | inr r ↦ inr (after b f s.1 p s.3 r) ]
      | inr o ↦ elim o [ inl s ↦ inl (after a f s.0 p s.1 (s.2 p rest)) | inr s ↦ inr (after b f s.0 p s.1 (s.2 p rest)) ]
    ]

pub merged_at : (wide : Widening) (a b c : Tree) (p : List Field) → columns_merged wide a b ≡ Some c → ExistsIn c p → ExistsIn a p ⊎ ExistsIn b p
merged_at wide a b c p = merged_exists wide p a b c

-- ---- a path in one of several types

all_exist : (wide : Widening) (p : List Field) (t c : Tree) (us : List Tree) → all_columns_merged wide t us ≡ Some c → ExistsIn c p → (ExistsIn t p → ⊥) → AllByRecursion (λ u. ExistsIn u p → ⊥) us → ⊥
all_exist wide p t c [] e h first others = first (subst (λ z. ExistsIn z p) (sym (same_Some t c e)) h)
all_exist wide p t c (u ∷ us) e h first others =
    let r = one_more wide t u c us e in
    all_exist wide p r.0 c us r.2 h (λ m. elim (merged_exists wide p t u r.0 r.1 m) [ inl l ↦ first l | inr o ↦ others.0 o ]) others.1

-- a path that is missing in a type is missing in each type that can be read as it
each_lacks : (wide : Widening) (p : List Field) (c : Tree) (us : List Tree) → AllByRecursion (λ u. ReadsAs wide u c) us → (ExistsIn c p → ⊥) → AllByRecursion (λ u. ExistsIn u p → ⊥) us
each_lacks wide p c [] h none = tt
each_lacks wide p c (u ∷ us) h none = (λ e. none (read_exists wide p u c h.0 e), each_lacks wide p c us h.1 none)

-- ---- the same of what a call returns

pub all_lack : (wide : Widening) (t : Tree) (us : List Tree) (o : Option DType) → option_map tree o ≡ all_columns_merged wide t us → IfSome o (λ c. (p : List Field) → (ExistsIn (tree c) p → ⊥) → AllByRecursion (λ u. ExistsIn u p → ⊥) (t ∷ us))
all_lack wide t us None is = tt
all_lack wide t us (Some c) is = λ p none. let l = reads_all wide t (tree c) us (sym is) in (λ e. none (read_exists wide p t (tree c) l.first e), each_lacks wide p (tree c) us l.others none)

pub one_has : (wide : Widening) (t : Tree) (us : List Tree) (o : Option DType) → option_map tree o ≡ all_columns_merged wide t us → IfSome o (λ c. (p : List Field) → AllByRecursion (λ u. ExistsIn u p → ⊥) (t ∷ us) → ExistsIn (tree c) p → ⊥)
one_has wide t us None is = tt
one_has wide t us (Some c) is = λ p none h. all_exist wide p t (tree c) us (sym is) h none.0 none.1

pub ruleset merged_paths = (all_lack, one_has)
