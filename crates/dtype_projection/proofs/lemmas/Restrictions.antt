-- SPDX-License-Identifier: Apache-2.0
-- SPDX-FileCopyrightText: Copyright the Vortex contributors

-- A restricted value is of the projection, each value of the projection is the restriction of a value of the type, with
-- samples where a field was left out, and at and below the paths the same is found in a value and in its restriction.
use Rattle.std.proofs.Common.{arith, ◌≡◌, ◌≢◌, ◌↔◌, inl, inr, ℕ, suc, List, ◌∷◌, ◌++◌, [], true, false, Option, Some, refl, sym, ap, subst, ◌∙◌, ◌||◌}
use Rattle.std.proofs.lemmas.Option.{same_Some}
use Rattle.dtype_base.specs.declared.nullability.Nullability.{Nullability}
use Rattle.dtype_types.specs.parts.Lookups.{first_named}
use Rattle.dtype_types.specs.tree.Tree.{Tree, Fields, no_items, field, pairs, list, fixed_size_list, struct, item, bool, extension}
use Rattle.dtype_types.specs.tree.Valid.{Valid, ValidItems}
use Rattle.dtype_types.specs.values.Sample.{sample}
use Rattle.dtype_types.specs.values.Value.{Value, Values, no_values, value, Named, no_named, named, null_value, items, fixed_items, record_of, Of, NamedOf, Each, value_count, truth}
use Rattle.dtype_types.proofs.lemmas.Lookups.{other_name, taken_same_name}
use Rattle.dtype_types.proofs.lemmas.SampleLaws.{sample_of}
use Rattle.dtype_paths.specs.At.{At, step}
use Rattle.dtype_paths.specs.Found.{Found, Member, first_value}
use Rattle.dtype_paths.specs.declared.field.Field.{Field}
use Rattle.dtype_paths.specs.declared.field.Field.TheVariants.{Name, ElementType}
use Rattle.dtype_paths.proofs.lemmas.Cases.{by_bool}
use Rattle.dtype_projection.specs.Projected.{PathPredicate, after_step, without_field, projected}
use Rattle.dtype_projection.specs.Restricted.{each_value, each_item, in_record, prepend_pair, restricted, restricted_pairs}
use Rattle.dtype_projection.proofs.lemmas.Projections.{by_name, after_without_other, each_projection, named_first, named_itself, path_is_kept}
use Rattle.dtype_base.specs.declared.nullability.Nullability.TheVariants.{NonNullable}
use Rattle.dtype_paths.specs.Equality.{same_path}

pub restricted_root : (t : Tree) (w : PathPredicate) (v : Value) → w [] ≡ true → restricted t w v ≡ v
restricted_root t w v e = grind (arith, e)

-- ---- a restricted value is of the projection

of_each : (t u : Tree) (g : Value → Value) (vs : Values) → ((x : Value) → Of x t → Of (g x) u) → Each (λ x. Of x t) vs → Each (λ x. Of x u) (each_value g vs)
of_each t u g no_values on h = tt
of_each t u g (value v vs) on h = (on v h.0, of_each t u g vs on h.1)

count_each : (g : Value → Value) (vs : Values) → value_count (each_value g vs) ≡ value_count vs
count_each g no_values = refl
count_each g (value v vs) = ap suc (count_each g vs)

of_list : (t u : Tree) (n : Nullability) (g : Value → Value) (v : Value) → ((x : Value) → Of x t → Of (g x) u) → Of v (list t n) → Of (each_item g v) (list u n)
of_list t u n g v on h = grind (arith, on, h, of_each t u g)

of_fixed : (t u : Tree) (k : ℕ) (n : Nullability) (g : Value → Value) (v : Value) → ((x : Value) → Of x t → Of (g x) u) → Of v (fixed_size_list t k n) → Of (each_item g v) (fixed_size_list u k n)
of_fixed t u k n g v on h = grind (arith, on, h, of_each t u g, count_each g)

pub of_restricted : (t u : Tree) (w : PathPredicate) → projected t w ≡ Some u → (v : Value) → Of v t → Of (restricted t w v) u
of_restricted = each_projection (λ t w u. (v : Value) → Of v t → Of (restricted t w v) u) (λ fs w gs. (nvs : Named) → NamedOf nvs fs → NamedOf (restricted_pairs fs w nvs) gs) (record {
  whole = λ t w root v h. grind (arith, root, h);
  in_list = λ t x n w root on v h. rw root (of_list t x n (restricted t (after_step ElementType w)) v on h);
  in_fixed = λ t x k n w root on v h. rw root (of_fixed t x k n (restricted t (after_step ElementType w)) v on h);
  in_struct = λ fs gs n w root some on v h. grind (arith, root, on, h);
  none = λ w nvs h. h;
  kept = λ n t x fs gs w is on later nvs h. grind (arith, is, on, later, h);
  left = λ n t fs gs w none is later nvs h. grind (arith, none, later, h);
})

-- ---- each value of the projection is a restricted value

-- g gives each value of u for some value of t
abbrev IsOnto : Tree → Tree → (Value → Value) → Type 0
IsOnto t u g = (x : Value) → Of x u → (v : Value) × Of v t × (g v ≡ x)

each_onto : (t u : Tree) (g : Value → Value) (xs : Values) → IsOnto t u g → Each (λ x. Of x u) xs → (vs : Values) × Each (λ v. Of v t) vs × (each_value g vs ≡ xs)
each_onto t u g no_values on h = (no_values, tt, refl)
each_onto t u g (value x xs) on h =
    let here = on x h.0 in
    let rest = each_onto t u g xs on h.1 in
    (value here.0 rest.0, (here.1, rest.1), λ i. value (here.2 i) (rest.2 i))

onto_list : (t u : Tree) (n : Nullability) (g : Value → Value) → IsOnto t u g → IsOnto (list t n) (list u n) (each_item g)
onto_list t u n g on null_value h = (null_value, h, refl)
onto_list t u n g on (items xs) h = let r = each_onto t u g xs on h in (items r.0, r.1, ap items r.2)
onto_list t u n g on _ h = absurd h

onto_fixed : (t u : Tree) (k : ℕ) (n : Nullability) (g : Value → Value) → IsOnto t u g → IsOnto (fixed_size_list t k n) (fixed_size_list u k n) (each_item g)
onto_fixed t u k n g on null_value h = (null_value, h, refl)
onto_fixed t u k n g on (fixed_items xs) h =
    let r = each_onto t u g xs on h.1 in
    (fixed_items r.0, (sym (count_each g r.0) ∙ ap value_count r.2 ∙ h.0, r.1), ap fixed_items r.2)
onto_fixed t u k n g on _ h = absurd h

onto_record : (fs gs : Fields) (n : Nullability) (g : Named → Named) → ((nvs : Named) → NamedOf nvs gs → (mvs : Named) × NamedOf mvs fs × (g mvs ≡ nvs)) → IsOnto (struct fs n) (struct gs n) (in_record g)
onto_record fs gs n g on null_value h = (null_value, h, refl)
onto_record fs gs n g on (record_of nvs) h = let r = on nvs h in (record_of r.0, r.1, ap record_of r.2)
onto_record fs gs n g on _ h = absurd h

-- the first pair, of a field that is kept, and the rest
onto_first : (n : List ℕ) (t x : Tree) (rest gs : Fields) (w : PathPredicate) (nvs : Named) → projected t (after_step (Name n) w) ≡ Some x → IsOnto t x (restricted t (after_step (Name n) w))
    → ((more : Named) → NamedOf more (gs) → (mvs : Named) × NamedOf mvs rest × (restricted_pairs rest (without_field n w) mvs ≡ more))
    → NamedOf nvs (field n x (gs)) → (mvs : Named) × NamedOf mvs (field n t rest) × (restricted_pairs (field n t rest) w mvs ≡ nvs)
onto_first n t x rest gs w no_named is here later o = absurd o
onto_first n t x rest gs w (named m v more) is here later o =
    let a = here v o.1 in let r = later more o.2 in (named m a.0 r.0, (o.0, a.1, r.1), rw (is, a.2, r.2) refl)

pub onto : (t u : Tree) (w : PathPredicate) → projected t w ≡ Some u → Valid t → IsOnto t u (restricted t w)
onto = each_projection (λ t w u. Valid t → IsOnto t u (restricted t w)) (λ fs w gs. ValidItems fs → (nvs : Named) → NamedOf nvs gs → (mvs : Named) × NamedOf mvs fs × (restricted_pairs fs w mvs ≡ nvs)) (record {
  whole = λ t w root h x o. (x, o, restricted_root t w x root);
  in_list = λ t x n w root on h. rw root (onto_list t x n (restricted t (after_step ElementType w)) (on h));
  in_fixed = λ t x k n w root on h. rw root (onto_fixed t x k n (restricted t (after_step ElementType w)) (on h.1));
  in_struct = λ fs gs n w root some on h. rw root (onto_record fs gs n (restricted_pairs fs w) (on h));
  none = λ w h nvs o. (nvs, o, refl);
  kept = λ n t x fs gs w is on later h nvs o. onto_first n t x fs gs w nvs is (on h.0) (later h.1) o;
  left = λ n t fs gs w none is later h nvs o.
      let r = later h.1 nvs o in
      (named n (sample t) r.0, (refl, sample_of t h.0, r.1), ap (λ p. prepend_pair n p (restricted t (after_step (Name n) w) (sample t)) (restricted_pairs fs (without_field n w) r.0)) none ∙ r.2);
})

-- ---- at and below the paths the same is found

-- of some item
found_each : (t : Tree) (g : Value → Value) (P Q : Value → Type 0) (vs : Values) → ((y : Value) → Of y t → P y ↔ Q (g y)) → Each (λ y. Of y t) vs → ((y : Value) × Member vs y × P y) ↔ ((z : Value) × Member (each_value g vs) z × Q z)
found_each t g P Q no_values on h = (λ f. absurd f.1, λ f. absurd f.1)
found_each t g P Q (value v vs) on h =
    let rest = found_each t g P Q vs on h.1 in (
      λ f. elim f.1 [ inl e ↦ (g v, inl refl, (on v h.0).0 (subst P (sym e) f.2)) | inr m ↦ let r = rest.0 (f.0, m, f.2) in (r.0, inr r.1, r.2) ],
      λ f. elim f.1 [ inl e ↦ (v, inl refl, (on v h.0).1 (subst Q (sym e) f.2)) | inr m ↦ let r = rest.1 (f.0, m, f.2) in (r.0, inr r.1, r.2) ],
    )

-- of the first pair of a name, where it is v, and r when restricted
found_first : (o p : Option Value) (v r : Value) (q : List Field) (x : Value) → o ≡ Some v → p ≡ Some r → Found v q x ↔ Found r q x → ((y : Value) × (o ≡ Some y) × Found y q x) ↔ ((z : Value) × (p ≡ Some z) × Found z q x)
found_first o p v r q x a b on = grind (arith, a, b, on)

past_pair : (k m : List ℕ) (o : Option Tree) (v : Value) (more : Named) → k ≢ m → first_value (prepend_pair k o v more) m ≡ first_value more m
past_pair k m o v more ne = grind (arith, other_name, ne)

found_pairs : (fs : Fields) (w : PathPredicate) (nvs : Named) (m : List ℕ) (c u : Tree) (q : List Field) (x : Value) → ((y : Value) → Of y c → Found y q x ↔ Found (restricted c (after_step (Name m) w) y) q x)
    → first_named (pairs fs) m ≡ Some c → projected c (after_step (Name m) w) ≡ Some u → NamedOf nvs fs → Found (record_of nvs) (Name m ∷ q) x ↔ Found (record_of (restricted_pairs fs w nvs)) (Name m ∷ q) x
found_pairs no_items w nvs m c u q x on e is h = cc
found_pairs (item n t _ rest) w no_named m c u q x on e is h = absurd h
found_pairs (item n t _ rest) w (named k v more) m c u q x on e is h = by_name n m
    (λ nm.
    let tc : t ≡ c = same_Some t c (sym (ap (first_named (pairs (field n t rest))) (sym nm) ∙ named_itself n t rest) ∙ e) in
    found_first _ _ v (restricted c (after_step (Name m) w) v) q x
    (taken_same_name k m _ _ (h.0 ∙ nm))
    (rw (tc, nm, is) (taken_same_name k m _ _ (h.0 ∙ nm)))
    (on v (subst (Of v) tc h.1)))
    (λ ne.
    let km = λ (same : k ≡ m). ne (sym h.0 ∙ same) in
    let same : after_step (Name m) (without_field n w) ≡ after_step (Name m) w = after_without_other n m w ne in
    let later = found_pairs rest (without_field n w) more m c u q x (rw same on) (sym (named_first n m t rest ne) ∙ e) (rw same is) h.2 in
    let past : first_value (named k v more) m ≡ first_value more m = other_name k m _ _ km in
    let over = past_pair k m (projected t (after_step (Name n) w)) (restricted t (after_step (Name n) w) v) (restricted_pairs rest (without_field n w) more) km in
    rw (past, over) later)

-- one step down
found_step : (t : Tree) (f : Field) (y u : Tree) (w : PathPredicate) (q : List Field) (v x : Value) → w [] ≡ false → step t f ≡ Some y → projected y (after_step f w) ≡ Some u
    → ((z : Tree) → step t f ≡ Some z → (b : Value) → Of b z → Found b q x ↔ Found (restricted z (after_step f w) b) q x) → Of v t → Found v (f ∷ q) x ↔ Found (restricted t w v) (f ∷ q) x
found_step (list t n) ElementType y u w q (items vs) x root at is on h = rw root (found_each t _ (λ v. Found v q x) (λ v. Found v q x) vs (on t refl) h)
found_step (fixed_size_list t k n) ElementType y u w q (fixed_items vs) x root at is on h = rw root (found_each t _ (λ v. Found v q x) (λ v. Found v q x) vs (on t refl) h.1)
found_step (struct fs n) (Name m) y u w q (record_of nvs) x root at is on h = rw root (found_pairs fs w nvs m y u q x (on y at) at is h)
found_step _ f y u w q v x root at is on h = grind (arith, root, at, h)

-- at and below a path of w that exists in the type the same is found in the value and in its restriction
pub found_kept : (p r : List Field) (t z : Tree) (w : PathPredicate) (v x : Value) → w p ≡ true → At t p z → Of v t → Found v (p ++ r) x ↔ Found (restricted t w v) (p ++ r) x
found_kept [] r t z w v x is a h = rw (restricted_root t w v is) (λ f. f, λ f. f)
found_kept (f ∷ p) r t z w v x is a h = by_bool (w [])
    (λ root. rw (restricted_root t w v root) (λ g. g, λ g. g))
    (λ root. let u = path_is_kept p a.0 z (after_step f w) is a.2 in
    found_step t f a.0 u.0 w (p ++ r) v x root a.1 u.1 (λ y at b o. found_kept p r y z (after_step f w) b x is (subst (λ k. At k p z) (same_Some a.0 y (sym a.1 ∙ at)) a.2) o) h)

-- ---- an example: a path that leads through an extension exists in no type, but finds something in a value, which the
-- restricted value doesn't have

-- two fields, a and c; a is an extension over a struct with a field b
abbrev whole : Tree
whole = struct (field (97 ∷ []) (extension [] [] (struct (field (98 ∷ []) (bool NonNullable) no_items) NonNullable)) (field (99 ∷ []) (bool NonNullable) no_items)) NonNullable

abbrev part : Tree
part = struct (field (99 ∷ []) (bool NonNullable) no_items) NonNullable

abbrev a_b : List Field
a_b = Name (97 ∷ []) ∷ Name (98 ∷ []) ∷ []

abbrev wanted : PathPredicate
wanted p = same_path p a_b || same_path p (Name (99 ∷ []) ∷ [])

abbrev row : Value
row = record_of (named (97 ∷ []) (record_of (named (98 ∷ []) (truth true) no_named)) (named (99 ∷ []) (truth true) no_named))

pub lost_through_extensions : (t u : Tree) × (w : PathPredicate) × (p : List Field) × (v x : Value) × (projected t w ≡ Some u) × (w p ≡ true) × Of v t × Found v p x × ¬ (Found (restricted t w v) p x)
lost_through_extensions =
    (whole, part, wanted, a_b, row, truth true, refl, refl, (refl, (refl, tt, tt), (refl, tt, tt)), (record_of (named (98 ∷ []) (truth true) no_named), refl, (truth true, refl, refl)), λ f. let e = f.1 in cc)
