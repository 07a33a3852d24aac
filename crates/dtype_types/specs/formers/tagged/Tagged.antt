-- SPDX-License-Identifier: Apache-2.0
-- SPDX-FileCopyrightText: Copyright the Vortex contributors

-- `Tagged` as a type that may hold the type that holds it, by its types.
use Rattle.std.specs.Prelude.{◌≡◌, ℕ, List, [], ◌∷◌, map, length, max}
use mathlib.Core.Path.{refl, sym, ap, ◌∙◌}
use mathlib.Core.HLevel.{×_prop}
use mathlib.Core.Former.{Former, Count, Row, one_more, this, const, pair, list, list_count, list_put, via, children}
use native.Mathlib.Nat.{ℕ_set}
use native.Mathlib.Omega.{arith}
use lib.ListN.{length-map}
use base.Stored.{code_map, coded×, coded_ℕ, coded_list, gcons}
use denote.RattleType.{RattleType}
use denote.HoleLaws.{Alike}
use denote.HolePlaces.{Recodes, struct_places, laid}
use denote.Hole.Carrier.{listed}
use denote.Hole.Fix.{over}
use denote.Param.Weighed.{Weighed, most, List-puts, w_pair, w_const}
use denote.Param.Nested.{deepest}
use denote.Model.Placed.{held, view_places_where}
use Rattle.std.specs.declared.vec.Vec.{Vec}
use Rattle.std.specs.formers.vec.Vec as vec
use Rattle.std.specs.declared.alloc.Global.{Global}
use Rattle.std.specs.contracts.alloc.Global as heap
use Rattle.std.specs.contracts.impls.GlobalAllocator.TheImpl.{ghosts}
use Rattle.std.specs.List.{zip}
use Rattle.dtype_types.specs.parts.Lists.{types_of}
use Rattle.dtype_types.specs.declared.tagged.Tagged.TheInside.{Inside}
use Rattle.dtype_types.specs.declared.tagged.Tagged.TheView.{view, invariant}
use Rattle.dtype_types.specs.contracts.tagged.Tagged as C
use Rattle.dtype_types.specs.contracts.tagged.Tagged.TheInside as I

abbrev Name : Type 0
Name = List ℕ

abbrev entry : Former {0} → Former {0}
entry g = pair (const Name) (pair g (const ℕ))

abbrev on_type : {X Y : Type 0} → (X → Y) → Name × (X × ℕ) → Name × (Y × ℕ)
on_type h p = (p.0, (h p.1.0, p.1.1))

around : (a : ℕ) → max 0 (max a 0) ≡ a
around a = omega arith

most_types : {Y : Type 0} (f : Y → ℕ) (es : List (Name × (Y × ℕ))) → most (λ p. max 0 (max (f p.1.0) 0)) es ≡ most f (types_of es)
most_types f [] = refl
most_types f (e ∷ es) = λ i. max (around (f e.1.0) i) (most_types f es i)

pub entries_puts : {g : Former {0}} (w : Weighed g) (X : Type 0) (μ : X → ℕ) (es : List (Name × (g.Of X × ℕ))) (n : Count) (t : Row X n)
    → deepest μ (list_count (entry g) (map ((entry g).shape X) es) n) (list_put (entry g) X es n t) ≡ max (most (w.weight X μ) (types_of es)) (deepest μ n t)
entries_puts w X μ es n t = List-puts (w_pair (w_const Name) (w_pair w (w_const ℕ))) X μ es n t ∙ ap (λ a. max a (deepest μ n t)) (most_types (w.weight X μ) es)

abbrev pub the_former : Former {0} → Former {0}
the_former g = list (entry g)

abbrev pub the_weighed : {g : Former {0}} → Weighed g → Weighed (the_former g)
the_weighed w = record { weight = λ X μ d. most (w.weight X μ) (types_of d); puts = λ X μ d. entries_puts w X μ d }

pub the_empty : List (Name × (⊥ × ℕ))
the_empty = []

abbrev pub the_items : (X : Type 0) → List (Name × (X × ℕ)) → List X
the_items X d = types_of d

pub the_items_listed : (X : Type 0) (d : List (Name × (X × ℕ))) → listed _ (children (the_former this) X d) ≡ the_items X d
the_items_listed X [] = refl
the_items_listed X (p ∷ ps) = ap (λ l. p.1.0 ∷ l) (the_items_listed X ps)

abbrev fields : Former {0}
fields = via (pair (const (List Name)) (pair (vec.the_former this Global) (const (Vec ℕ Global)))) Inside (λ X a. (a.names, (a.dtypes, a.tags))) (λ X v. record { names = v.0; dtypes = v.1.0; tags = v.1.1 }) (λ X a. refl) (λ X v. refl)

zip-map : {X Y : Type 0} (h : X → Y) (ks : List Name) (vs : List X) (gs : List ℕ) → zip ks (zip (map h vs) gs) ≡ map (on_type h) (zip ks (zip vs gs))
zip-map h [] vs gs = refl
zip-map h (k ∷ ks) [] gs = refl
zip-map h (k ∷ ks) (v ∷ vs) [] = refl
zip-map h (k ∷ ks) (v ∷ vs) (g ∷ gs) = ap (λ l. (k, (h v, g)) ∷ l) (zip-map h ks vs gs)

zip-held : (X : Type 0) (ks : List Name) (vs : List X) (gs : List ℕ) → length vs ≡ length ks → length gs ≡ length ks → held (list (entry this)) X (zip ks (zip vs gs)) ≡ held (list this) X vs
zip-held X [] [] gs e f = refl
zip-held X (k ∷ ks) (v ∷ vs) (g ∷ gs) e f = λ i. (one_more (zip-held X ks vs gs (omega arith) (omega arith) i).0, (v, (zip-held X ks vs gs (omega arith) (omega arith) i).1))
zip-held _ _ _ _ e f = absurd (omega arith)

module _ (R S : RattleType) (h : R.Denot → S.Denot) where
  pub the_places : Alike R S h → Alike (C.the_row R) (C.the_row S) ((the_former this).map R.Denot S.Denot h)
  the_places a = view_places_where fields (the_former this) view
      (λ X Y k u. zip-map k u.names u.dtypes.items u.tags.items)
      (λ X u. (length u.dtypes.items ≡ length u.names) × (length u.tags.items ≡ length u.names)) (λ X Y k u e. (sym (length-map u.dtypes.items k) ∙ e.0, e.1)) (λ X u e. zip-held X u.names u.dtypes.items u.tags.items e.0 e.1)
      R.Denot S.Denot h (C.the_row R).coded (C.the_row S).coded
      (invariant R.Denot) (invariant S.Denot) (λ u. ×_prop (ℕ_set _ _) (ℕ_set _ _)) (λ u. ×_prop (ℕ_set _ _) (ℕ_set _ _))
      (λ u e. (length-map u.dtypes.items h ∙ e.0, e.1)) (λ u e. (sym (length-map u.dtypes.items h) ∙ e.0, e.1)) (λ u e. e)
      (over (I.the_row R)) (over (I.the_row S))
      (struct_places (I.the_type R) (I.the_type S) (λ n. n, (vec.mapped h, (λ n. n, tt))) _ (λ d. refl) refl
      ((refl, (λ n. refl, λ n. refl)), (laid _ _ _ (vec.the_places heap.the_row ghosts R S h a), ((refl, (λ n. refl, λ n. refl)), tt))))

  pub the_codes_placed : Recodes R S h → Recodes (C.the_row R) (C.the_row S) ((the_former this).map R.Denot S.Denot h)
  the_codes_placed e d = sym (code_map (coded× (coded_list coded_ℕ) (coded× R.coded coded_ℕ)).code (coded× (coded_list coded_ℕ) (coded× S.coded coded_ℕ)).code (on_type h)
      (λ x i. gcons ((coded_list coded_ℕ).code x.0) (gcons (sym (e x.1.0) i) (coded_ℕ.code x.1.1))) d)
