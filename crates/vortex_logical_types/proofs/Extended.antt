-- SPDX-License-Identifier: Apache-2.0
-- SPDX-FileCopyrightText: Copyright the Vortex contributors

-- A set that gains paths one by one: those of a list, and those that slots have.
use Rattle.std.proofs.Common.{◌≡◌, ◌≢◌, ◌⊎◌, ◌+◌, ◌<◌, ◌++◌, ◌∷◌, ℕ, zero, suc, List, [], Option, Some, None, get_or, length, slice_get, take, inl, inr, refl, ap, sym, subst, ◌∙◌, arith}
use Rattle.std.proofs.lemmas.List.{take_more}
use Rattle.std.specs.FinSet as set
use Rattle.c_objects.specs.declared.object.Object.{Object}
use Rattle.c_objects.specs.declared.slot.Slot.{Slot}
use Rattle.dtype_paths.proofs.lemmas.SetMembers.{of_push, union_insert}
use Rattle.dtype_paths.specs.PathOrder.{PathSet, set_of}
use Rattle.dtype_paths.specs.declared.field.Field.{Field}
use Rattle.vortex_logical_types.proofs.Several.{below_objects, object_in}
use Rattle.vortex_logical_types.specs.Paths.{Gains, GainsPath}
use Rattle.vortex_logical_types.specs.Slots.{path_in}
use Rattle.vortex_logical_types.specs.Several.{EndsAt, GainsFirst, IsNoPath, each_in, objects_in}

-- one path more
more : (s : PathSet) (ps : List (List Field)) (p : List Field) → set.insert (set.union s (set_of ps)) p ≡ set.union s (set_of (ps ++ p ∷ []))
more s ps p = sym (ap (set.union s) (of_push ps p) ∙ union_insert s (set_of ps) p)

-- a call that returned 0 inserted the path
gained : (code : ℕ) (old into new : PathSet) → Gains code old into new → code ≡ 0 → new ≡ into
gained code old into new (inl g) done = g.1
gained code old into new (inr g) done = absurd (omega (arith, g.0, done))

-- the next path of a list
pub list_step : (s t new : PathSet) (list : List (List Field)) (i code : ℕ) (p : List Field) → i < length list → p ≡ get_or list i p → t ≡ set.union s (set_of (take i list))
    → Gains code t (set.insert t p) new → code ≡ 0 → new ≡ set.union s (set_of (take (i + 1) list))
list_step s t new list i code p lt is so_far gains done =
    gained code t (set.insert t p) new gains done
    ∙ ap (λ u. set.insert u p) so_far
    ∙ more s (take i list) p
    ∙ ap (λ ps. set.union s (set_of ps)) (ap (λ x. take i list ++ x ∷ []) is ∙ sym (take_more list i p lt))

-- an object more that has a path
each_push : (os : List (Option Object)) (o : Option Object) (ps : List (List Field)) (p : List Field) → each_in path_in os ≡ Some ps → path_in o ≡ Some p → each_in path_in (os ++ o ∷ []) ≡ Some (ps ++ p ∷ [])
each_push [] o ps p e f = grind (arith, e, f)
each_push (x ∷ os) o ps p e f = grind (arith, each_push os o, e, f)

-- what slots have, up to the one after these
objects_more : (slots : List Slot) (i : ℕ) (d : Slot) → i < length slots → take (i + 1) (objects_in slots) ≡ take i (objects_in slots) ++ (get_or slots i d).value ∷ []
objects_more slots i d lt = take_more (objects_in slots) i None (below_objects slots i lt) ∙ ap (λ o. take i (objects_in slots) ++ o ∷ []) (object_in slots i d lt)

object_at : (slots : List Slot) (i : ℕ) (d : Slot) → i < length slots → slice_get (objects_in slots) i ≡ Some (get_or slots i d).value
object_at [] i d lt = absurd (omega arith)
object_at (s ∷ ss) zero d lt = refl
object_at (s ∷ ss) (suc i) d lt = object_at ss i d (omega arith)

module _ (old now new : PathSet) (os : List (Option Object)) (o : Option Object) (p : List Field) where
  first_push : (r : Option (List (List Field))) → each_in path_in os ≡ r → GainsFirst r old now → path_in o ≡ Some p → new ≡ set.insert now p → GainsFirst (each_in path_in (os ++ o ∷ [])) old new
  first_push None e gains is into = absurd gains
  first_push (Some ps) e gains is into = subst (λ r. GainsFirst r old new) (sym (each_push os o ps p e is)) (into ∙ ap (λ s. set.insert s p) gains ∙ more old ps p)

module _ (old now new : PathSet) (slots : List Slot) (start : List (Option Object)) (i code : ℕ) (d : Slot) (lt : i < length slots) (same : objects_in slots ≡ start) where
  by_path : (r : Option (List Field)) → path_in (get_or slots i d).value ≡ r → GainsPath r code now new → code ≡ 0 → GainsFirst (each_in path_in (take i (objects_in slots))) old now
      → GainsFirst (each_in path_in (take i (objects_in slots) ++ (get_or slots i d).value ∷ [])) old new
  by_path None e gains done so_far = absurd (omega (arith, gains.0, done))
  by_path (Some p) e gains done so_far = first_push old now new (take i (objects_in slots)) (get_or slots i d).value p (each_in path_in (take i (objects_in slots))) refl so_far e (gained code now (set.insert now p) new gains done)

  -- the next slot
  pub slots_gain : GainsPath (path_in (get_or slots i d).value) code now new → code ≡ 0 → GainsFirst (each_in path_in (take i start)) old now → GainsFirst (each_in path_in (take (i + 1) start)) old new
  slots_gain gains done so_far =
      subst (λ os. GainsFirst (each_in path_in (take (i + 1) os)) old new) same
      (subst (λ os. GainsFirst (each_in path_in os) old new) (sym (objects_more slots i d lt))
      (by_path (path_in (get_or slots i d).value) refl gains done (subst (λ os. GainsFirst (each_in path_in (take i os)) old now) (sym same) so_far)))

  why : (r : Option (List Field)) → path_in (get_or slots i d).value ≡ r → GainsPath r code now new → code ≢ 0 → (code ≡ 100) ⊎ ((code ≡ 2) × (path_in (get_or slots i d).value ≡ None))
  why None e gains not = inr (gains.0, e)
  why (Some p) e (inl gains) not = absurd (not gains.0)
  why (Some p) e (inr gains) not = inl gains.0

  at_slot : (code ≡ 100) ⊎ ((code ≡ 2) × (path_in (get_or slots i d).value ≡ None)) → (code ≡ 100) ⊎ ((code ≡ 2) × IsNoPath (slice_get start i))
  at_slot (inl e) = inl e
  at_slot (inr e) = inr (e.0, subst (λ os. IsNoPath (slice_get os i)) same (subst (λ r. IsNoPath r) (sym (object_at slots i d lt)) e.1))

  -- why a call ends at a slot
  pub slots_end : (count : ℕ) → count ≡ i → GainsPath (path_in (get_or slots i d).value) code now new → code ≢ 0 → EndsAt start code count
  slots_end count at gains not =
      subst (λ k. EndsAt start code k) (sym at)
      (inr (subst (λ os. i < length os) same (below_objects slots i lt), at_slot (why (path_in (get_or slots i d).value) refl gains not)))
