-- SPDX-License-Identifier: Apache-2.0
-- SPDX-FileCopyrightText: Copyright the Vortex contributors

-- Objects that are stored in slots, one by one.
use Rattle.std.proofs.Common.{◌≡◌, ◌⊎◌, inl, inr, ◌+◌, ◌<◌, ◌++◌, ◌∷◌, ◌∙◌, ℕ, zero, suc, List, [], Option, Some, drop, length, map, set, take, refl, ap, sym, arith}
use Rattle.std.proofs.Math.Seq.{drop-append_seam, take-append_seam}
use Rattle.std.proofs.lemmas.List.{append-nil, append_assoc, length-map, length-take, take-append-drop}
use Rattle.std.proofs.lemmas.Simd.{map-map}
use Rattle.std.specs.declared.alloc.Global.{Global}
use Rattle.std.specs.declared.boxed.Box.{Box}
use Rattle.c_objects.specs.declared.object.Object.{Object}
use Rattle.c_objects.specs.declared.slot.Slot.{Slot}
use Rattle.dtype_types.specs.tree.Tree.{Tree}
use Rattle.vortex_logical_types.specs.AtOnce.{Moves, PutsEach, boxed, boxed_type}
use Rattle.vortex_logical_types.specs.Several.{objects_in}
use Rattle.vortex_logical_types.specs.Slots.{type_in}

next_is : (i : ℕ) → i + 1 ≡ suc i
next_is i = omega arith

-- the objects up to a slot in which one is stored, and those behind it
take_put : (slots : List Slot) (i : ℕ) (new : Slot) → i < length slots → take (suc i) (objects_in (set slots i new)) ≡ take i (objects_in slots) ++ (new.value ∷ [])
take_put [] i new lt = absurd (omega arith)
take_put (s ∷ ss) zero new lt = refl
take_put (s ∷ ss) (suc i) new lt = ap (λ os. s.value ∷ os) (take_put ss i new (omega arith))

drop_put : (slots : List Slot) (i : ℕ) (new : Slot) → drop (suc i) (objects_in (set slots i new)) ≡ drop (suc i) (objects_in slots)
drop_put [] i new = refl
drop_put (s ∷ ss) zero new = refl
drop_put (s ∷ ss) (suc i) new = drop_put ss i new

drop_one : {X : Type 0} (xs : List X) (i : ℕ) → drop (suc i) xs ≡ drop 1 (drop i xs)
drop_one [] zero = refl
drop_one [] (suc i) = refl
drop_one (x ∷ xs) zero = refl
drop_one (x ∷ xs) (suc i) = drop_one xs i

-- a list of no items
pub empty_of : {X : Type 0} (xs : List X) → length xs ≡ 0 → xs ≡ []
empty_of [] e = refl
empty_of (x ∷ xs) e = absurd (omega (arith, e))

-- one object more
pub put_step : (slots : List Slot) (i : ℕ) (new : Slot) (b : Box Object Global) (left after all : List (Box Object Global)) → i < length slots → new.value ≡ Some b.value → left ≡ b ∷ after
    → take i (objects_in slots) ++ map boxed left ≡ map boxed all → take (i + 1) (objects_in (set slots i new)) ++ map boxed after ≡ map boxed all
put_step slots i new b left after all lt stored next before =
    ap (λ n. take n (objects_in (set slots i new)) ++ map boxed after) (next_is i)
    ∙ ap (λ os. os ++ map boxed after) (take_put slots i new lt)
    ∙ ap (λ o. (take i (objects_in slots) ++ o ∷ []) ++ map boxed after) stored
    ∙ append_assoc (take i (objects_in slots)) (boxed b ∷ []) (map boxed after)
    ∙ ap (λ bs. take i (objects_in slots) ++ map boxed bs) (sym next)
    ∙ before

pub put_rest : (slots start : List Slot) (i : ℕ) (new : Slot) → drop i (objects_in slots) ≡ drop i (objects_in start) → drop (i + 1) (objects_in (set slots i new)) ≡ drop (i + 1) (objects_in start)
put_rest slots start i new before =
    ap (λ n. drop n (objects_in (set slots i new))) (next_is i)
    ∙ drop_put slots i new
    ∙ drop_one (objects_in slots) i
    ∙ ap (drop 1) before
    ∙ sym (drop_one (objects_in start) i)
    ∙ ap (λ n. drop n (objects_in start)) (sym (next_is i))

-- no object is left before a slot
pub put_end : (slots start : List Slot) (i : ℕ) (left all : List (Box Object Global)) → i < length slots → left ≡ [] → take i (objects_in slots) ++ map boxed left ≡ map boxed all
    → drop i (objects_in slots) ≡ drop i (objects_in start) → objects_in slots ≡ map boxed all ++ drop (length all) (objects_in start)
put_end slots start i left all lt empty put rest =
    let done : take i (objects_in slots) ≡ map boxed all = sym (append-nil (take i (objects_in slots))) ∙ ap (λ bs. take i (objects_in slots) ++ map boxed bs) (sym empty) ∙ put in
    let size : i ≡ length all = omega (arith, lt, ap length done, length-take i (objects_in slots), length-map slots (λ (s : Slot). s.value), length-map all boxed) in
    sym (take-append-drop i (objects_in slots))
    ∙ ap (λ os. os ++ drop i (objects_in slots)) done
    ∙ ap (λ os. map boxed all ++ os) rest
    ∙ ap (λ n. map boxed all ++ drop n (objects_in start)) size

-- the types are in the first slots, and the others have what they had
pub types_put : (ts : List Tree) (bs : List (Box Object Global)) (code was count : ℕ) (slots after : List Slot) → map boxed_type bs ≡ map Some ts → count ≡ length bs
    → Moves bs code (objects_in slots) (objects_in after)
    → PutsEach type_in ts code (objects_in slots, was) (objects_in after, count)
types_put ts bs code was count slots after held counted ended =
    done (sym (length-map bs boxed_type) ∙ ap length held ∙ length-map ts Some) ended
  where
    done : length bs ≡ length ts
        → Moves bs code (objects_in slots) (objects_in after)
        → PutsEach type_in ts code (objects_in slots, was) (objects_in after, count)
    done size (inl put) =
        let front : take (length bs) (objects_in after) ≡ map boxed bs =
        ap (take (length bs)) put.1
        ∙ ap (λ n. take n (map boxed bs ++ drop (length bs) (objects_in slots))) (sym (length-map bs boxed))
        ∙ take-append_seam (map boxed bs) (drop (length bs) (objects_in slots)) in
        let rest : drop (length bs) (objects_in after) ≡ drop (length bs) (objects_in slots) =
        ap (drop (length bs)) put.1
        ∙ ap (λ n. drop n (map boxed bs ++ drop (length bs) (objects_in slots))) (sym (length-map bs boxed))
        ∙ drop-append_seam (map boxed bs) (drop (length bs) (objects_in slots)) in
        inl (
          put.0,
          (
            ap (λ n. map type_in (take n (objects_in after))) (sym size) ∙ ap (map type_in) front ∙ map-map type_in boxed bs ∙ held,
            (ap (λ n. drop n (objects_in after)) (sym size) ∙ rest ∙ ap (λ n. drop n (objects_in slots)) size, counted ∙ size),
          ),
        )
    done size (inr short) =
        inr (short.0, (omega (arith, size, short.1.0), (short.1.1, counted ∙ size)))
