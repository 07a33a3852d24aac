-- SPDX-License-Identifier: Apache-2.0
-- SPDX-FileCopyrightText: Copyright the Vortex contributors

-- Reading several names one by one, and what several slots contain.
use Rattle.std.proofs.Common.{◌≡◌, ◌⊎◌, inl, inr, ◌+◌, ◌<◌, ◌≤◌, ◌++◌, ◌∷◌, ℕ, zero, suc, List, [], Option, Some, None, if◌then◌else◌, drop, get_or, length, option_map, set, take, refl, ap, sym, subst, ◌∙◌, arith}
use Rattle.std.proofs.lemmas.Bool.{le-leb}
use Rattle.std.specs.List.{AllByRecursion}
use Rattle.std.specs.Str.{IsUtf8}
use Rattle.std.proofs.lemmas.List.{append_assoc, drop_more, length-map}
use Rattle.c_objects.specs.declared.slot.Slot.{Slot}
use Rattle.vortex_logical_types.specs.Several.{NamesFault, names_cut, objects_in}

-- an item before what is left, behind what was read
pub behind : {X : Type 0} (all : List X) (x : X) (o : Option (List X)) → option_map (λ r. all ++ r) (option_map (λ r. x ∷ r) o) ≡ option_map (λ r. (all ++ x ∷ []) ++ r) o
behind all x None = refl
behind all x (Some r) = ap Some (sym (append_assoc all (x ∷ []) r))

-- a name that fits is cut
pub cut_more : (bytes ls : List ℕ) (l : ℕ) → l ≤ length bytes → names_cut bytes (l ∷ ls) ≡ option_map (λ ns. take l bytes ∷ ns) (names_cut (drop l bytes) ls)
cut_more bytes ls l h = ap (λ b. if b then option_map (λ ns. take l bytes ∷ ns) (names_cut (drop l bytes) ls) else None) (le-leb l (length bytes) h)

-- the next name
pub names_step : (all new : List (List ℕ)) (bytes others name lengths : List ℕ) (i : ℕ) → i < length lengths → get_or lengths i 0 ≤ length bytes
    → name ≡ take (get_or lengths i 0) bytes → others ≡ drop (get_or lengths i 0) bytes → new ≡ all ++ (name ∷ [])
    → option_map (λ r. all ++ r) (names_cut bytes (drop i lengths)) ≡ option_map (λ r. new ++ r) (names_cut others (drop (i + 1) lengths))
names_step all new bytes others name lengths i lt fits name_is others_is new_is =
    ap (λ ls. option_map (λ r. all ++ r) (names_cut bytes ls)) (drop_more lengths i 0 lt)
    ∙ ap (option_map (λ r. all ++ r)) (cut_more bytes (drop (i + 1) lengths) (get_or lengths i 0) fits)
    ∙ behind all (take (get_or lengths i 0) bytes) (names_cut (drop (get_or lengths i 0) bytes) (drop (i + 1) lengths))
    ∙ ap (λ n. option_map (λ r. (all ++ n ∷ []) ++ r) (names_cut (drop (get_or lengths i 0) bytes) (drop (i + 1) lengths))) (sym name_is)
    ∙ ap (λ n. option_map (λ r. n ++ r) (names_cut (drop (get_or lengths i 0) bytes) (drop (i + 1) lengths))) (sym new_is)
    ∙ ap (λ b. option_map (λ r. new ++ r) (names_cut b (drop (i + 1) lengths))) (sym others_is)

module _ (size : ℕ → ℕ) where
  -- the first fault of the names from one on, if that one is at fault, or if a later one is
  pub fault_here : (bytes lengths : List ℕ) (i : ℕ) → i < length lengths → (code : ℕ)
      → ((code ≡ 3) × (size (get_or lengths i 0) ≤ length bytes) × (IsUtf8 (take (size (get_or lengths i 0)) bytes) → ⊥)) ⊎ ((code ≡ 9) × (length bytes < size (get_or lengths i 0)))
      → NamesFault size bytes (drop i lengths) code
  fault_here bytes lengths i lt code (inl f) = subst (λ ls. NamesFault size bytes ls code) (sym (drop_more lengths i 0 lt)) (inr (f.1, inl (f.0, f.2)))
  fault_here bytes lengths i lt code (inr f) = subst (λ ls. NamesFault size bytes ls code) (sym (drop_more lengths i 0 lt)) (inl f)

  pub fault_later : (bytes others lengths : List ℕ) (i code : ℕ) → i < length lengths → size (get_or lengths i 0) ≤ length bytes → IsUtf8 (take (size (get_or lengths i 0)) bytes)
      → others ≡ drop (size (get_or lengths i 0)) bytes → NamesFault size others (drop (i + 1) lengths) code → NamesFault size bytes (drop i lengths) code
  fault_later bytes others lengths i code lt fits text is f =
      subst (λ ls. NamesFault size bytes ls code) (sym (drop_more lengths i 0 lt)) (inr (fits, inr (text, subst (λ b. NamesFault size b (drop (i + 1) lengths) code) is f)))

-- one more name that is UTF-8
pub texts_more : {X : Type 0} (P : X → Type 0) (ns : List X) (n : X) → AllByRecursion P ns → P n → AllByRecursion P (ns ++ n ∷ [])
texts_more P [] n all text = (text, tt)
texts_more P (m ∷ ns) n all text = (all.0, texts_more P ns n all.1 text)

-- the objects in slots, where one of them was taken and put back
pub kept_at : (slots : List Slot) (i : ℕ) (d new : Slot) → i < length slots → new.value ≡ (get_or slots i d).value → objects_in (set slots i new) ≡ objects_in slots
kept_at [] i d new lt e = absurd (omega arith)
kept_at (s ∷ ss) zero d new lt e = ap (λ o. o ∷ objects_in ss) e
kept_at (s ∷ ss) (suc i) d new lt e = ap (λ os. s.value ∷ os) (kept_at ss i d new (omega arith) e)

-- the object in a slot
pub object_in : (slots : List Slot) (i : ℕ) (d : Slot) → i < length slots → get_or (objects_in slots) i None ≡ (get_or slots i d).value
object_in [] i d lt = absurd (omega arith)
object_in (s ∷ ss) zero d lt = refl
object_in (s ∷ ss) (suc i) d lt = object_in ss i d (omega arith)

pub below_objects : (slots : List Slot) (i : ℕ) → i < length slots → i < length (objects_in slots)
below_objects slots i lt = omega (arith, lt, length-map slots (λ (s : Slot). s.value))
