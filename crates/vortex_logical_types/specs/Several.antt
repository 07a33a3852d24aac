-- SPDX-License-Identifier: Apache-2.0
-- SPDX-FileCopyrightText: Copyright the Vortex contributors

-- Several names, or several slots, that are passed to one call, and what exports make of them. `code` is the number
-- that the export returns. `old` and `new` are what a slot or a number contains before and after the call.
use Rattle.std.specs.Prelude.{◌≡◌, ◌≢◌, ◌⊎◌, ◌<◌, ◌≤◌, ℕ, List, [], ◌∷◌, if◌then◌else◌, nat_le, drop, length, map, option_map, slice_get, take, IsUtf8, Option, Some, None}
use Rattle.std.specs.FinSet as set
use Rattle.std.specs.List.{AllByRecursion}
use Rattle.c_objects.specs.declared.object.Object.{Object}
use Rattle.c_objects.specs.declared.slot.Slot.{Slot}
use Rattle.dtype_paths.specs.PathOrder.{PathSet, set_of}
use Rattle.dtype_paths.specs.declared.field.Field.{Field}
use Rattle.vortex_logical_types.specs.Slots.{path_in, set_in}
use Rattle.vortex_logical_types.specs.Vocabulary.{OfThe, Outcome}

-- no names, if no bytes are left
abbrev pub none_left : List ℕ → Option (List (List ℕ))
none_left [] = Some []
none_left (b ∷ bytes) = None

-- the names with these lengths whose bytes are directly one after the other, or None if the lengths don't add up to the
-- number of bytes
abbrev pub names_cut : List ℕ → List ℕ → Option (List (List ℕ))
names_cut bytes [] = none_left bytes
names_cut bytes (l ∷ lengths) = if nat_le l (length bytes) then option_map (λ ns. take l bytes ∷ ns) (names_cut (drop l bytes) lengths) else None

-- The number for the first fault of names: 9 if fewer bytes are left than the length of the next name says, 3 if the next name
-- isn't UTF-8, and 9 if bytes are left after the last name. `size l` is the number of bytes of a name whose length is given
-- as `l`. For example, of the bytes `abc` and the lengths 1 and 3 it is 9, because 2 bytes are left for the second name.
abbrev pub NamesFault : (ℕ → ℕ) → List ℕ → List ℕ → ℕ → Type 0
NamesFault size bytes [] code = (code ≡ 9) × (bytes ≢ [])
NamesFault size bytes (l ∷ lengths) code =
    ((code ≡ 9) × (length bytes < size l))
    ⊎ ((size l ≤ length bytes) × (((code ≡ 3) × (IsUtf8 (take (size l) bytes) → ⊥)) ⊎ (IsUtf8 (take (size l) bytes) × NamesFault size (drop (size l) bytes) lengths code)))

-- a name has as many bytes as its length says
abbrev pub whole : ℕ → ℕ
whole l = l

-- the lengths add up, and each name is UTF-8
abbrev pub AreTexts : List ℕ → List ℕ → Type 0
AreTexts bytes lengths = OfThe (names_cut bytes lengths) (λ ns. AllByRecursion IsUtf8 ns)

-- What is done with names, or the number for their first fault. For example, of the bytes `idcity` and the lengths 2 and 4 it is
-- what is done with `id` and `city`.
abbrev pub with_names : {X : Type 0} → List ℕ → List ℕ → (List (List ℕ) → Outcome X) → Outcome X
with_names bytes lengths f No Why Yes =
    No (NamesFault whole bytes lengths) ⊎ (AreTexts bytes lengths × OfThe (names_cut bytes lengths) (λ ns. f ns No Why Yes))

-- The pairs of the first and the second item, of the third and the fourth, and so on, or None if their number is odd. For example,
-- the names `id`, `sku`, `at` and `day` are the pairs of `id` and `sku` and of `at` and `day`.
abbrev pub paired : {X : Type 0} → List X → Option (List (X × X))
paired [] = Some []
paired (x ∷ []) = None
paired (x ∷ y ∷ xs) = option_map (λ ps. (x, y) ∷ ps) (paired xs)

-- the objects in several slots
abbrev pub objects_in : List Slot → List (Option Object)
objects_in slots = map (λ s. s.value) slots

-- an item before others, if both are there
abbrev pub in_front : {X : Type 0} → Option X → Option (List X) → Option (List X)
in_front None rest = None
in_front (Some x) rest = option_map (λ xs. x ∷ xs) rest

-- what `see` finds in each of several slots, or None if it finds nothing in one of them
abbrev pub each_in : {X : Type 0} → (Option Object → Option X) → List (Option Object) → Option (List X)
each_in see [] = Some []
each_in see (o ∷ os) = in_front (see o) (each_in see os)

-- a set gains the paths that slots contain; each slot has to contain one
abbrev pub GainsFirst : Option (List (List Field)) → PathSet → PathSet → Type 0
GainsFirst None old new = ⊥
GainsFirst (Some ps) old new = new ≡ set.union old (set_of ps)

-- the same for the set that a slot contains afterwards
abbrev pub SetGains : Option (List (List Field)) → PathSet → Option PathSet → Type 0
SetGains ps old None = ⊥
SetGains ps old (Some new) = GainsFirst ps old new

-- there is a slot, and it doesn't contain a path
abbrev pub IsNoPath : Option (Option Object) → Type 0
IsNoPath None = ⊥
IsNoPath (Some object) = path_in object ≡ None

-- why a call ends after `count` of the objects: 0 if these are all of them, 2 if the next slot contains no path, and
-- 100 if an allocation fails
abbrev pub EndsAt : List (Option Object) → ℕ → ℕ → Type 0
EndsAt objects code count =
    ((code ≡ 0) × (count ≡ length objects)) ⊎ ((count < length objects) × ((code ≡ 100) ⊎ ((code ≡ 2) × IsNoPath (slice_get objects count))))

-- the set in a slot gains the paths in other slots, in order, up to the first that can't be inserted; `now` is how many
-- it gains
abbrev pub GainsSlots : Option PathSet → List (Option Object) → ℕ → ℕ → ℕ → Option Object → Option Object → Type 0
GainsSlots None objects code count now old new = (code ≡ 2) × (now ≡ count) × (new ≡ old)
GainsSlots (Some s) objects code count now old new = SetGains (each_in path_in (take now objects)) s (set_in new) × EndsAt objects code now
