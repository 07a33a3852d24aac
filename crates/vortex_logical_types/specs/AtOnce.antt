-- SPDX-License-Identifier: Apache-2.0
-- SPDX-FileCopyrightText: Copyright the Vortex contributors

-- Where several results of one call go: into two buffers, or into several slots. `code` is the number that the export returns.
-- `old` and `new` are what the buffers or the slots, and the numbers beside them, contain before and after the call.
use Rattle.std.specs.Prelude.{◌≡◌, ◌⊎◌, ◌++◌, ◌<◌, ℕ, List, drop, length, map, take, Option, Some}
use Rattle.std.specs.List.{flat_map}
use Rattle.std.specs.declared.alloc.Global.{Global}
use Rattle.std.specs.declared.boxed.Box.{Box}
use Rattle.c_objects.specs.declared.object.Object.{Object}
use Rattle.dtype_types.specs.tree.Tree.{Tree}
use Rattle.vortex_logical_types.specs.Slots.{type_in}
use Rattle.vortex_logical_types.specs.Vocabulary.{Outcome, gives, unless_memory}

-- Names as one list of bytes, and the length of each name. For example, of `id` and `city` they are `idcity` and the lengths 2
-- and 4.
abbrev pub joined : List (List ℕ) → List ℕ × List ℕ
joined ns = (flat_map (λ n. n) ns, map length ns)

-- what two buffers and the numbers beside them contain
abbrev pub Buffers : Type 0 → Type 0 → Type 0
Buffers X Y = (List X × ℕ) × (List Y × ℕ)

-- the numbers of items are written
abbrev pub HasSizes : {X Y : Type 0} → List X × List Y → Buffers X Y → Type 0
HasSizes r new = (new.0.1 ≡ length r.0) × (new.1.1 ≡ length r.1)

-- one of the two buffers is too short
abbrev pub AreShort : {X Y : Type 0} → List X × List Y → Buffers X Y → Type 0
AreShort r old = (length old.0.0 < length r.0) ⊎ (length old.1.0 < length r.1)

-- Two lists are written to the fronts of two buffers, and their lengths beside them. If a buffer is too short, only the lengths
-- are written, and 7 is returned.
abbrev pub FillsWithBoth : {X Y : Type 0} → List X × List Y → ℕ → Buffers X Y → Buffers X Y → Type 0
FillsWithBoth r code old new =
    ((code ≡ 0) × (HasSizes r new × ((new.0.0 ≡ r.0 ++ drop (length r.0) old.0.0) × (new.1.0 ≡ r.1 ++ drop (length r.1) old.1.0))))
    ⊎ ((code ≡ 7) × (AreShort r old × (HasSizes r new × ((new.0.0 ≡ old.0.0) × (new.1.0 ≡ old.1.0)))))

-- Two lists are copied to the fronts of two buffers. If a buffer is too short, nothing is copied, and 7 is returned.
abbrev pub CopiesBoth : {X Y : Type 0} → List X × List Y → ℕ → List X × List Y → List X × List Y → Type 0
CopiesBoth r code old new =
    ((code ≡ 0) × ((new.0 ≡ r.0 ++ drop (length r.0) old.0) × (new.1 ≡ r.1 ++ drop (length r.1) old.1)))
    ⊎ ((code ≡ 7) × (((length old.0 < length r.0) ⊎ (length old.1 < length r.1)) × ((new.0 ≡ old.0) × (new.1 ≡ old.1))))

-- nothing is written to either buffer
abbrev pub SameBuffers : {X Y : Type 0} → Buffers X Y → Buffers X Y → Type 0
SameBuffers old new = ((new.0.0 ≡ old.0.0) × (new.0.1 ≡ old.0.1)) × ((new.1.0 ≡ old.1.0) × (new.1.1 ≡ old.1.1))

-- The result is two lists, which are written. For example, `FillsBoth (on (type_in ..) (λ t. within (struct_fields t) (λ fs.
-- unless_memory (gives (joined (field_names fs)))))) result ((buffer.old, length.old), (name_lengths.old, count.old))
-- ((buffer.new, length.new), (name_lengths.new, count.new))` of a call that writes the names of a struct.
abbrev pub FillsBoth : {X Y : Type 0} → Outcome (List X × List Y) → ℕ → Buffers X Y → Buffers X Y → Type 0
FillsBoth {X} {Y} o code old new = o (λ P. P code × SameBuffers old new) (λ P. ⊥) (λ P. (r : List X × List Y) × P r × FillsWithBoth r code old new)

-- the objects in several slots, and the number beside them
abbrev pub Counted : Type 0
Counted = List (Option Object) × ℕ

-- Objects are stored in the first of several slots, where `see` finds these values, and their number beside the slots. The other
-- slots keep their objects. If there are fewer slots than values, only the number is written, and 7 is returned.
abbrev pub PutsEach : {X : Type 0} → (Option Object → Option X) → List X → ℕ → Counted → Counted → Type 0
PutsEach see xs code old new =
    ((code ≡ 0) × ((map see (take (length xs) new.0) ≡ map Some xs) × ((drop (length xs) new.0 ≡ drop (length xs) old.0) × (new.1 ≡ length xs))))
    ⊎ ((code ≡ 7) × ((length old.0 < length xs) × ((new.0 ≡ old.0) × (new.1 ≡ length xs))))

-- The result is a list, whose items are stored in slots. For example, `PutsAll type_in (on (type_in ..) (λ t. within (struct_fields
-- t) (λ fs. unless_memory (gives (field_types fs))))) result (objects_in types.old, count.old) (objects_in types.new, count.new)`
-- of a call that stores the types of the fields of a struct.
abbrev pub PutsAll : {X : Type 0} → (Option Object → Option X) → Outcome (List X) → ℕ → Counted → Counted → Type 0
PutsAll {X} see o code old new =
    o (λ P. P code × ((new.0 ≡ old.0) × (new.1 ≡ old.1))) (λ P. ⊥) (λ P. (xs : List X) × P xs × PutsEach see xs code old new)

-- Copies of these types are stored in slots, or an allocation fails. For example, of the types of the fields of a struct.
abbrev pub PutsTypes : List Tree → ℕ → Counted → Counted → Type 0
PutsTypes ts = PutsAll type_in (unless_memory (gives ts))

-- the object in a box, as it is in a slot, and the type that it is
abbrev pub boxed : Box Object Global → Option Object
boxed b = Some b.value

-- Objects are moved from their boxes to the first of several slots. If there are fewer slots, nothing is moved, and 7 is returned.
abbrev pub Moves : List (Box Object Global) → ℕ → List (Option Object) → List (Option Object) → Type 0
Moves bs code old new =
    ((code ≡ 0) × (new ≡ map boxed bs ++ drop (length bs) old)) ⊎ ((code ≡ 7) × ((length old < length bs) × (new ≡ old)))

abbrev pub boxed_type : Box Object Global → Option Tree
boxed_type b = type_in (boxed b)
