-- SPDX-License-Identifier: Apache-2.0
-- SPDX-FileCopyrightText: Copyright the Vortex contributors

-- What the export does that reports why two types have no common type. `code` is the number that the export returns. `old`
-- and `new` are what three slots contain before and after the call.
use Rattle.std.specs.Prelude.{◌≡◌, ◌⊎◌, ℕ, List, Option, Some, None, IsSome}
use Rattle.c_objects.specs.declared.object.Object.{Object}
use Rattle.dtype_merging.specs.Conflicts.{ConflictsAt, first_conflict}
use Rattle.dtype_merging.specs.MergedColumns.{columns_merged}
use Rattle.dtype_merging.specs.declared.widening.Widening.TheVariants as widening
use Rattle.dtype_paths.specs.declared.field.Field.{Field}
use Rattle.dtype_types.specs.tree.Tree.{Tree}
use Rattle.vortex_logical_types.specs.Slots.{path_in, type_in}
use Rattle.vortex_logical_types.specs.Vocabulary.{OfThe, Outcome, gives_some, refuses}

-- a path, and the types to which it leads in two types
abbrev pub Place : Type 0
Place = List Field × Tree × Tree

-- The first place at which the two types can't be merged; 1 if they can be. No number is read as a wider one. For example, the place of `{id=u64}` and
-- `{id=utf8}` is the path `id`, `u64` and `utf8`.
abbrev pub finds_conflict : Tree → Tree → Outcome Place
finds_conflict t u No Why Yes =
    gives_some (λ c. (first_conflict widening.None t u ≡ Some c.0) × ConflictsAt widening.None t u c.0 c.1 c.2) No Why Yes ⊎ (IsSome (columns_merged widening.None t u) × refuses 1 No Why Yes)

-- what three slots contain
abbrev pub Three : Type 0
Three = Option Object × Option Object × Option Object

-- The result is a place, whose path is stored in the first of three slots, and whose types are stored in the others.
abbrev pub PutsPlace : Outcome Place → ℕ → Three → Three → Type 0
PutsPlace o code old new =
    o (λ P. P code × ((new.0 ≡ old.0) × (new.1 ≡ old.1) × (new.2 ≡ old.2))) (λ P. ⊥)
    (λ P. (code ≡ 0) × OfThe (path_in new.0) (λ p. OfThe (type_in new.1) (λ x. OfThe (type_in new.2) (λ y. P (p, x, y)))))
