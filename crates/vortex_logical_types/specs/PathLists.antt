-- SPDX-License-Identifier: Apache-2.0
-- SPDX-FileCopyrightText: Copyright the Vortex contributors

-- How a path is taken out of a list of paths. `code` is the number that the call returns. `old` and `new` are what the list
-- contains before and after the call, and `was` and `is` are what the slot contains in which the path is stored.
use Rattle.std.specs.Prelude.{◌≡◌, ◌⊎◌, ⊤, ℕ, List, [], Option, Some, None, set}
use Rattle.std.specs.declared.alloc.Global.{Global}
use Rattle.std.specs.declared.vec.Vec.{Vec}
use Rattle.c_objects.specs.declared.object.Object.{Object}
use Rattle.dtype_paths.specs.declared.field.Field.{Field}
use Rattle.vortex_logical_types.specs.Slots.{path_in}

-- The path at a position, if there is one, is stored in the slot, and the list has the root in its place. Nothing changes if
-- there is none, or if an allocation fails.
abbrev pub TakesAt : Option (List Field) → ℕ → ℕ → Vec (List Field) Global → Vec (List Field) Global → Option Object → Option Object → Type 0
TakesAt None index code old new was is = (code ≡ 1) × (new ≡ old) × (is ≡ was)
TakesAt (Some p) index code old new was is =
    ((code ≡ 0) × (new.items ≡ set old.items index []) × (path_in is ≡ Some p)) ⊎ ((code ≡ 100) × (new ≡ old) × (is ≡ was))

-- the path in a slot, which has to be there, becomes another, and the other becomes this one
abbrev pub Exchanges : Option (List Field) → List Field → List Field → Option (List Field) → Type 0
Exchanges None old new is = ⊤
Exchanges (Some p) old new is = (new ≡ p) × (is ≡ Some old)
