-- SPDX-License-Identifier: Apache-2.0
-- SPDX-FileCopyrightText: Copyright the Vortex contributors

-- What is contained below the fields of a struct, by their positions, and what is kept of such a field.
use Rattle.std.specs.Prelude.{◌≡◌, ℕ, zero, suc, ◌+◌, ◌≤◌, ◌==◌, IsTrue, List, [], ◌∷◌, ◌++◌, length, map, slice_get, Option, option_and_then}
use Rattle.std.specs.List.{filter_map}
use Rattle.std.specs.Map.{lookup}
use Rattle.std.specs.Option.{option_map}
use Rattle.dtype_base.specs.FieldNames.{first_place}
use Rattle.dtype_types.specs.tree.Tree.{Tree}
use Rattle.dtype_paths.specs.Cursors.{contains_below, contains_below_if}
use Rattle.dtype_paths.specs.PathPredicates.{no_path, AreNames}
use Rattle.dtype_paths.specs.declared.field.Field.TheVariants.{Name}
use Rattle.dtype_paths.specs.declared.field_path_cursor.FieldPathCursor.{FieldPathCursor}
use Rattle.dtype_projection.specs.Projected.{PathPredicate, after_step, without_field, projected}

-- positions of fields, each with a cursor
abbrev pub Entries : Type 0
Entries = List (ℕ × FieldPathCursor)

-- what the cursor at a position contains, and nothing where there is none
abbrev pub contained_at : Entries → ℕ → PathPredicate
contained_at es k = contains_below_if (lookup (λ j. k == j) es)

-- the positions rise, from i on, and are below n
abbrev pub Rise : ℕ → ℕ → Entries → Type 0
Rise i n [] = i ≤ n
Rise i n (e ∷ es) = (i ≤ e.0) × Rise (e.0 + 1) n es

-- what the paths w contain below the field at the position k of these names: after a step into it, where it is the first
-- of its name
abbrev pub contained_below : PathPredicate → List (List ℕ) → ℕ → PathPredicate
contained_below w [] k = no_path
contained_below w (n ∷ ns) zero = after_step (Name n) w
contained_below w (n ∷ ns) (suc k) = contained_below (without_field n w) ns k

-- es are the fields that the paths w step into, in their order, with what is contained below each
pub record AreEntered (w : PathPredicate) (ns : List (List ℕ)) (es : Entries) : Type 0 where
  pub order : Rise 0 (length ns) es
  pub contained : (k : ℕ) → contained_at es k ≡ contained_below w ns k

-- an entry, by what its cursor contains
abbrev pub shown : ℕ × FieldPathCursor → ℕ × PathPredicate
shown e = (e.0, contains_below e.1)

-- the first position of each of these names that is among ns, with what is contained below the name
abbrev pub placed : List (List ℕ) → List (List ℕ × PathPredicate) → List (ℕ × PathPredicate)
placed ns names = filter_map (λ e. option_map (λ i. (i, e.1)) (first_place ns e.0)) names

-- es are what the names are looked up to by which the paths w go on, but for those that are left
pub record AreLookedUp (w : PathPredicate) (ns : List (List ℕ)) (left : List (List ℕ × PathPredicate)) (es : Entries) : Type 0 where
  pub names : List (List ℕ × PathPredicate)
  pub by_name : AreNames w names
  pub found : map shown es ++ placed ns left ≡ placed ns names

-- the positions are those from i to n, and each cursor is at an end
abbrev pub AreWhole : ℕ → ℕ → Entries → Type 0
AreWhole i n [] = i ≡ n
AreWhole i n (e ∷ es) = (e.0 ≡ i) × IsTrue (contains_below e.1 []) × AreWhole (i + 1) n es

-- the field at the position k, projected to the paths w, if something is kept of it
abbrev pub kept_field : List (List ℕ × Tree) → ℕ → PathPredicate → Option (List ℕ × Tree)
kept_field fs k w = option_and_then (λ f. option_map (λ u. (f.0, u)) (projected f.1 w)) (slice_get fs k)
