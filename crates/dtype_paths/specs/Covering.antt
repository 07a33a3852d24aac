-- SPDX-License-Identifier: Apache-2.0
-- SPDX-FileCopyrightText: Copyright the Vortex contributors

-- Which paths a set of paths covers, and the fewest of its paths that cover the same. A path covers every path of which
-- it is a prefix. So if one path of a set is a prefix of another, a reader of the first needn't read the second. From
-- `FieldPathSet::into_iter` of vortex-array, which drops each path of which another path of the set is a prefix.
-- The law `what_covers_and_least_say` states both tests as relations.
use Rattle.std.specs.Prelude.{◌≡◌, ◌↔◌, ◌⊎◌, ℕ, Bool, IsTrue, List, [], length, not, ◌&&◌}
use Rattle.std.specs.FinSet as set
use Rattle.std.specs.List.{Contains, list_any, starts_with}
use Rattle.dtype_base.specs.Distinct.{Distinct}
use Rattle.dtype_paths.specs.Beginning.{Beginning}
use Rattle.dtype_paths.specs.Equality.{same_field, same_path}
use Rattle.dtype_paths.specs.PathOrder.{PathSet}
use Rattle.dtype_paths.specs.declared.field.Field.{Field}

-- some path of the set is a prefix of `q`
unfoldable pub covers : PathSet → List Field → Bool
covers s q = list_any (λ p. starts_with same_field q p) (set.items s)

-- `q` is a prefix of `p`, and isn't `p`
abbrev pub begins_below : List Field → List Field → Bool
begins_below q p = starts_with same_field p q && not (same_path q p)

-- the least paths of the set, which are those of which no other path of the set is a prefix
unfoldable pub least : PathSet → PathSet
least s = set.retain s (λ p. not (list_any (λ q. begins_below q p) (set.items s)))

-- the two sets cover the same paths
abbrev pub SameCoverage : PathSet → PathSet → Type 0
SameCoverage s t = (q : List Field) → covers s q ≡ covers t q

-- `q` is the root, or a prefix of one of the least paths of the set
abbrev pub IsBegun : PathSet → List Field → Type 0
IsBegun s q = (q ≡ []) ⊎ ((p : List Field) × IsTrue (set.contains (least s) p) × Beginning q p)

-- there are exactly `n` paths with the property `P`
pub record IsCountOf (P : List Field → Type 0) (n : ℕ) : Type 0 where
  pub paths : List (List Field)
  pub distinct : Distinct paths
  pub exact : (p : List Field) → Contains paths p ↔ P p
  pub count : length paths ≡ n
