-- SPDX-License-Identifier: Apache-2.0
-- SPDX-FileCopyrightText: Copyright the Vortex contributors

-- A set of paths as a test which paths it contains. After a step, the paths that remain are described by a test again.
-- A test has no order and no repeats, so proofs needn't treat either. The test of a `FieldPathSet` is its `contains`.
use Rattle.std.specs.Prelude.{◌≡◌, ◌≢◌, ◌↔◌, ℕ, List, [], ◌∷◌, map, ◌||◌, Bool, IsTrue, false}
use Rattle.std.specs.List.{Contains}
use Rattle.dtype_base.specs.Distinct.{Distinct}
use Rattle.dtype_paths.specs.declared.field.Field.{Field}
use Rattle.dtype_paths.specs.declared.field.Field.TheVariants.{Name}

-- a test which paths are contained
abbrev pub PathPredicate : Type 0
PathPredicate = List Field → Bool

-- the test that no path passes
abbrev pub no_path : PathPredicate
no_path p = false

-- the paths that remain after the step `f`: those paths `p` for which the path of `f` and then `p` is contained
abbrev pub after_step : Field → PathPredicate → PathPredicate
after_step f w p = w (f ∷ p)

-- the paths that remain after these steps
abbrev pub after_steps : List Field → PathPredicate → PathPredicate
after_steps [] w = w
after_steps (f ∷ p) w = after_steps p (after_step f w)

-- some contained path is a prefix of the path
abbrev pub contains_above : PathPredicate → List Field → Bool
contains_above w [] = w []
contains_above w (f ∷ p) = w [] || contains_above (after_step f w) p

-- `ns` are the names with which contained paths begin, each once, together with the paths that remain after the step to
-- the name, of which there is at least one
pub record AreNames (w : PathPredicate) (ns : List (List ℕ × PathPredicate)) : Type 0 where
  pub once : Distinct (map (λ e. e.0) ns)
  pub exact : (n : List ℕ) → Contains (map (λ e. e.0) ns) n ↔ (after_step (Name n) w ≢ no_path)
  pub each : (e : List ℕ × PathPredicate) → Contains ns e → e.1 ≡ after_step (Name e.0) w
  pub some : (e : List ℕ × PathPredicate) → Contains ns e → (q : List Field) × IsTrue (e.1 q)
