-- SPDX-License-Identifier: Apache-2.0
-- SPDX-FileCopyrightText: Copyright the Vortex contributors

-- Children in two maps: one step of each key at its key, and the other steps in their own order.
use Rattle.std.specs.Prelude.{◌≡◌, ℕ, List, ◌++◌, false, Option, Some, None, option_and_then, if◌then◌else◌}
use Rattle.std.specs.BTreeMap.{is_at}
use Rattle.std.specs.List.Sorted.{IsStrictlySortedBy}
use Rattle.std.specs.Map.{keys_of, lookup, values_of}
use Rattle.std.specs.Ordering.{nat_cmp}
use Rattle.dtype_paths.specs.Equality.{same_field}
use Rattle.dtype_paths.specs.PathOrder.{field_cmp}
use Rattle.dtype_paths.specs.private.StepKeys.{step_key}
use Rattle.dtype_paths.specs.declared.field.Field.{Field}

-- the steps, each with the index of the node that it leads to
abbrev pub steps_in : List (ℕ × (Field × ℕ)) → List (Field × ℕ) → List (Field × ℕ)
steps_in by_key by_step = values_of by_key ++ by_step

-- the step at a key, and the node that it leads to
abbrev pub at_key : List (ℕ × (Field × ℕ)) → ℕ → Option (Field × ℕ)
at_key by_key k = lookup (is_at (nat_cmp k)) by_key

-- the node that f leads to, if the step at its key is f
abbrev pub led_by : Field → Option (Field × ℕ) → Option ℕ
led_by f o = option_and_then (λ v. if same_field f v.0 then Some v.1 else None) o

-- the step at the key of f is another one
abbrev pub IsTaken : List (ℕ × (Field × ℕ)) → Field → Type 0
IsTaken by_key f = (v : Field × ℕ) × (at_key by_key (step_key f) ≡ Some v) × (same_field f v.0 ≡ false)

-- the step at the key of f, if there is one, is f
abbrev pub IsFirst : List (ℕ × (Field × ℕ)) → Field → Type 0
IsFirst by_key f = (v : Field × ℕ) → at_key by_key (step_key f) ≡ Some v → f ≡ v.0

-- the invariant of the two maps
pub record IsChildTree (by_key : List (ℕ × (Field × ℕ))) (by_step : List (Field × ℕ)) : Type 0 where
  pub keys : IsStrictlySortedBy nat_cmp (keys_of by_key)
  pub steps : IsStrictlySortedBy field_cmp (keys_of by_step)
  -- each step is at its own key
  pub keyed : (k : ℕ) (v : Field × ℕ) → at_key by_key k ≡ Some v → step_key v.0 ≡ k
  -- the second map has only steps whose key another step has taken
  pub taken : (f : Field) (i : ℕ) → lookup (same_field f) by_step ≡ Some i → IsTaken by_key f
