-- SPDX-License-Identifier: Apache-2.0
-- SPDX-FileCopyrightText: Copyright the Vortex contributors

-- A set of paths as a value: a finite set whose members are kept in a total order of paths. The order is needed only so
-- that equal sets are equal values. No call guarantees that it returns paths in this order.
use Rattle.std.specs.Prelude.{◌≡◌, ℕ, List, Option, Some, None, refl}
use Rattle.std.specs.Cmp.Lexicographic.{slice_cmp}
use Rattle.std.specs.Coded.{Coded, code_by, coded_list, coded_ℕ, coded_option}
use Rattle.std.specs.FinSet as set
use Rattle.std.specs.Option.{option_cmp}
use Rattle.std.specs.Ordering.{nat_cmp, on}
use Rattle.std.specs.declared.cmp.Ordering.{Ordering}
use Rattle.dtype_paths.specs.declared.field.Field.{Field}
use Rattle.dtype_paths.specs.declared.field.Field.TheVariants.{Name, ElementType}

-- the name of a step, or None for the step to the element
abbrev pub held_name : Field → Option (List ℕ)
held_name (Name n) = Some n
held_name ElementType = None

-- the step to a name, or the step to the element for None
abbrev pub named : Option (List ℕ) → Field
named (Some n) = Name n
named None = ElementType

-- making a step from the name of a step returns the same step
pub named-held_name : (f : Field) → named (held_name f) ≡ f
named-held_name (Name n) = refl
named-held_name ElementType = refl

-- the step to the element comes first, and then the steps to names, ordered by the bytes of the names
abbrev pub field_cmp : Field → Field → Ordering
field_cmp = on held_name (option_cmp (slice_cmp nat_cmp))

-- two paths are ordered by the first step in which they differ, and a prefix comes before the longer path
abbrev pub path_cmp : List Field → List Field → Ordering
path_cmp = slice_cmp field_cmp

-- a finite set of paths
abbrev pub PathSet : Type 0
PathSet = set.FinSet path_cmp

-- the set of these paths
abbrev pub set_of : List (List Field) → PathSet
set_of = set.from_list

-- a step as a value that can be compared
abbrev pub field_code : Coded Field
field_code = code_by (Option (List ℕ)) (coded_option (coded_list coded_ℕ)) held_name named named-held_name

-- a set as a value that can be compared
abbrev pub set_code : Coded PathSet
set_code = set.code (coded_list field_code)
