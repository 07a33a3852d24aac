-- SPDX-License-Identifier: Apache-2.0
-- SPDX-FileCopyrightText: Copyright the Vortex contributors

-- What setting a type's outer nullability keeps: its kind and its parts. A plugin or a vtable that looks at
-- these alone has from here that the storage's outer nullability makes no difference.
use Rattle.std.specs.Prelude.{◌≡◌, ℕ, List, Option, Some, None, Bool}
use Rattle.std.proofs.Common.{ap, arith}
use Rattle.dtype_base.specs.Decimals.{Decimal}
use Rattle.dtype_base.specs.declared.nullability.Nullability.{Nullability}
use Rattle.dtype_base.specs.declared.ptype.PType.{PType}
use Rattle.dtype_types.specs.tree.Kinds.{kind, primitive_name, decimal_of, struct_fields, union_variants, map_parts, list_element, fixed_size_list_element, any_size_list_element}
use Rattle.dtype_types.specs.nullability.Nullable.{SetNull}
use Rattle.dtype_types.specs.tree.Tree.{Tree, fixed_size_list}
use Rattle.dtype_types.specs.declared.dtype.kinds.Kind.{Kind}

-- a view of a type that doesn't depend on its outer nullability
abbrev pub IsKept : {X : Type 0} → (Tree → X) → Type 0
IsKept seen = (s t : Tree) (n : Nullability) → SetNull s n t → seen t ≡ seen s

-- how many items a fixed-size list has
abbrev pub fixed_size : Tree → Option ℕ
fixed_size (fixed_size_list t size n) = Some size
fixed_size _ = None

-- the parts of each kind, except an extension's storage
pub record Held : Type 0 where
  pub kind_of : Kind
  pub name : Option PType
  pub decimal : Option Decimal
  pub fields_of : Option (List (List ℕ × Tree))
  pub variants_of : Option (List (List ℕ × (Tree × ℕ)))
  pub map : Option (Tree × Tree × Bool)
  pub element : Option Tree
  pub fixed_size_element : Option Tree
  pub any_size_element : Option Tree
  pub size : Option ℕ

abbrev pub held : Tree → Held
held t = record {
  kind_of = kind t;
  name = primitive_name t;
  decimal = decimal_of t;
  fields_of = struct_fields t;
  variants_of = union_variants t;
  map = map_parts t;
  element = list_element t;
  fixed_size_element = fixed_size_list_element t;
  any_size_element = any_size_list_element t;
  size = fixed_size t;
}

held-set_null : IsKept held
held-set_null s t n e = grind (arith, e)

-- any view of these parts, as `part_kept (λ h. h.kind_of)`
pub part_kept : {X : Type 0} (part : Held → X) → IsKept (λ t. part (held t))
part_kept part s t n e = ap part (held-set_null s t n e)

pub list_kept : IsKept list_element
list_kept = part_kept (λ h. h.element)
