-- SPDX-License-Identifier: Apache-2.0
-- SPDX-FileCopyrightText: Copyright the Vortex contributors

-- A value of a type without the fields that the projection of the type to some paths (`Projected`) leaves out. It is a
-- value of the projection. A reader that opens only these paths returns it, as Parquet's readers do with a projection
-- mask.
use Rattle.std.specs.Prelude.{ℕ, List, [], Option, Some, None, if◌then◌else◌}
use Rattle.dtype_types.specs.tree.Tree.{Tree, Fields, no_items, list, fixed_size_list, struct, item}
use Rattle.dtype_types.specs.values.Value.{Value, Values, no_values, value, Named, no_named, named, items, fixed_items, record_of}
use Rattle.dtype_paths.specs.declared.field.Field.TheVariants.{Name, ElementType}
use Rattle.dtype_projection.specs.Projected.{PathPredicate, after_step, without_field, projected}

abbrev pub each_value : (Value → Value) → Values → Values
each_value g no_values = no_values
each_value g (value v vs) = value (g v) (each_value g vs)

-- a list or a fixed-size list with g applied to each item; other values are unchanged
abbrev pub each_item : (Value → Value) → Value → Value
each_item g (items vs) = items (each_value g vs)
each_item g (fixed_items vs) = fixed_items (each_value g vs)
each_item g v = v

-- the value of a struct with g applied to its pairs; other values are unchanged
abbrev pub in_record : (Named → Named) → Value → Value
in_record g (record_of nvs) = record_of (g nvs)
in_record g v = v

-- the pairs `rest`, after a pair of the name n and the value v if the field is kept
abbrev pub prepend_pair : List ℕ → Option Tree → Value → Named → Named
prepend_pair n None v rest = rest
prepend_pair n (Some u) v rest = named n v rest

abbrev mutual
  pub restricted : Tree → PathPredicate → Value → Value
  restricted (list t n) w v = if w [] then v else each_item (restricted t (after_step ElementType w)) v
  restricted (fixed_size_list t k n) w v = if w [] then v else each_item (restricted t (after_step ElementType w)) v
  restricted (struct fs n) w v = if w [] then v else in_record (restricted_pairs fs w) v
  restricted t w v = v

  pub restricted_pairs : Fields → PathPredicate → Named → Named
  restricted_pairs no_items w nvs = nvs
  restricted_pairs (item n t _ rest) w no_named = no_named
  restricted_pairs (item n t _ rest) w (named m v more) = prepend_pair m (projected t (after_step (Name n) w)) (restricted t (after_step (Name n) w) v) (restricted_pairs rest (without_field n w) more)
