-- SPDX-License-Identifier: Apache-2.0
-- SPDX-FileCopyrightText: Copyright the Vortex contributors

-- The value that a reader makes of a value of a type to read it as another type (`ReadsAs`): the columns are in the
-- order of the other type, and those that the value lacks are null. For example, the value `{b="x", a=1}` of
-- `{b=utf8, a=i32}`, read as `{a=i32, b=utf8?, c=u8?}`, is `{a=1, b="x", c=null}`. The value of a union stays a value of
-- its variant, and is read as the type of that variant in the other union. The fields of a struct in which a name repeats
-- are read one by one, each as the type at its position.
use Rattle.std.specs.Prelude.{ℕ, List, ◌∷◌, ◌&&◌, ◌==◌, Option, Some, None, if◌then◌else◌, nat_eq}
use Rattle.std.specs.Cmp.Lexicographic.{pointwise}
use Rattle.dtype_types.specs.parts.Lookups.{first_named}
use Rattle.dtype_types.specs.tree.Tree.{Tree, Fields, Variants, no_items, item, pairs, list, fixed_size_list, map_of, struct, union, extension}
use Rattle.dtype_types.specs.values.Value.{Value, Values, no_values, value, Entries, no_entries, entry, Named, no_named, named, null_value, items, fixed_items, entries, record_of, tagged}
use Rattle.dtype_merging.specs.MergedColumns.{no_repeats, own_tags}
use Rattle.dtype_merging.specs.ReadsAs.{keyed}

abbrev pub each_value : (Value → Value) → Values → Values
each_value g no_values = no_values
each_value g (value v vs) = value (g v) (each_value g vs)

abbrev pub each_entry : (Value → Value) → (Value → Value) → Entries → Entries
each_entry f g no_entries = no_entries
each_entry f g (entry k v es) = entry (f k) (g v) (each_entry f g es)

-- a list or a fixed-size list with g applied to each element; other values are unchanged
abbrev pub in_items : (Value → Value) → Value → Value
in_items g (items vs) = items (each_value g vs)
in_items g (fixed_items vs) = fixed_items (each_value g vs)
in_items g v = v

-- a map with f applied to each key and g to each value; other values are unchanged
abbrev pub in_entries : (Value → Value) → (Value → Value) → Value → Value
in_entries f g (entries es) = entries (each_entry f g es)
in_entries f g v = v

-- the value of a struct with g applied to its pairs; other values are unchanged
abbrev pub in_record : (Named → Named) → Value → Value
in_record g (record_of nvs) = record_of (g nvs)
in_record g v = v

-- the value of a union with g applied to its tag and what it contains; other values are unchanged
abbrev pub in_variant : (ℕ → Value → Value) → Value → Value
in_variant g (tagged k v) = tagged k (g k v)
in_variant g v = v

-- the value of the first pair with this name
abbrev pub value_named : Named → List ℕ → Option Value
value_named no_named n = None
value_named (named m v rest) n = if pointwise nat_eq m n then Some v else value_named rest n

-- what g makes of the type and the value of a field, or null if the field is lacking
abbrev pub cell : (Tree → Value → Value) → Option Tree → Option Value → Value
cell g (Some t) (Some v) = g t v
cell g _ _ = null_value

-- what g makes of the type, or the value itself if there is no type
abbrev pub or_same : (Tree → Value) → Option Tree → Value → Value
or_same g (Some u) v = g u
or_same g None v = v

abbrev mutual
  -- the value of the second type that a reader makes of a value of the first
  pub filled : Tree → Tree → Value → Value
  filled (list t m) (list u n) v = in_items (λ x. filled t u x) v
  filled (fixed_size_list t j m) (fixed_size_list u k n) v = in_items (λ x. filled t u x) v
  filled (map_of t p x m) (map_of u q y n) v = in_entries (λ k. filled t u k) (λ w. filled p q w) v
  filled (struct fs m) (struct gs n) v = if no_repeats (pairs fs) && no_repeats (pairs gs) then in_record (λ nvs. filled_pairs fs nvs gs) v else in_record (λ nvs. filled_beside fs nvs gs) v
  filled (union vs m) (union ws n) v = if own_tags vs && own_tags ws then in_variant (λ k x. filled_variant (keyed vs) ws k x) v else v
  filled (extension i a t) (extension j b u) v = filled t u v
  filled t u v = v

  -- the pairs of the fields of the second struct, of which those that the first lacks are null
  pub filled_pairs : Fields → Named → Fields → Named
  filled_pairs fs nvs no_items = no_named
  filled_pairs fs nvs (item n u _ gs) = named n (cell (λ t v. filled t u v) (first_named (pairs fs) n) (value_named nvs n)) (filled_pairs fs nvs gs)

  -- the pairs, each with its value read as the type at its position
  pub filled_beside : Fields → Named → Fields → Named
  filled_beside (item m t _ fs) (named k v nvs) (item n u _ gs) = named k (filled t u v) (filled_beside fs nvs gs)
  filled_beside fs nvs gs = nvs

  -- what a value of the variant with the tag k contains, read as the type of the variant of the second union with that tag
  pub filled_variant : Fields → Variants → ℕ → Value → Value
  filled_variant fs no_items k v = v
  filled_variant fs (item n u g ws) k v = if k == g then or_same (λ t. filled t u v) (first_named (pairs fs) (g ∷ n)) v else filled_variant fs ws k v
