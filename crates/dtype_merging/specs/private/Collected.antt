-- SPDX-License-Identifier: Apache-2.0
-- SPDX-FileCopyrightText: Copyright the Vortex contributors

-- What the calls that merge two types collect on their way.
use Rattle.std.specs.Prelude.{ℕ, Bool, List, [], ◌∷◌, ◌&&◌, map, Option, Some, None, if◌then◌else◌}
use Rattle.std.specs.Option.{option_map}
use Rattle.dtype_base.specs.declared.nullability.Nullability.{Nullability}
use Rattle.dtype_types.specs.declared.dtype.DType.{DType}
use Rattle.dtype_types.specs.declared.field_dtype.FieldDType.{FieldDType}
use Rattle.dtype_types.specs.parts.FieldTypes.{field_tree}
use Rattle.dtype_types.specs.tree.Tree.{Tree, Variants, no_items, item}
use Rattle.dtype_types.specs.tree.TreeOf.{MapParts, tree}
use Rattle.dtype_merging.specs.MergedColumns.{columns_merged, further_variants, joined, map_with, merged_by_tag, own_tags, stay_sorted, union_with}
use Rattle.dtype_merging.specs.ReadsAs.{keyed}
use Rattle.dtype_merging.specs.declared.widening.Widening.{Widening}

-- the fields that are made from these pairs of a name and a field type
abbrev pub collected : List (List ℕ × FieldDType) → List (List ℕ × Tree)
collected cs = map (λ p. (p.0, field_tree p.1)) cs

-- the variants that are made from these triples of a name, a tag and a type
abbrev pub gathered : List (List ℕ × ℕ × DType) → Variants
gathered [] = no_items
gathered (v ∷ vs) = item v.0 (tree v.2) v.1 (gathered vs)

-- the merged type of two unions, of which `n` is the outer nullability
abbrev pub unions_merged : Widening → Variants → Variants → Nullability → Option Tree
unions_merged w vs ws n = if own_tags vs && own_tags ws then union_with (option_map (λ us. joined us (further_variants (keyed vs) ws)) (merged_by_tag w vs (keyed ws))) n else None

-- whether the keys of the merged type of two maps are sorted
abbrev pub maps_stay_sorted : MapParts → MapParts → Bool
maps_stay_sorted a b = stay_sorted a.2 a.0 b.2 b.0

-- the merged type of two maps
abbrev pub maps_merged : Widening → MapParts → MapParts → Nullability → Option Tree
maps_merged w a b n = map_with (columns_merged w a.0 b.0) (columns_merged w a.1 b.1) (maps_stay_sorted a b) n

-- the types `rest` after the type `t`, or None if there is no such type, or no such types
abbrev pub type_first : Option Tree → Option (List Tree) → Option (List Tree)
type_first (Some t) (Some rest) = Some (t ∷ rest)
type_first _ _ = None

-- the types at equal positions, merged
abbrev pub types_merged : Widening → List Tree → List Tree → Option (List Tree)
types_merged w (t ∷ ts) (u ∷ us) = type_first (columns_merged w t u) (types_merged w ts us)
types_merged w _ _ = Some []
