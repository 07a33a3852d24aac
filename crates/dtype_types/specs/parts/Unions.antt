-- SPDX-License-Identifier: Apache-2.0
-- SPDX-FileCopyrightText: Copyright the Vortex contributors

-- Which names, types and tags make a union, and which error is returned if they don't. From the documentation of
-- `UnionVariants::try_new` and `UnionVariants::new`.
use Rattle.std.specs.Prelude.{◌≡◌, ◌≢◌, ℕ, List, [], length, Bool, nat_eq}
use Rattle.std.specs.Cmp.Lexicographic.{pointwise}
use Rattle.std.specs.List.{range_with_len}
use Rattle.dtype_base.specs.declared.vortex_error.VortexError.{VortexError}
use Rattle.dtype_base.specs.declared.vortex_error.VortexError.TheVariants.{UnionTypesLength, UnionTagsLength, UnionEmpty, UnionTagsRepeat, UnionNamesRepeat}
use Rattle.dtype_base.specs.Bytes.{Bytes}
use Rattle.dtype_base.specs.Distinct.{Distinct}
use Rattle.dtype_types.specs.parts.Lookups.{variant_names, variant_tags}
use Rattle.dtype_types.specs.tree.Tree.{Variants, triples}

-- there are as many types as names, and as many tags as names, and at least one name
abbrev pub HasUnionLengths : List (List ℕ) → ℕ → List ℕ → Type 0
HasUnionLengths names types tags = (length names ≡ types) × (length names ≡ length tags) × (names ≢ [])

-- the tags are 0, 1, 2 and so on, which are the tags that `UnionVariants::new` chooses
abbrev pub AreConsecutive : List ℕ → Type 0
AreConsecutive tags = tags ≡ range_with_len 0 (length tags)

-- the test whether the tags are consecutive
abbrev pub are_consecutive : List ℕ → Bool
are_consecutive tags = pointwise nat_eq tags (range_with_len 0 (length tags))

-- a union can have these names, so many types and these tags
abbrev pub MakesUnion : List (List ℕ) → ℕ → List ℕ → Type 0
MakesUnion names types tags = HasUnionLengths names types tags × Distinct tags × Distinct names

-- these are the variants of a union: `try_new` accepts their names and tags, and the tags are bytes
unfoldable pub AreVariants : Variants → Type 0
AreVariants vs = MakesUnion (variant_names (triples vs)) (length (triples vs)) (variant_tags (triples vs)) × Bytes (variant_tags (triples vs))

-- The error that is returned if the names, types and tags make no union. It is that of the first rule that is broken,
-- in this order.
abbrev pub UnionError : List (List ℕ) → ℕ → List ℕ → VortexError → Type 0
UnionError names types tags UnionTypesLength = length names ≢ types
UnionError names types tags UnionTagsLength = (length names ≡ types) × (length names ≢ length tags)
UnionError names types tags UnionEmpty = (length names ≡ types) × (length names ≡ length tags) × (names ≡ [])
UnionError names types tags UnionTagsRepeat = HasUnionLengths names types tags × (¬ Distinct tags)
UnionError names types tags UnionNamesRepeat = HasUnionLengths names types tags × Distinct tags × (¬ Distinct names)
UnionError names types tags _ = ⊥
