-- SPDX-License-Identifier: Apache-2.0
-- SPDX-FileCopyrightText: Copyright the Vortex contributors

-- What union the variants of a text make. Each variant has a tag, or none has; then the tags are 0, 1, 2 and so on.
use Rattle.std.specs.Prelude.{ℕ, List, [], ◌∷◌, Bool, true, false, nat_eq, nat_lt, ◌&&◌, ◌==◌, not, Option, Some, None, if◌then◌else◌, map, length}
use Rattle.std.specs.List.{list_any, list_all, range_with_len, zip}
use Rattle.std.specs.Str.{bytes_eq}
use Rattle.dtype_types.specs.tree.Tree.{Tree, Variants, variants}
use Rattle.dtype_types.specs.parts.Lookups.{variant_names, variant_tags}
use Rattle.dtype_base.specs.declared.vortex_error.VortexError.{VortexError}
use Rattle.dtype_base.specs.declared.vortex_error.VortexError.TheVariants.{UnionEmpty, UnionTooMany, UnionTagsRepeat, UnionNamesRepeat}
use Rattle.dtype_text.specs.Outcome.{Outcome, got, misspelled, refused}

-- no item is twice in the list
abbrev pub differ : {A : Type 0} → (A → A → Bool) → List A → Bool
differ same [] = true
differ same (x ∷ xs) = not (list_any (same x) xs) && differ same xs

abbrev pub is_empty : {A : Type 0} → List A → Bool
is_empty [] = true
is_empty (x ∷ xs) = false

-- whether the library makes a union of these variants
abbrev pub makes_union : List (List ℕ × (Tree × ℕ)) → Bool
makes_union vs =
    not (is_empty vs) && (list_all (λ g. nat_lt g 256) (variant_tags vs) && (differ nat_eq (variant_tags vs) && differ bytes_eq (variant_names vs)))

-- the error of variants that make no union
unfoldable pub union_error : List (List ℕ × (Tree × ℕ)) → VortexError
union_error vs =
    if is_empty vs then UnionEmpty
    else if not (list_all (λ g. nat_lt g 256) (variant_tags vs)) then UnionTooMany
    else if not (differ nat_eq (variant_tags vs)) then UnionTagsRepeat
    else UnionNamesRepeat

unfoldable pub made_union : List (List ℕ × (Tree × ℕ)) → Outcome Variants
made_union vs = if makes_union vs then got (variants vs) else refused (union_error vs)

-- the tags that are written
abbrev pub written_tags : List (List ℕ × (Tree × Option ℕ)) → List ℕ
written_tags [] = []
written_tags ((n, (t, None)) ∷ vs) = written_tags vs
written_tags ((n, (t, Some g)) ∷ vs) = g ∷ written_tags vs

-- the variants with these tags
abbrev pub tagged : List (List ℕ × (Tree × Option ℕ)) → List ℕ → List (List ℕ × (Tree × ℕ))
tagged vs tags = zip (map (λ v. v.0) vs) (zip (map (λ v. v.1.0) vs) tags)

unfoldable pub union_at : List (List ℕ × (Tree × Option ℕ)) → Outcome Variants
union_at vs =
    if is_empty (written_tags vs) then made_union (tagged vs (range_with_len 0 (length vs)))
    else if length (written_tags vs) == length vs then made_union (tagged vs (written_tags vs))
    else misspelled
