-- SPDX-License-Identifier: Apache-2.0
-- SPDX-FileCopyrightText: Copyright the Vortex contributors

-- One type for two types with different columns: the fields of the first in their order, and then those of the second
-- that the first lacks. A field that one of the two lacks is nullable, and so is what `null` is merged with. Unions are
-- merged in the same way, except that a variant that one of the two lacks stays as it is. Two variants are the same one
-- if they have the same tag and the same name. For example, `union(x={a=i32})` and `union(x={b=u8}, y=utf8)` are merged
-- to `union(x={a=i32?, b=u8?}, y=utf8)`. Two unions in which a tag has two names, or a name has two tags, have no
-- common type. Structs in which a name repeats have a common type only if their names are the same in the same order.
-- Then their types are merged position by position. Types of numbers are merged to the least type as which numbers of both
-- can be read by the caller's choice (`Widens`), and other types without parts by nullability alone. That this is the
-- least type as which both can be read is a theorem (`ReadsAs`, and `laws`).
use Rattle.std.specs.Prelude.{ℕ, List, [], ◌∷◌, ◌++◌, map, Bool, true, false, ◌&&◌, ◌==◌, Option, Some, None, is_none, is_some, if◌then◌else◌}
use Rattle.std.specs.List.{filter, list_all}
use Rattle.std.specs.Option.{option_map}
use Rattle.std.specs.Str.{bytes_eq}
use Rattle.std.proofs.Math.Bool.{not}
use Rattle.dtype_base.specs.Nullability.{either}
use Rattle.dtype_base.specs.declared.nullability.Nullability.{Nullability}
use Rattle.dtype_base.specs.declared.nullability.Nullability.TheVariants.{NonNullable, Nullable}
use Rattle.dtype_types.specs.equality.Equality.{same_tag}
use Rattle.dtype_types.specs.nullability.Merged.{merged}
use Rattle.dtype_types.specs.nullability.Nullable.{nullability, set_null}
use Rattle.dtype_types.specs.parts.Lookups.{first_named, variant_names}
use Rattle.dtype_types.specs.tree.Tree.{Tree, Fields, Variants, Items, Holder, Tag, no_items, item, pairs, triples, fields, null, primitive, decimal, list, fixed_size_list, map_of, struct, union, extension}
use Rattle.dtype_merging.specs.ReadsAs.{keyed, tags}
use Rattle.dtype_merging.specs.Widens.{common_decimal, common_ptype}
use Rattle.dtype_merging.specs.declared.widening.Widening.{Widening}

-- no two of the fields have the same name
abbrev pub no_repeats : List (List ℕ × Tree) → Bool
no_repeats [] = true
no_repeats (f ∷ fs) = is_none (first_named fs f.0) && no_repeats fs

-- no item of the list is the same as a later one, by the test `same`
abbrev pub all_differ : {X : Type 0} → (X → X → Bool) → List X → Bool
all_differ same [] = true
all_differ same (x ∷ xs) = list_all (λ y. not (same x y)) xs && all_differ same xs

-- no tag repeats
abbrev pub tags_differ : Variants → Bool
tags_differ vs = all_differ (λ f g. f == g) (tags vs)

-- a union can have these variants: there is one, and no name and no tag repeats
abbrev pub can_be_variants : Variants → Bool
can_be_variants no_items = false
can_be_variants vs = all_differ bytes_eq (variant_names (triples vs)) && tags_differ vs

-- there is a variant, and no tag repeats
abbrev pub own_tags : Variants → Bool
own_tags no_items = false
own_tags vs = tags_differ vs

-- the tree, or `t` if there is none
abbrev pub or_tree : Tree → Option Tree → Tree
or_tree t None = t
or_tree t (Some u) = u

-- the type with its outer nullability set to `Nullable`
abbrev pub made_nullable : Tree → Tree
made_nullable t = or_tree t (set_null t Nullable)

-- the fields of `gs` whose names `fs` lacks, made nullable
abbrev pub further : List (List ℕ × Tree) → List (List ℕ × Tree) → List (List ℕ × Tree)
further fs gs = map (λ g. (g.0, made_nullable g.1)) (filter (λ g. is_none (first_named fs g.0)) gs)

-- a field's type: what `f` makes of the type in the other struct, or the type made nullable if the other lacks the field
abbrev pub column : Tree → (Tree → Option Tree) → Option Tree → Option Tree
column t f None = Some (made_nullable t)
column t f (Some u) = f u

-- the fields `rest`, after a field named n with the type t; None if there is no such type, or no such fields
abbrev pub prepend : List ℕ → Option Tree → Option (List (List ℕ × Tree)) → Option (List (List ℕ × Tree))
prepend n (Some t) (Some rest) = Some ((n, t) ∷ rest)
prepend n _ _ = None

-- a variant's type: what `f` makes of the type in the other union, or the type itself if the other lacks the variant
abbrev pub variant_type : Tree → (Tree → Option Tree) → Option Tree → Option Tree
variant_type t f None = Some t
variant_type t f (Some u) = f u

-- the variants of `ws` which aren't among the variants `fs`, by tag and name
abbrev pub further_variants : Fields → Variants → Variants
further_variants fs no_items = no_items
further_variants fs (item n u g ws) = if is_some (first_named (pairs fs) (g ∷ n)) then further_variants fs ws else item n u g (further_variants fs ws)

-- the variants of both, one after another
abbrev pub joined : Variants → Variants → Variants
joined no_items ws = ws
joined (item n t f vs) ws = item n t f (joined vs ws)

-- whether the keys of the merged map are sorted: those of both maps are, and the two key types are equal except for
-- nullabilities, so that the keys stay what they are
abbrev pub stay_sorted : Bool → Tree → Bool → Tree → Bool
stay_sorted x t y u = x && y && is_some (merged t u)

-- the map of this key type and this value type; None if its key would be nullable, which no valid map's is
abbrev pub map_of_key : Nullability → Tree → Tree → Bool → Nullability → Option Tree
map_of_key NonNullable k v s n = Some (map_of k v s n)
map_of_key Nullable k v s n = None

abbrev pub map_with : Option Tree → Option Tree → Bool → Nullability → Option Tree
map_with (Some k) (Some v) s n = map_of_key (nullability k) k v s n
map_with _ _ s n = None

-- the struct of the fields `ps` and `more`, or None if there are no `ps`
abbrev pub struct_with : Option (List (List ℕ × Tree)) → List (List ℕ × Tree) → Nullability → Option Tree
struct_with ps more n = option_map (λ qs. struct (fields (qs ++ more)) n) ps

-- the union of these variants; None if a union can't have them, which no valid union has
abbrev pub union_with : Option Variants → Nullability → Option Tree
union_with (Some vs) n = if can_be_variants vs then Some (union vs n) else None
union_with None n = None

-- the items `rest`, after one named n with the type t and the tag f; None if there is no such type, or no such items
abbrev pub put_first : {h : Holder} → List ℕ → Tag h → Option Tree → Option (Items h) → Option (Items h)
put_first n f (Some t) (Some rest) = Some (item n t f rest)
put_first n f _ _ = None

-- Two types whose parts aren't merged one by one: `null` is merged with every type, which is made nullable, and other types
-- by nullability.
abbrev pub others_merged : Tree → Tree → Option Tree
others_merged null u = Some (made_nullable u)
others_merged t null = Some (made_nullable t)
others_merged t u = merged t u

abbrev mutual
  -- the least type as which both types can be read, by the caller's choice `w`, or None if there is none
  pub columns_merged : Widening → Tree → Tree → Option Tree
  columns_merged w (list t m) (list u n) = option_map (λ x. list x (either m n)) (columns_merged w t u)
  columns_merged w (fixed_size_list t j m) (fixed_size_list u k n) = if j == k then option_map (λ x. fixed_size_list x j (either m n)) (columns_merged w t u) else None
  columns_merged w (map_of t p x m) (map_of u q y n) = map_with (columns_merged w t u) (columns_merged w p q) (stay_sorted x t y u) (either m n)
  columns_merged w (struct fs m) (struct gs n) =
      if no_repeats (pairs fs) && no_repeats (pairs gs) then struct_with (merged_by_name w fs gs) (further (pairs fs) (pairs gs)) (either m n) else option_map (λ hs. struct hs (either m n)) (merged_beside w fs gs)
  columns_merged w (union vs m) (union ws n) =
      if own_tags vs && own_tags ws then union_with (option_map (λ us. joined us (further_variants (keyed vs) ws)) (merged_by_tag w vs (keyed ws))) (either m n) else None
  columns_merged w (extension i a t) (extension j b u) = if bytes_eq i j && bytes_eq a b then option_map (extension i a) (columns_merged w t u) else None
  columns_merged w (primitive p m) (primitive q n) = option_map (λ r. primitive r (either m n)) (common_ptype w p q)
  columns_merged w (decimal d m) (decimal e n) = option_map (λ r. decimal r (either m n)) (common_decimal w d e)
  columns_merged w t u = others_merged t u

  -- the fields of `fs`, each merged with the field of its name in `gs`
  pub merged_by_name : Widening → Fields → Fields → Option (List (List ℕ × Tree))
  merged_by_name w no_items gs = Some []
  merged_by_name w (item n t _ fs) gs = prepend n (column t (λ u. columns_merged w t u) (first_named (pairs gs) n)) (merged_by_name w fs gs)

  -- the variants of `vs`, each merged with the variant of its tag and name in the other union
  pub merged_by_tag : Widening → Variants → Fields → Option Variants
  merged_by_tag w no_items gs = Some no_items
  merged_by_tag w (item n t f vs) gs = put_first n f (variant_type t (λ u. columns_merged w t u) (first_named (pairs gs) (f ∷ n))) (merged_by_tag w vs gs)

  -- the items at equal positions, merged; None if their names or tags differ
  pub merged_beside : Widening → {h : Holder} → Items h → Items h → Option (Items h)
  merged_beside w no_items no_items = Some no_items
  merged_beside w {h} (item m t f xs) (item n u g ys) = if bytes_eq m n && same_tag h f g then put_first m f (columns_merged w t u) (merged_beside w xs ys) else None
  merged_beside w _ _ = None
