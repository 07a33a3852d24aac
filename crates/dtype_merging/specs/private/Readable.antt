-- SPDX-License-Identifier: Apache-2.0
-- SPDX-FileCopyrightText: Copyright the Vortex contributors

-- The test whether a type can be read as another, in the steps in which the code makes it. That it returns true exactly
-- if the type can be read as the other (`ReadsAs`) is a lemma, `readable_Decides`.
use Rattle.std.specs.Prelude.{ℕ, List, [], ◌∷◌, Bool, true, false, ◌&&◌, ◌||◌, ◌==◌, Option, Some, None, is_some, if◌then◌else◌, not}
use Rattle.std.specs.Str.{bytes_eq}
use Rattle.dtype_base.specs.declared.nullability.Nullability.{Nullability}
use Rattle.dtype_base.specs.declared.nullability.Nullability.TheVariants.{NonNullable, Nullable}
use Rattle.dtype_types.specs.equality.Equality.{same_by}
use Rattle.dtype_types.specs.nullability.Merged.{merged}
use Rattle.dtype_types.specs.nullability.Nullable.{nullability}
use Rattle.dtype_types.specs.parts.Lookups.{first_named}
use Rattle.dtype_types.specs.tree.Tree.{Tree, Fields, Variants, no_items, item, pairs, fields, null, primitive, decimal, list, fixed_size_list, map_of, struct, union, extension}
use Rattle.dtype_types.specs.tree.TreeOf.{MapParts}
use Rattle.dtype_merging.specs.MergedColumns.{no_repeats, own_tags, stay_sorted}
use Rattle.dtype_merging.specs.ReadsAs.{keyed}
use Rattle.dtype_merging.specs.Widens.{decimal_reads, ptype_reads}
use Rattle.dtype_merging.specs.declared.widening.Widening.{Widening}

-- whether this is `Nullable`
abbrev pub is_null_allowed : Nullability → Bool
is_null_allowed NonNullable = false
is_null_allowed Nullable = true

-- whether the second is `Nullable` if the first is
abbrev pub allowed : Nullability → Nullability → Bool
allowed m n = not (is_null_allowed m) || is_null_allowed n

-- whether the keys of a map stay sorted, if those of the other map are
abbrev pub kept_sorted : Bool → Tree → Bool → Tree → Bool
kept_sorted x t y u = not y || stay_sorted x t y u

-- whether there is a type, and the test returns true of it
abbrev pub is_and : (Tree → Bool) → Option Tree → Bool
is_and f None = false
is_and f (Some u) = f u

-- whether the first type is a subset of the second: the least type of which both are subsets is the second
abbrev pub is_subset : Tree → Tree → Bool
is_subset t u = is_and (λ c. same_by (λ x. x) c u) (merged t u)

-- a type whose parts aren't read one by one, and that isn't a type of numbers
abbrev pub plain_readable : Tree → Tree → Bool
plain_readable null u = is_null_allowed (nullability u)
plain_readable t u = is_subset t u

-- whether each of the second fields whose name the first lack is nullable
abbrev pub further_nullable : List (List ℕ × Tree) → List (List ℕ × Tree) → Bool
further_nullable fs [] = true
further_nullable fs (g ∷ gs) = (is_some (first_named fs g.0) || is_null_allowed (nullability g.1)) && further_nullable fs gs

abbrev mutual
  -- whether the first type can be read as the second
  pub readable : Widening → Tree → Tree → Bool
  readable w (list t m) (list u n) = allowed m n && readable w t u
  readable w (fixed_size_list t j m) (fixed_size_list u k n) = (j == k) && (allowed m n && readable w t u)
  readable w (map_of t p x m) (map_of u q y n) = allowed m n && (kept_sorted x t y u && (readable w t u && readable w p q))
  readable w (struct fs m) (struct gs n) =
      allowed m n && (if no_repeats (pairs fs) && no_repeats (pairs gs) then found_readable w fs gs && further_nullable (pairs fs) (pairs gs) else beside_readable w fs gs)
  readable w (union vs m) (union ws n) = if own_tags vs && own_tags ws then allowed m n && tagged_readable w vs (keyed ws) else is_subset (union vs m) (union ws n)
  readable w (extension i a t) (extension j b u) = bytes_eq i j && (bytes_eq a b && readable w t u)
  readable w (primitive p m) (primitive q n) = ptype_reads w p q && allowed m n
  readable w (decimal d m) (decimal e n) = decimal_reads w d e && allowed m n
  readable w t u = plain_readable t u

  -- whether each field finds a field of its name, as which it can be read
  pub found_readable : Widening → Fields → Fields → Bool
  found_readable w no_items gs = true
  found_readable w (item n t _ fs) gs = is_and (λ u. readable w t u) (first_named (pairs gs) n) && found_readable w fs gs

  -- whether each variant finds one of its tag and its name, as which it can be read
  pub tagged_readable : Widening → Variants → Fields → Bool
  tagged_readable w no_items gs = true
  tagged_readable w (item n t f vs) gs = is_and (λ u. readable w t u) (first_named (pairs gs) (f ∷ n)) && tagged_readable w vs gs

  -- whether the fields have the same names in the same order, and each can be read as the one at its position
  pub beside_readable : Widening → Fields → Fields → Bool
  beside_readable w no_items no_items = true
  beside_readable w (item m t _ fs) (item n u _ gs) = bytes_eq m n && (readable w t u && beside_readable w fs gs)
  beside_readable w _ _ = false

-- the same of the fields of two structs
abbrev pub structs_readable : Widening → List (List ℕ × Tree) → List (List ℕ × Tree) → Bool
structs_readable w ps qs = if no_repeats ps && no_repeats qs then found_readable w (fields ps) (fields qs) && further_nullable ps qs else beside_readable w (fields ps) (fields qs)

-- of the parts of two maps
abbrev pub maps_readable : Widening → MapParts → MapParts → Bool
maps_readable w a b = kept_sorted a.2 a.0 b.2 b.0 && (readable w a.0 b.0 && readable w a.1 b.1)

-- of the types at equal positions
abbrev pub types_readable : Widening → List Tree → List Tree → Bool
types_readable w (t ∷ ts) (u ∷ us) = readable w t u && types_readable w ts us
types_readable w _ _ = true
