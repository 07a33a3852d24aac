-- SPDX-License-Identifier: Apache-2.0
-- SPDX-FileCopyrightText: Copyright the Vortex contributors

-- The type at the first position of a name replaced.
use Rattle.std.proofs.Common.{◌≡◌, map, slice_get, ℕ, zero, suc, List, [], ◌∷◌, Option, Some, None, set, option_and_then, refl, sym, ap, ◌∙◌, arith}
use Rattle.std.specs.List.{zip}
use Rattle.std.specs.Option.{option_map}
use Rattle.std.proofs.lemmas.Option.{same_Some}
use Rattle.dtype_base.specs.FieldNames.{FirstAt, first_place}
use Rattle.dtype_base.proofs.lemmas.Lookups.{first_of_place}
use Rattle.dtype_base.specs.declared.nullability.Nullability.{Nullability}
use Rattle.dtype_types.specs.parts.Lookups.{field_names, field_types, first_named}
use Rattle.dtype_types.specs.tree.Tree.{Tree, field, fields, struct}
use Rattle.dtype_types.specs.tree.TreeOf.{children, fields_of, tree}
use Rattle.dtype_types.specs.declared.dtype.DType.{DType}
use Rattle.dtype_types.specs.declared.struct_fields.StructFields.{StructFields}
use Rattle.dtype_types.proofs.lemmas.Lookups.{field_at_place, no_field_at_place, taken_same_name, other_name}
use Rattle.dtype_types.proofs.lemmas.TreeLaws.{pairs_of}
use Rattle.dtype_paths.specs.declared.field.Field.{Field}
use Rattle.dtype_paths.specs.declared.field.Field.TheVariants.{Name}
use Rattle.dtype_edits.specs.Replaced.{replaced, with_field, with_part}

zipped : (ps : List (List ℕ × Tree)) → zip (field_names ps) (field_types ps) ≡ ps
zipped [] = refl
zipped (p ∷ ps) = ap (λ qs. p ∷ qs) (zipped ps)

placed_first : (ps : List (List ℕ × Tree)) (m : List ℕ) (i : ℕ) (u : Tree) → FirstAt (field_names ps) m i → fields (zip (field_names ps) (set (field_types ps) i u)) ≡ with_field m u (fields ps)
placed_first [] m i u at = let q = at.here in cc
placed_first (p ∷ ps) m zero u at =
    ap (λ qs. field p.0 u (fields qs)) (zipped ps) ∙ sym (taken_same_name p.0 m (field p.0 u (fields ps)) _ (same_Some p.0 m at.here))
placed_first (p ∷ ps) m (suc i) u at =
    ap (field p.0 p.1) (placed_first ps m i u (record { here = at.here; first = λ k lt. at.first (suc k) (omega (arith, lt)) }))
    ∙ sym (other_name p.0 m (field p.0 u (fields ps)) _ (λ e. at.first 0 (omega arith) (ap Some e)))

pub placed : (ps : List (List ℕ × Tree)) (m : List ℕ) (i : ℕ) (u : Tree) → Some i ≡ first_place (field_names ps) m → fields (zip (field_names ps) (set (field_types ps) i u)) ≡ with_field m u (fields ps)
placed ps m i u e = placed_first ps m i u (first_of_place (field_names ps) m i e)

-- ---- a struct with the type of one of its fields replaced

module _ (t : Tree) (s : StructFields) (n : Nullability) (steps : List Field) (m : List ℕ) (p : List Field) (u : Tree) (is : t ≡ struct (fields_of s) n) (first : steps ≡ Name m ∷ p) where
  -- what is made after the step, of what the name finds
  abbrev after : Option Tree → Option Tree
  after o = option_and_then (λ z. option_map (with_part (struct (fields_of s) n) (Name m)) (replaced z p u)) o

  by_name : replaced t steps u ≡ after (first_named (children s) m)
  by_name = ap (λ z. replaced z steps u) is ∙ ap (λ q. replaced (struct (fields_of s) n) q u) first ∙ ap (λ ps. after (first_named ps m)) (pairs_of (children s))

  -- no field has the name
  pub no_field : None ≡ first_place (field_names (children s)) m → None ≡ replaced t steps u
  no_field none = sym (by_name ∙ ap after (sym (no_field_at_place (children s) m none)))

  module _ (i : ℕ) (at : Some i ≡ first_place (field_names (children s)) m) where
    by_place : (o : Option Tree) → o ≡ slice_get (field_types (children s)) i → replaced t steps u ≡ after o
    by_place o e = by_name ∙ ap after (sym (e ∙ field_at_place (children s) m i at))

    pub no_type : None ≡ slice_get (field_types (children s)) i → None ≡ replaced t steps u
    no_type none = sym (by_place None none)

    pub none_below : (x : Tree) → Some x ≡ slice_get (field_types (children s)) i → None ≡ replaced x p u → None ≡ replaced t steps u
    none_below x e none = ap (option_map (with_part (struct (fields_of s) n) (Name m))) none ∙ sym (by_place (Some x) e)

    pub some_below : (x y : Tree) (r : StructFields) → Some x ≡ slice_get (field_types (children s)) i → Some y ≡ replaced x p u → children r ≡ zip (field_names (children s)) (set (field_types (children s)) i y) → Some (struct (fields_of r) n) ≡ replaced t steps u
    some_below x y r e below made =
        ap (λ ps. Some (struct (fields ps) n)) made
        ∙ ap (λ gs. Some (struct gs n)) (placed (children s) m i y at)
        ∙ ap (option_map (with_part (struct (fields_of s) n) (Name m))) below
        ∙ sym (by_place (Some x) e)

-- ---- the types of fields, one of which is replaced

pub set_mapped : (xs : List DType) (i : ℕ) (d : DType) → map tree (set xs i d) ≡ set (map tree xs) i (tree d)
set_mapped [] i d = refl
set_mapped (x ∷ xs) zero d = refl
set_mapped (x ∷ xs) (suc i) d = ap (λ ts. tree x ∷ ts) (set_mapped xs i d)
