-- SPDX-License-Identifier: Apache-2.0
-- SPDX-FileCopyrightText: Copyright the Vortex contributors

-- Types that are made of valid types with few levels are valid and have few levels.
use Rattle.std.proofs.Common.{◌≡◌, ◌∙◌, ℕ, suc, ◌<◌, ◌≤◌, List, [], ◌∷◌, map, sym, subst, arith}
use Rattle.std.specs.List.{All, zip}
use Rattle.dtype_base.specs.declared.nullability.Nullability.{Nullability}
use Rattle.dtype_text.specs.Grammar.{levels, levels_of_items}
use Rattle.dtype_types.proofs.lemmas.TreeLaws.{tree_extension}
use Rattle.dtype_types.proofs.lemmas.Validity.{extension_valid}
use Rattle.dtype_types.specs.declared.dtype.DType.{DType, Extension}
use Rattle.dtype_types.specs.declared.extension.ExtDTypeRef.{ExtDTypeRef}
use Rattle.dtype_types.specs.tree.Tree.{Tree, fields, variants, struct, union, extension}
use Rattle.dtype_types.specs.tree.TreeOf.{tree, extension_tree}

-- the types have fewer levels than this
abbrev pub AreBelow : ℕ → List DType → Type 0
AreBelow m ds = All (λ d. levels (tree d) < m) ds

pub fields_levels : (ns : List (List ℕ)) (ds : List DType) (m : ℕ) → AreBelow m ds → levels_of_items (fields (zip ns (map tree ds))) ≤ m
fields_levels [] ds m h = omega arith
fields_levels (n ∷ ns) [] m h = omega arith
fields_levels (n ∷ ns) (d ∷ ds) m h =
    let first : levels (tree d) < m = h 0 d (omega arith) in
    let rest = fields_levels ns ds m (λ k e within. h (suc k) e (omega (arith, within))) in
    omega (arith, first, rest)

pub variants_levels : (ns : List (List ℕ)) (ds : List DType) (gs : List ℕ) (m : ℕ) → AreBelow m ds → levels_of_items (variants (zip ns (zip (map tree ds) gs))) ≤ m
variants_levels [] ds gs m h = omega arith
variants_levels (n ∷ ns) [] gs m h = omega arith
variants_levels (n ∷ ns) (d ∷ ds) [] m h = omega arith
variants_levels (n ∷ ns) (d ∷ ds) (g ∷ gs) m h =
    let first : levels (tree d) < m = h 0 d (omega arith) in
    let rest = variants_levels ns ds gs m (λ k e within. h (suc k) e (omega (arith, within))) in
    omega (arith, first, rest)

pub struct_below : (t : Tree) (n : Nullability) (ns : List (List ℕ)) (ds : List DType) (m : ℕ) → t ≡ struct (fields (zip ns (map tree ds))) n → AreBelow m ds → levels t ≤ m
struct_below t n ns ds m e h = subst (λ u. levels u ≤ m) (sym e) (fields_levels ns ds m h)

pub union_below : (t : Tree) (n : Nullability) (ns : List (List ℕ)) (ds : List DType) (gs : List ℕ) (m : ℕ) → t ≡ union (variants (zip ns (zip (map tree ds) gs))) n → AreBelow m ds → levels t ≤ m
union_below t n ns ds gs m e h = subst (λ u. levels u ≤ m) (sym e) (variants_levels ns ds gs m h)

pub ruleset structs = (struct_below)

pub made_extension : (e : ExtDTypeRef) (id m : List ℕ) (t : Tree) → extension_tree e ≡ extension id m t → tree (Extension e) ≡ extension id m t
made_extension e id m t h = tree_extension e ∙ h

pub ruleset extensions = (made_extension, extension_valid)
