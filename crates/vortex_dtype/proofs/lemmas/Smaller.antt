-- SPDX-License-Identifier: Apache-2.0
-- SPDX-FileCopyrightText: Copyright the Vortex contributors

-- A part of a type contains fewer types than the type, so a loop ends that goes from a type to a part of it in each turn.
-- Its measure is `weight (tree l.x)`, if `x` is the variable that has the type.
use Rattle.std.proofs.Common.{arith, ◌≡◌, ◌+◌, ◌<◌, Option, Some, None, IfSome, sym, ap}
use Rattle.std.proofs.lemmas.Option.{same_Some}
use Rattle.std.specs.Borrow.{Bor}
use Rattle.dtype_types.specs.tree.Tree.{Tree, list, fixed_size_list, map_of, extension}
use Rattle.dtype_types.specs.tree.Kinds.{any_size_list_element, extension_parts, fixed_size_list_element, list_element, map_parts}
use Rattle.dtype_types.specs.tree.TreeOf.{ExtensionParts, MapParts, map_shown, shown, storage_tree, tree}
use Rattle.dtype_types.specs.parts.Extensions.{extension_shown}
use Rattle.dtype_types.specs.parts.Maps.{key_tree, value_tree}
use Rattle.dtype_types.specs.declared.dtype.DType.{DType}
use Rattle.dtype_types.specs.declared.extension.ExtDTypeRef.{ExtDTypeRef}
use Rattle.dtype_types.specs.declared.map.MapDType.{MapDType}
use Rattle.dtype_types.proofs.lemmas.TypesBelow.{weight}

-- ---- by the trees

of_list : (t u : Tree) → list_element t ≡ Some u → weight u < weight t
of_list (list t n) u e = grind (arith, same_Some t u e)
of_list t u e = grind (arith, e)

of_fixed_size_list : (t u : Tree) → fixed_size_list_element t ≡ Some u → weight u < weight t
of_fixed_size_list (fixed_size_list t k n) u e = grind (arith, same_Some t u e)
of_fixed_size_list t u e = grind (arith, e)

of_any_size_list : (t u : Tree) → any_size_list_element t ≡ Some u → weight u < weight t
of_any_size_list (list t n) u e = grind (arith, same_Some t u e)
of_any_size_list (fixed_size_list t k n) u e = grind (arith, same_Some t u e)
of_any_size_list t u e = grind (arith, e)

of_extension : (t : Tree) (p : ExtensionParts) → extension_parts t ≡ Some p → weight p.2 < weight t
of_extension (extension i b s) p e = let same : weight s ≡ weight p.2 = ap (λ q. weight q.2) (same_Some (i, b, s) p e) in omega arith
of_extension t p e = grind (arith, e)

of_map : (t : Tree) (p : MapParts) → map_parts t ≡ Some p → (weight p.0 < weight t) × (weight p.1 < weight t)
of_map (map_of k v o n) p e =
    let key : weight k ≡ weight p.0 = ap (λ q. weight q.0) (same_Some (k, v, o) p e) in
    let value : weight v ≡ weight p.1 = ap (λ q. weight q.1) (same_Some (k, v, o) p e) in
    (omega arith, omega arith)
of_map t p e = (grind (arith, e), grind (arith, e))

-- ---- of what a call borrows from a type

pub element_smaller : (t : Tree) (r : Option (Bor DType)) → shown tree r ≡ list_element t → IfSome r (λ d. weight (tree d.now) < weight t)
element_smaller t None e = tt
element_smaller t (Some d) e = of_list t (tree d.now) (sym e)

pub fixed_size_element_smaller : (t : Tree) (r : Option (Bor DType)) → shown tree r ≡ fixed_size_list_element t → IfSome r (λ d. weight (tree d.now) < weight t)
fixed_size_element_smaller t None e = tt
fixed_size_element_smaller t (Some d) e = of_fixed_size_list t (tree d.now) (sym e)

pub any_size_element_smaller : (t : Tree) (r : Option (Bor DType)) → shown tree r ≡ any_size_list_element t → IfSome r (λ d. weight (tree d.now) < weight t)
any_size_element_smaller t None e = tt
any_size_element_smaller t (Some d) e = of_any_size_list t (tree d.now) (sym e)

pub storage_smaller : (t : Tree) (r : Option (Bor ExtDTypeRef)) → shown extension_shown r ≡ extension_parts t → IfSome r (λ e. weight (storage_tree e.now) < weight t)
storage_smaller t None e = tt
storage_smaller t (Some x) e = of_extension t (extension_shown x.now) (sym e)

pub map_smaller : (t : Tree) (r : Option (Bor MapDType)) → shown map_shown r ≡ map_parts t → IfSome r (λ m. (weight (key_tree m.now) < weight t) × (weight (value_tree m.now) < weight t))
map_smaller t None e = tt
map_smaller t (Some m) e = of_map t (map_shown m.now) (sym e)

pub ruleset smaller_parts = (element_smaller, fixed_size_element_smaller, any_size_element_smaller, storage_smaller, map_smaller)
