-- SPDX-License-Identifier: Apache-2.0
-- SPDX-FileCopyrightText: Copyright the Vortex contributors

-- The levels of a struct and of a union are those over the types of their fields and variants.
use Rattle.std.proofs.Common.{◌≡◌, ◌+◌, ℕ, List, [], ◌∷◌, max, ap, refl}
use Rattle.dtype_types.specs.parts.Lookups.{field_types, variant_types}
use Rattle.dtype_types.specs.tree.Tree.{Tree, fields, variants}
use Rattle.vortex_logical_types.specs.Levels.{levels, levels_of_items, levels_over}

pub of_fields : (ps : List (List ℕ × Tree)) → levels_of_items (fields ps) ≡ levels_over (field_types ps)
of_fields [] = refl
of_fields (p ∷ ps) = ap (max (1 + levels p.1)) (of_fields ps)

pub of_variants : (ps : List (List ℕ × (Tree × ℕ))) → levels_of_items (variants ps) ≡ levels_over (variant_types ps)
of_variants [] = refl
of_variants (p ∷ ps) = ap (max (1 + levels p.1.0)) (of_variants ps)
