-- SPDX-License-Identifier: Apache-2.0
-- SPDX-FileCopyrightText: Copyright the Vortex contributors

-- Two lists of fields, or of variants, are equal under a rule where their names, their tags and their types are.
use Rattle.std.proofs.Common.{◌≡◌, ℕ, ◌&&◌, ◌==◌, List, [], ◌∷◌, map, Bool, refl, ap, ◌∙◌, arith}
use Rattle.std.specs.Cmp.Lexicographic.{pointwise}
use Rattle.std.specs.Map.{keys_of, values_of}
use Rattle.std.specs.Str.{bytes_eq}
use Rattle.std.proofs.lemmas.Grind.{common_steps}
use Rattle.dtype_types.specs.parts.Lists.{tags_of, types_of}
use Rattle.dtype_types.specs.tree.Tree.{fields, variants}
use Rattle.dtype_types.specs.tree.TreeOf.{tree, with_trees, with_tagged_trees}
use Rattle.dtype_types.specs.declared.dtype.DType.{DType}
use Rattle.dtype_types.specs.declared.dtype.equality.NullabilityRule.{NullabilityRule}
use Rattle.dtype_types.specs.equality.Equality.{equal_under, items_equal_under}

four : (a b c d : Bool) → ((a && b) && (c && d)) ≡ ((a && c) && (b && d))
four a b c d = grind (arith, common_steps)

six : (a b c x y z : Bool) → (((a && b) && c) && (x && (y && z))) ≡ ((a && x) && ((b && y) && (c && z)))
six a b c x y z = grind (arith, common_steps)

pub same_fields : (s : NullabilityRule) (ps qs : List (List ℕ × DType)) → items_equal_under s (fields (with_trees ps)) (fields (with_trees qs))
    ≡ (pointwise bytes_eq (keys_of ps) (keys_of qs) && pointwise (equal_under s) (map tree (values_of ps)) (map tree (values_of qs)))
same_fields s [] [] = refl
same_fields s (p ∷ ps) (q ∷ qs) = ap (λ b. (bytes_eq p.0 q.0 && equal_under s (tree p.1) (tree q.1)) && b) (same_fields s ps qs) ∙ four (bytes_eq p.0 q.0) _ _ _
same_fields s _ _ = refl

pub same_variants : (s : NullabilityRule) (ps qs : List (List ℕ × (DType × ℕ))) → items_equal_under s (variants (with_tagged_trees ps)) (variants (with_tagged_trees qs))
    ≡ (pointwise (λ a b. a == b) (tags_of ps) (tags_of qs) && (pointwise bytes_eq (keys_of ps) (keys_of qs) && pointwise (equal_under s) (map tree (types_of ps)) (map tree (types_of qs))))
same_variants s [] [] = refl
same_variants s (p ∷ ps) (q ∷ qs) =
    ap (λ b. (((p.1.1 == q.1.1) && bytes_eq p.0 q.0) && equal_under s (tree p.1.0) (tree q.1.0)) && b) (same_variants s ps qs) ∙ six (p.1.1 == q.1.1) (bytes_eq p.0 q.0) _ _ _ _
same_variants s _ _ = refl
