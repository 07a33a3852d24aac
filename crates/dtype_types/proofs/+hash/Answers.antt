-- SPDX-License-Identifier: Apache-2.0
-- SPDX-FileCopyrightText: Copyright the Vortex contributors

use Rattle.std.proofs.Common.{ap, sym, ◌∙◌, ◌≡◌, ℕ, suc, List, [], ◌∷◌, length, fold, refl}
use Rattle.dtype_types.specs.parts.Lists.{borrowed_pair, borrowed_triple}
use Rattle.dtype_types.specs.tree.Tree.{fields, variants, Tree, Holder, Items, no_items}
use Rattle.dtype_types.specs.tree.TreeOf.{children, fields_of, variant_list, variants_of, with_trees, with_tagged_trees}
use Rattle.dtype_types.proofs.Walks.{none_of}
use Rattle.std.specs.Hash.{le_bytes}
use Rattle.dtype_types.specs.equality.Hashes.{item_count, item_writes}
use Rattle.dtype_types.specs.declared.dtype.hash.HashMode.{HashMode}
use Rattle.dtype_types.proofs.+hash.Goals as goal

count_of_fields : (ps : List (List ℕ × Tree)) → item_count (fields ps) ≡ length ps
count_of_fields [] = refl
count_of_fields (p ∷ ps) = ap suc (count_of_fields ps)

count_of_variants : (ps : List (List ℕ × (Tree × ℕ))) → item_count (variants ps) ≡ length ps
count_of_variants [] = refl
count_of_variants (p ∷ ps) = ap suc (count_of_variants ps)

-- s is the hasher's state before, t after the count k, and u at the end, where no item is left
items_fed : {S : Type 0} (write : S → List ℕ → S) (mode : HashMode) {h : Holder} (xs left : Items h) (k : ℕ) (s t u : S) → k ≡ item_count xs → t ≡ fold write s (le_bytes 8 k ∷ [])
    → fold write t (item_writes mode xs) ≡ fold write u (item_writes mode left) → left ≡ no_items
    → u ≡ fold write s (le_bytes 8 (item_count xs) ∷ item_writes mode xs)
items_fed write mode xs left k s t u e counted so_far none =
    sym (so_far ∙ ap (λ ys. fold write u (item_writes mode ys)) none) ∙ ap (λ z. fold write z (item_writes mode xs)) counted
    ∙ ap (λ j. fold write s (le_bytes 8 j ∷ item_writes mode xs)) e

pub struct_fields::StructFields::hash_into-returns : goal.struct_fields::StructFields::hash_into-returns
struct_fields::StructFields::hash_into-returns g t c =
    items_fed g.H.Hasher.write c.args.mode (fields_of c.args.self.now) _ c.nfields.result c.args.state.now c.write_usize.new.self c.loop-name.state (c.nfields.ensures ∙ sym (count_of_fields (children c.args.self.now))) c.write_usize.ensures c.loop-name.invariant.fed
    (ap (λ ps. fields (with_trees ps)) (none_of borrowed_pair c.loop-name.name-iterator c.next.new.self c.next.result c.in-None.is c.next.ensures.steps))

pub union_variants::UnionVariants::hash_into-returns : goal.union_variants::UnionVariants::hash_into-returns
union_variants::UnionVariants::hash_into-returns g t c =
    items_fed g.H.Hasher.write c.args.mode (variants_of c.args.self.now) _ c.len.result c.args.state.now c.write_usize.new.self c.loop-name.state (c.len.ensures ∙ sym (count_of_variants (variant_list c.args.self.now))) c.write_usize.ensures c.loop-name.invariant.fed
    (ap (λ ps. variants (with_tagged_trees ps)) (none_of borrowed_triple c.loop-name.name-iterator c.next.new.self c.next.result c.in-None.is c.next.ensures.steps))
