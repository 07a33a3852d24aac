-- SPDX-License-Identifier: Apache-2.0
-- SPDX-FileCopyrightText: Copyright the Vortex contributors

-- Equal types write the same to a hasher. Types that are equal except for nullabilities write the same if nullabilities
-- are ignored.
use Rattle.std.specs.Prelude.{◌≡◌, suc, true, refl}
use Rattle.std.proofs.Common.{ap, sym, ◌∙◌}
use Rattle.dtype_types.specs.tree.Tree.{Tree, no_items, item, list, fixed_size_list, map_of, struct, union, extension, Holder, Items}
use Rattle.dtype_types.specs.tree.TreeOf.{MapParts, tree}
use Rattle.dtype_types.specs.tree.Erase.{erase, erase_items}
use Rattle.dtype_types.specs.equality.EqualityLaws.{equal_under-Decides, items_equal-Decides, map_equal-Decides}
use Rattle.dtype_types.specs.equality.Equality.{same_by, same_items_by, same_map_by}
use Rattle.dtype_types.specs.equality.Hashes.{hash_of, inner_writes, item_count, item_writes, counted_writes, map_writes}
use Rattle.dtype_types.specs.declared.dtype.hash.HashMode.TheVariants.{Whole, Erased}
use Rattle.dtype_types.specs.declared.dtype.DType.{DType}

pub equal_types_hash_alike : (x y : DType) → same_by tree x y ≡ true → hash_of Whole (tree x) ≡ hash_of Whole (tree y)
equal_types_hash_alike x y e = ap (hash_of Whole) ((equal_under-Decides (tree x) (tree y)).0 e)

-- what a part feeds is told by what is seen of it
pub inner_writes_alike : {X : Type 0} (seen : X → Tree) (x y : X) → same_by seen x y ≡ true → inner_writes Whole (seen x) ≡ inner_writes Whole (seen y)
inner_writes_alike seen x y e = ap (inner_writes Whole) ((equal_under-Decides (seen x) (seen y)).0 e)

pub counted_writes_alike : {X : Type 0} {h : Holder} (seen : X → Items h) (x y : X) → same_items_by seen x y ≡ true → counted_writes Whole (seen x) ≡ counted_writes Whole (seen y)
counted_writes_alike {X} {h} seen x y e = ap (λ xs. counted_writes Whole xs) ((items_equal-Decides h (seen x) (seen y)).0 e)

pub map_writes_alike : {X : Type 0} (seen : X → MapParts) (x y : X) → same_map_by seen x y ≡ true → map_writes Whole (seen x) ≡ map_writes Whole (seen y)
map_writes_alike seen x y e = ap (map_writes Whole) ((map_equal-Decides (seen x) (seen y)).0 e)

mutual
  pub hash-erase : (t : Tree) → hash_of Erased t ≡ hash_of Erased (erase t)
  hash-erase (list t n) = cc (hash-erase t)
  hash-erase (fixed_size_list t k n) = cc (hash-erase t)
  hash-erase (map_of k v o n) = cc (hash-erase k, hash-erase v)
  hash-erase (struct fs n) = cc (item_count-erase fs, item_writes-erase fs)
  hash-erase (union vs n) = cc (item_count-erase vs, item_writes-erase vs)
  hash-erase (extension id b t) = cc (hash-erase t)
  hash-erase _ = refl

  item_count-erase : {h : Holder} (xs : Items h) → item_count xs ≡ item_count (erase_items xs)
  item_count-erase no_items = refl
  item_count-erase (item n t g rest) = ap suc (item_count-erase rest)

  item_writes-erase : {h : Holder} (xs : Items h) → item_writes Erased xs ≡ item_writes Erased (erase_items xs)
  item_writes-erase no_items = refl
  item_writes-erase (item n t g rest) = cc (hash-erase t, item_writes-erase rest)

pub erased_fed : (a b : Tree) → erase a ≡ erase b → hash_of Erased a ≡ hash_of Erased b
erased_fed a b e = hash-erase a ∙ ap (hash_of Erased) e ∙ sym (hash-erase b)
