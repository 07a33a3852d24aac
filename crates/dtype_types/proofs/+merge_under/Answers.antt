-- SPDX-License-Identifier: Apache-2.0
-- SPDX-FileCopyrightText: Copyright the Vortex contributors

use Rattle.std.proofs.Common.{◌≡◌, ap, length, map, rules, sym, ◌∙◌}
use Rattle.std.proofs.lemmas.List.{length-map}
use Rattle.std.proofs.lemmas.Slice.Zip.{either_empty_from_Zip}
use Rattle.std.specs.Iterator.Adapters.{zip_first, zip_second}
use Rattle.std.specs.List.{zip}
use Rattle.std.specs.Map.{keys_of}
use Rattle.std.specs.Slice.Iter.{iter_rest}
use Rattle.dtype_types.specs.nullability.Merged.{merge_types, rule_of}
use Rattle.dtype_types.specs.parts.Lists.{types_of, tags_of}
use Rattle.dtype_types.specs.tree.Tree.{variants}
use Rattle.dtype_types.specs.tree.TreeOf.{tree, struct_pairs, union_triples, with_tagged_trees}
use Rattle.dtype_types.specs.declared.dtype.DType.{the_lemmas}
use Rattle.dtype_types.proofs.MergedParts.{as_many, erased_fields, erased_variants, merged_all, merged_variants}
use Rattle.dtype_types.proofs.+merge_under.Goals as goal

pub dtype::nullability_bounds::merge_dtypes-returns : goal.dtype::nullability_bounds::merge_dtypes-returns
dtype::nullability_bounds::merge_dtypes-returns t c =
    let it = c.loop-dtype.dtype-iterator in
    let none = either_empty_from_Zip it c.next.new.self c.next.result c.in-None.is c.next.ensures.steps in
    let made = merged_all (rule_of c.args.rule) (iter_rest (zip_first it)) (iter_rest (zip_second it)) c.loop-dtype.dtypes.items _ none c.loop-dtype.invariant.whole in
    (sym (length-map c.loop-dtype.dtypes.items tree) ∙ ap length made ∙ as_many (rule_of c.args.rule) (map tree c.args.a.now) (map tree c.args.b.now) c.requires.alike ∙ length-map c.args.a.now tree, made)

pub struct_fields::StructFields::merge_under-merge_dtypes-requires : goal.struct_fields::StructFields::merge_under-merge_dtypes-requires
struct_fields::StructFields::merge_under-merge_dtypes-requires t c =
    (rw c.dtypes.ensures (search (rules, the_lemmas)), cc (erased_fields (struct_pairs c.args.self.now) (struct_pairs c.args.other.now) c.requires))

pub union_variants::UnionVariants::merge_under-merge_dtypes-requires : goal.union_variants::UnionVariants::merge_under-merge_dtypes-requires
union_variants::UnionVariants::merge_under-merge_dtypes-requires t c =
    (rw c.dtypes.ensures (search (rules, the_lemmas)), cc (erased_variants (union_triples c.args.self.now) (union_triples c.args.other.now) c.requires))

pub union_variants::UnionVariants::merge_under-returns : goal.union_variants::UnionVariants::merge_under-returns
union_variants::UnionVariants::merge_under-returns t c =
    let items = c.in_ok-dtypes.dtypes.items in
    let r = rule_of c.args.rule in
    let made : map tree items ≡ merge_types r (map tree (types_of (union_triples c.args.self.now))) (map tree (types_of (union_triples c.args.other.now))) = cc c.in_ok-dtypes.ensures.1 in
    ap (λ ps. variants (with_tagged_trees ps)) (c.in_ok-shared.ensures.ok ∙ c.in_ok-merged.ensures ∙ ap (λ ps. zip (keys_of ps) (zip items (tags_of ps))) c.deref.ensures)
    ∙ merged_variants r (union_triples c.args.self.now) (union_triples c.args.other.now) items made
