-- SPDX-License-Identifier: Apache-2.0
-- SPDX-FileCopyrightText: Copyright the Vortex contributors

use Rattle.std.proofs.Common.{◌≡◌, ◌∙◌, ap, inr, length, map, map-id, sym, rules}
use Rattle.std.specs.List.{zip}
use Rattle.std.proofs.lemmas.Iterator.Adapters.{YieldsList-from_vec}
use Rattle.std.proofs.lemmas.Iterator.Consumers.{YieldsList-end}
use Rattle.std.proofs.lemmas.List.{length-map}
use Rattle.dtype_base.specs.declared.vortex_error.VortexError.TheVariants.{UnionEmpty, UnionTagsRepeat, UnionNamesRepeat}
use Rattle.dtype_types.specs.parts.Unions.{MakesUnion, UnionError}
use Rattle.dtype_types.specs.tree.TreeOf.{tree}
use Rattle.dtype_merging.proofs.Tagging.{names_in, tags_in, types_in, union_is_made, union_is_refused}
use Rattle.dtype_merging.proofs.variants.union_of.Goals as goal

pub returns-in-Ok : goal.returns-in-Ok
returns-in-Ok c =
    let l = c.loop-name in
    let vs = c.args.variants.items in
    let ns = l.names.items in
    let ts = map tree l.dtypes.items in
    let gs = l.type_ids.items in
    let all = YieldsList-end (YieldsList-from_vec {s = c.into_iter-name-iterator.result} vs (search rules) (search rules)) l.yielded l.name-iterator l.yielded_by c.next.result c.next.new.self c.in-None.is c.next.ensures.steps in
    let whole : l.yielded ≡ vs = sym (map-id l.yielded) ∙ all.0 in
    let made : MakesUnion ns (length ts) gs = search (rules, c.in-Ok.ensures.accepted, c.from_vec.ensures, sym (length-map l.dtypes.items tree)) in
    union_is_made c.in-Ok.made c.args.n vs ns ts gs (l.invariant.names ∙ ap names_in whole) (l.invariant.dtypes ∙ ap types_in whole) (l.invariant.tags ∙ ap tags_in whole)
    (c.in-Ok.ensures.variants ∙ ap (λ z. zip z (zip ts gs)) c.from_vec.ensures) made

pub returns-in-Err-UnionEmpty : goal.returns-in-Err-UnionEmpty
returns-in-Err-UnionEmpty c =
    let l = c.loop-name in
    let vs = c.args.variants.items in
    let ns = l.names.items in
    let ts = map tree l.dtypes.items in
    let gs = l.type_ids.items in
    let all = YieldsList-end (YieldsList-from_vec {s = c.into_iter-name-iterator.result} vs (search rules) (search rules)) l.yielded l.name-iterator l.yielded_by c.next.result c.next.new.self c.in-None.is c.next.ensures.steps in
    let whole : l.yielded ≡ vs = sym (map-id l.yielded) ∙ all.0 in
    let refused : UnionError ns (length ts) gs UnionEmpty = search (rules, c.in-Err-UnionEmpty.ensures.errors, c.from_vec.ensures, sym (length-map l.dtypes.items tree)) in
    union_is_refused c.args.n vs ns ts gs UnionEmpty (l.invariant.names ∙ ap names_in whole) (l.invariant.dtypes ∙ ap types_in whole) (l.invariant.tags ∙ ap tags_in whole) (inr refused) (λ e. cc)

pub returns-in-Err-UnionTagsRepeat : goal.returns-in-Err-UnionTagsRepeat
returns-in-Err-UnionTagsRepeat c =
    let l = c.loop-name in
    let vs = c.args.variants.items in
    let ns = l.names.items in
    let ts = map tree l.dtypes.items in
    let gs = l.type_ids.items in
    let all = YieldsList-end (YieldsList-from_vec {s = c.into_iter-name-iterator.result} vs (search rules) (search rules)) l.yielded l.name-iterator l.yielded_by c.next.result c.next.new.self c.in-None.is c.next.ensures.steps in
    let whole : l.yielded ≡ vs = sym (map-id l.yielded) ∙ all.0 in
    let refused : UnionError ns (length ts) gs UnionTagsRepeat = search (rules, c.in-Err-UnionTagsRepeat.ensures.errors, c.from_vec.ensures, sym (length-map l.dtypes.items tree)) in
    union_is_refused c.args.n vs ns ts gs UnionTagsRepeat (l.invariant.names ∙ ap names_in whole) (l.invariant.dtypes ∙ ap types_in whole) (l.invariant.tags ∙ ap tags_in whole) (inr refused) (λ e. cc)

pub returns-in-Err-UnionNamesRepeat : goal.returns-in-Err-UnionNamesRepeat
returns-in-Err-UnionNamesRepeat c =
    let l = c.loop-name in
    let vs = c.args.variants.items in
    let ns = l.names.items in
    let ts = map tree l.dtypes.items in
    let gs = l.type_ids.items in
    let all = YieldsList-end (YieldsList-from_vec {s = c.into_iter-name-iterator.result} vs (search rules) (search rules)) l.yielded l.name-iterator l.yielded_by c.next.result c.next.new.self c.in-None.is c.next.ensures.steps in
    let whole : l.yielded ≡ vs = sym (map-id l.yielded) ∙ all.0 in
    let refused : UnionError ns (length ts) gs UnionNamesRepeat = search (rules, c.in-Err-UnionNamesRepeat.ensures.errors, c.from_vec.ensures, sym (length-map l.dtypes.items tree)) in
    union_is_refused c.args.n vs ns ts gs UnionNamesRepeat (l.invariant.names ∙ ap names_in whole) (l.invariant.dtypes ∙ ap types_in whole) (l.invariant.tags ∙ ap tags_in whole) (inr refused) (λ e. cc)
