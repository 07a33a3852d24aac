-- SPDX-License-Identifier: Apache-2.0
-- SPDX-FileCopyrightText: Copyright the Vortex contributors

use Rattle.std.proofs.Common.{rules, subst}
use Rattle.std.proofs.lemmas.Result.{err_from_is_err_and}
use Rattle.dtype_types.specs.parts.Lists.{borrowed_pair, borrowed_triple}
use Rattle.dtype_types.specs.tree.TreeOf.{tree}
use Rattle.c_arrow.specs.Added.{Writes, label_of, out, with_field}
use Rattle.c_arrow.proofs.FaultFacts.{stops_from_fault}
use Rattle.c_arrow.proofs.Writing.{named_stops}
use Rattle.c_arrow.proofs.WritingCalls.{list_written, fixed_kind, fixed_written, struct_written, union_written, named_written, variant_refused, fixed_stops, union_stops, fields_stop, fields_more, fields_end, variants_stop, variants_more, variants_end, none_left}
use Rattle.c_arrow.proofs.writer.Flat.+writing.Goals as goal

pub field-returns-in_ok-node-in-List : goal.field-returns-in_ok-node-in-List
field-returns-in_ok-node-in-List t c =
    list_written c.child.result (out c.child.new.self) (out c.node.new.self) (out c.args.self.now) c.args.levels (label_of c.args.label) c.args.dtype.now c.in-List.element c.in-List.n c.nullable_flag.result c.deref.result.now
    c.in-List.is c.nullable_flag.ensures (search rules) c.in_ok-node-in-List.ensures c.child.ensures

pub field-returns-in-FixedSizeList : goal.field-returns-in-FixedSizeList
field-returns-in-FixedSizeList t c =
    subst (λ f. Writes c.fixed.result (out c.fixed.new.self) (with_field f (out c.args.self.now)))
    (fixed_kind c.args.levels (label_of c.args.label) c.args.dtype.now c.in-FixedSizeList.element c.in-FixedSizeList.size c.in-FixedSizeList.n c.deref-in-FixedSizeList.result.now c.in-FixedSizeList.is (search rules))
    c.fixed.ensures

pub fixed-returns-in_err-format : goal.fixed-returns-in_err-format
fixed-returns-in_err-format t c =
    let p = err_from_is_err_and c.from_residual.result c.from_residual.ensures.1 in
    rw (p.1, p.2) (fixed_stops c.args.levels (label_of c.args.label) (out c.args.self.now) _ c.are_bytes.result (tree c.args.element.now) c.args.size c.args.n c.are_bytes.ensures c.if-are_bytes.false c.in_err-format.ensures)

pub fixed-returns : goal.fixed-returns
fixed-returns t c =
    fixed_written c.child.result (out c.child.new.self) (out c.node.new.self) (out c.args.self.now) c.args.levels (label_of c.args.label) (tree c.args.element.now) c.args.size c.args.n
    c.are_bytes.result c.nullable_flag.result _ c.as_bytes.result.now
    c.are_bytes.ensures c.if-are_bytes.false c.in_ok-format.ensures (search rules) c.nullable_flag.ensures c.in_ok-node.ensures c.child.ensures

pub field-returns-in-Variant : goal.field-returns-in-Variant
field-returns-in-Variant t c =
    stops_from_fault c.refused.result _ _ c.refused.ensures (variant_refused c.args.levels (label_of c.args.label) (out c.args.self.now) c.args.dtype.now c.in-Variant.field-0 c.in-Variant.is)

pub fields-loop-name-preserved : goal.fields-loop-name-preserved
fields-loop-name-preserved t c =
    fields_more c.args.levels (out c.loop-name.self) _ c.as_bytes.result.now c.in-Some.name.now c.in-Some.dtype.now (search rules)
    c.loop-name.name-iterator c.next.new.self c.in-Some.ensures.steps c.loop-name.invariant (out c.child.new.self) c.in_ok-child.ensures

pub fields-returns-in_err-child : goal.fields-returns-in_err-child
fields-returns-in_err-child t c =
    let p = err_from_is_err_and c.from_residual.result c.from_residual.ensures.1 in
    rw (p.1, p.2) (fields_stop c.args.levels (out c.loop-name.self) _ c.as_bytes.result.now c.in-Some.name.now c.in-Some.dtype.now (search rules)
    c.loop-name.name-iterator c.next.new.self c.in-Some.ensures.steps c.loop-name.invariant _ c.in_err-child.ensures)

pub fields-returns : goal.fields-returns
fields-returns t c =
    fields_end c.args.levels (out c.loop-name.self) _ c.loop-name.name-iterator
    (none_left borrowed_pair c.loop-name.name-iterator c.next.new.self c.next.result c.in-None.is c.next.ensures.steps) c.loop-name.invariant

pub named-returns-in_err-check_nul : goal.named-returns-in_err-check_nul
named-returns-in_err-check_nul t c =
    let p = err_from_is_err_and c.from_residual.result c.from_residual.ensures.1 in
    rw (p.1, p.2) (named_stops _ c.args.name.now _ (out c.args.self.now) c.in_err-check_nul.ensures)

pub named-returns : goal.named-returns
named-returns t c =
    named_written c.field.result (out c.field.new.self) (out c.args.self.now) (out c.args.self.now) c.args.levels c.args.name.now _ (label_of c.called.result) _ c.in_ok-check_nul.ensures c.called.ensures c.field.ensures

pub structure-returns : goal.structure-returns
structure-returns t c =
    struct_written c.fields.result (out c.fields.new.self) (out c.node.new.self) (out c.args.self.now) c.args.levels (label_of c.args.label) c.args.n c.nullable_flag.result c.nfields.result c.args.fields.now
    c.nullable_flag.ensures c.nfields.ensures c.in_ok-node.ensures c.fields.ensures

pub union-returns-in_err-format : goal.union-returns-in_err-format
union-returns-in_err-format t c =
    let p = err_from_is_err_and c.from_residual.result c.from_residual.ensures.1 in
    rw (p.1, p.2) (union_stops c.args.levels (label_of c.args.label) (out c.args.self.now) _ c.args.variants.now c.args.n c.type_ids.result.now c.type_ids.ensures c.in_err-format.ensures)

pub union-returns : goal.union-returns
union-returns t c =
    union_written c.variants.result (out c.variants.new.self) (out c.node.new.self) (out c.args.self.now) c.args.levels (label_of c.args.label) c.args.n c.nullable_flag.result c.len.result c.args.variants.now
    c.type_ids.result.now _ c.as_bytes-format.result.now c.type_ids.ensures c.in_ok-format.ensures (search rules) c.nullable_flag.ensures c.len.ensures c.in_ok-node.ensures c.variants.ensures

pub variants-loop-name-preserved : goal.variants-loop-name-preserved
variants-loop-name-preserved t c =
    variants_more c.args.levels (out c.loop-name.self) _ c.as_bytes.result.now c.in-Some.name.now c.in-Some.dtype.now (search rules)
    _ c.loop-name.name-iterator c.next.new.self c.in-Some.ensures.steps c.loop-name.invariant (out c.child.new.self) c.in_ok-child.ensures

pub variants-returns-in_err-child : goal.variants-returns-in_err-child
variants-returns-in_err-child t c =
    let p = err_from_is_err_and c.from_residual.result c.from_residual.ensures.1 in
    rw (p.1, p.2) (variants_stop c.args.levels (out c.loop-name.self) _ c.as_bytes.result.now c.in-Some.name.now c.in-Some.dtype.now (search rules)
    _ c.loop-name.name-iterator c.next.new.self c.in-Some.ensures.steps c.loop-name.invariant _ c.in_err-child.ensures)

pub variants-returns : goal.variants-returns
variants-returns t c =
    variants_end c.args.levels (out c.loop-name.self) _ c.loop-name.name-iterator
    (none_left borrowed_triple c.loop-name.name-iterator c.next.new.self c.next.result c.in-None.is c.next.ensures.steps) c.loop-name.invariant
