-- SPDX-License-Identifier: Apache-2.0
-- SPDX-FileCopyrightText: Copyright the Vortex contributors

use Rattle.std.proofs.Common.{◌≡◌, ◌+◌, ◌-◌, ◌<◌, ◌^◌, get_or, [], ap, subst, sym, ◌∙◌, arith}
use Rattle.std.specs.List.{All}
use Rattle.std.proofs.lemmas.List.{get_or_default}
use Rattle.std.proofs.lemmas.List.Elements.{All-push}
use Rattle.dtype_base.specs.NameHashes.{hash_of, key_of}
use Rattle.dtype_base.specs.private.NameOrder.{IsKeyed, position_in, positions}
use Rattle.dtype_base.proofs.NameHashes.{entry_fits, hash_fits, key_of_entry, position_of_entry}
use Rattle.dtype_base.proofs.IndexEntries.{positions_push}
use Rattle.dtype_base.proofs.name_order.keyed_entries.Goals as goal

pub overflow_add-key : goal.overflow_add-key
unfolding key_of
overflow_add-key c =
    let bits = c.args.bits in
    let text = c.as_bytes.result.now in
    omega (arith, c.key_of-key.ensures, entry_fits bits (hash_of text) c.loop-position.position c.requires.bits (hash_fits text) (omega (arith, c.loop-position-test.true, c.requires.room)))

pub loop-position-preserved : goal.loop-position-preserved
unfolding key_of
loop-position-preserved c =
    let names = c.args.names.now in
    let bits = c.args.bits in
    let entries = c.loop-position.entries.items in
    let position = c.loop-position.position in
    let inv = c.loop-position.invariant in
    let within = c.loop-position-test.true in
    let room : position < 2 ^ bits = omega (arith, within, c.requires.room) in
    let pushed = c.push_reserved.ensures.items in
    let text = c.as_bytes.result.now in
    let name : text ≡ get_or names position [] = c.as_bytes.ensures.value ∙ c.as_str.ensures ∙ c.index-names-position.is ∙ get_or_default names position _ [] within in
    let entry = ap (λ k. k + position) c.key_of-key.ensures in
    let place : position_in bits (c.key_of-key.result + position) ≡ position = ap (position_in bits) entry ∙ position_of_entry bits (hash_of text) position room in record {
      in_order = ap (positions bits) pushed ∙ positions_push bits names entries _ position place inv.in_order;
      keyed = subst (All (IsKeyed names bits)) (sym pushed)
          (All-push (IsKeyed names bits) entries _ inv.keyed
          (record {
            within = omega (arith, place, within);
            key = ap (λ e. e - position_in bits e) entry ∙ key_of_entry bits (hash_of text) position room ∙ ap (key_of bits) (name ∙ ap (λ p. get_or names p []) (sym place));
          }));
      len = omega (arith, c.push_reserved.ensures.len, inv.len);
      room = omega (arith, c.push_reserved.ensures.capacity, inv.room);
    }
