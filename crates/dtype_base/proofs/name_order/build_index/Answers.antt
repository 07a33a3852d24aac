-- SPDX-License-Identifier: Apache-2.0
-- SPDX-FileCopyrightText: Copyright the Vortex contributors

use Rattle.std.specs.List.Sorted.{IsNonDecreasingBy}
use Rattle.std.proofs.Common.{◌≡◌, length, subst, sym, ◌∙◌, arith}
use Rattle.dtype_base.specs.private.NameOrder.{AreStarts, IsLongest, key_in, positions}
use Rattle.dtype_base.proofs.NameHashes.{few_bits}
use Rattle.dtype_base.proofs.IndexEntries.{index_of, keys_rise}
use Rattle.dtype_base.proofs.NameSearch.{all_positions, as_many_positions}
use Rattle.dtype_base.proofs.name_order.build_index.Goals as goal

pub bucket_starts-requires-clause-rising : goal.bucket_starts-requires-clause-rising
bucket_starts-requires-clause-rising c =
    let bits = c.position_bits-bits.result in
    subst (IsNonDecreasingBy (key_in bits)) (sym c.deref.ensures.value) (keys_rise bits c.args.names.now _ c.in_ok-discriminator.ensures.rising)

pub returns : goal.returns
returns c =
    let names = c.args.names.now in
    let bits = c.position_bits-bits.result in
    let made = c.in_ok-entries.ensures in
    let sorted = c.in_ok-discriminator.ensures in
    let entries = c.sort_entries.new.entries.items in
    let index = index_of bits names c.in_ok-discriminator.discriminator c.in_ok-entries.entries.items entries made.ok made.keyed sorted.each sorted.rising sorted.ok in
    let len : length entries ≡ length names = sym (as_many_positions bits entries) ∙ all_positions names (positions bits entries) index.order.each in record {
      bits = c.position_bits-bits.ensures;
      few = few_bits _ (length names) c.position_bits-bits.ensures (omega arith);
      len = len;
      entries = index;
      starts = subst (λ n. AreStarts n bits entries c.in_ok-starts.starts.items) len (subst (λ es. AreStarts (length es) bits es c.in_ok-starts.starts.items) c.deref.ensures.value c.in_ok-starts.ensures);
      longest = subst (λ xs. IsLongest xs c.longest_bucket-longest.result) c.deref-2.ensures.value c.longest_bucket-longest.ensures;
    }
