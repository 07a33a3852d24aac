-- SPDX-License-Identifier: Apache-2.0
-- SPDX-FileCopyrightText: Copyright the Vortex contributors

use Rattle.std.proofs.Common.{◌≡◌, ℕ, ◌<◌, ◌≤◌, ◌+◌, ◌-◌, length, min, slice_index, ap, subst, sym, ◌∙◌, arith}
use Rattle.std.proofs.lemmas.List.{get_or_default}
use Rattle.dtype_base.specs.NameHashes.{bucket_of_key, key_of}
use Rattle.dtype_base.specs.private.NameOrder.{IsBucketFor}
use Rattle.dtype_base.proofs.lemmas.Lookups.{longest_some}
use Rattle.dtype_base.proofs.Buckets.{bucket_holds, longest_fits, longest_is, part, part_len}
use Rattle.dtype_base.proofs.name_search.bucket_entries.Goals.{After-window}
use Rattle.dtype_base.proofs.name_search.bucket_entries.Goals as goal

abbrev first : After-window → ℕ
first c = min c.index.result.now (length c.args.index.now.entries.items - c.args.index.now.longest)

whole : (c : After-window) → first c + c.args.index.now.longest ≤ length c.args.index.now.entries.items
whole c = omega (arith, longest_fits c.args.names.now c.args.index.now c.requires.index)

taken : (c : After-window) → c.window.result.now ≡ part c.args.index.now.entries.items (first c) (first c + c.args.index.now.longest)
taken c = c.window.ensures ∙ ap (λ es. part es (min c.index.result.now (length es - c.args.index.now.longest)) (min c.index.result.now (length es - c.args.index.now.longest) + c.args.index.now.longest)) c.deref.ensures.value

pub returns-clause-bucket : goal.returns-clause-bucket
returns-clause-bucket c =
    let h = c.requires.index in
    let names = c.args.names.now in
    let bucket = c.bucket_of_key-bucket in
    let count : c.len-count.result ≡ length names = omega (arith, c.len-count.ensures, h.len, c.args.index.now.entries.ok) in
    let is : bucket.result ≡ bucket_of_key (length names) (key_of c.args.index.now.bits c.args.name.now) = bucket.ensures.is ∙ (λ i. bucket_of_key (count i) (c.requires.key i)) in
    let below : bucket.result < length names = omega (arith, bucket.ensures.within (omega (arith, c.requires.some, c.len-count.ensures)), count) in
    let most = h.longest.most bucket.result (omega (arith, below, h.starts.len)) in
    let start : c.index.result.now ≡ slice_index c.args.index.now.starts.items bucket.result = c.index.ensures ∙ get_or_default c.args.index.now.starts.items bucket.result _ 0 (omega (arith, below, h.starts.len)) in
    let end = h.starts.within (bucket.result + 1) (omega (arith, below)) in
    subst (IsBucketFor names c.args.index.now.bits c.args.index.now.discriminator c.args.name.now) (sym (taken c))
    (bucket_holds names _ _ _ _ c.args.name.now h.entries h.starts bucket.result is below (first c) (first c + c.args.index.now.longest) (whole c) (omega (arith, start)) (omega (arith, start, most, end)))

pub returns-clause-count : goal.returns-clause-count
returns-clause-count c =
    omega (arith, ap length (taken c), part_len c.args.index.now.entries.items (first c) (first c + c.args.index.now.longest) (whole c), longest_is c.args.names.now c.args.index.now c.requires.index)

pub returns-clause-some : goal.returns-clause-some
returns-clause-some c = omega (arith, returns-clause-count c, longest_some c.args.names.now (omega (arith, c.requires.some, c.requires.index.len)))
