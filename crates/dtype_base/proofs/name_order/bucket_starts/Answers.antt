-- SPDX-License-Identifier: Apache-2.0
-- SPDX-FileCopyrightText: Copyright the Vortex contributors

use Rattle.std.proofs.Common.{◌≡◌, ◌+◌, get_or, length, refl, ap, subst, sym, ◌∙◌, arith}
use Rattle.std.proofs.lemmas.List.{get_or_default}
use Rattle.dtype_base.specs.NameHashes.{bucket_of_key}
use Rattle.dtype_base.specs.private.NameOrder.{key_in}
use Rattle.dtype_base.proofs.Buckets.{Starting, starts_more, starts_same}
use Rattle.dtype_base.proofs.name_order.bucket_starts.Goals.{then-len-bucket+in_ok-resize, else-len-bucket}
use Rattle.dtype_base.proofs.name_order.bucket_starts.Goals as goal

pub loop-index-preserved : goal.loop-index-preserved
loop-index-preserved c =
    let entries = c.args.entries.now in
    let count = length entries in
    let bits = c.args.bits in
    let i = c.loop-index.index in
    let starts = c.loop-index.starts in
    let before = c.loop-index.invariant in
    let bucket = c.bucket_of_key-bucket in
    let key : bucket.result ≡ bucket_of_key count (key_in bits (get_or entries i 0)) = bucket.ensures.is ∙ ap (bucket_of_key count) (c.without_bits.ensures ∙ ap (key_in bits) (get_or_default entries i _ 0 c.loop-index-test.true)) in
    let within = bucket.ensures.within (omega (arith, c.loop-index-test.true)) in
    elim c.if-len-bucket.branch [
      | then-len-bucket+in_ok-resize w ↦
          let resized = w.resize.ensures in
          subst (λ v. Starting count bits entries (i + 1) v.items) (sym w.starts-is)
          (starts_more count bits entries c.requires.rising i bucket.result starts.items w.resize.new.self.items before c.loop-index-test.true key within
          (omega (arith, c.len.ensures, w.if-len-bucket.true, starts.ok)) (omega (arith, w.in_ok-resize.ensures.len, w.resize.new.self.ok))
          (λ b l. w.in_ok-resize.ensures.by_index.0 b 0 (omega (arith, l, c.len.ensures, w.if-len-bucket.true, starts.ok)) (omega (arith, l, starts.ok)))
          (λ b l m. w.in_ok-resize.ensures.by_index.1 b 0 refl (omega (arith, l, starts.ok)) m))
      | else-len-bucket w ↦
          subst (λ v. Starting count bits entries (i + 1) v.items) (sym w.starts-is)
          (starts_same count bits entries c.requires.rising i bucket.result starts.items before c.loop-index-test.true key (omega (arith, c.len.ensures, w.if-len-bucket.false, starts.ok)))
    ]
