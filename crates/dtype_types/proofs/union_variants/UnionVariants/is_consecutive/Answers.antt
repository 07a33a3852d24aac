-- SPDX-License-Identifier: Apache-2.0
-- SPDX-FileCopyrightText: Copyright the Vortex contributors

use Rattle.std.proofs.Common.{rules, tests, arith, length, sym}
use Rattle.std.proofs.lemmas.Iterator.{YieldsList-from_range, YieldsList-from_slice, YieldsList-from_zip, same_from_all}
use Rattle.std.proofs.lemmas.List.FromFn.{length-range_with_len}
use Rattle.dtype_types.specs.parts.Lookups.{variant_tags}
use Rattle.dtype_types.specs.tree.TreeOf.{variant_list}
use Rattle.dtype_types.proofs.union_variants.UnionVariants.is_consecutive.Goals as goal

pub returns : goal.returns
returns c =
    let gs = variant_tags (variant_list c.args.self.now) in
    let n = length gs in
    same_from_all c.all.new.self _ _ _ _ c.all.ensures.ran (YieldsList-from_zip (YieldsList-from_slice gs (search rules)) (YieldsList-from_range 0 n n (search rules) (omega arith))) (sym (length-range_with_len 0 n))
    (λ x q k. search (rules, tests)) (λ x q k. search (rules, tests))
