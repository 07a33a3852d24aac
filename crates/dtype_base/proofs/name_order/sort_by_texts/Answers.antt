-- SPDX-License-Identifier: Apache-2.0
-- SPDX-FileCopyrightText: Copyright the Vortex contributors

use Rattle.std.proofs.Common.{rules, is_lt}
use Rattle.std.proofs.lemmas.List.Sorted.{ranks_by}
use Rattle.std.proofs.lemmas.Fn.{always_returns_same}
use Rattle.dtype_base.specs.private.NameOrder.{entry_cmp}
use Rattle.dtype_base.proofs.IndexEntries.{entry_total}
use Rattle.dtype_base.proofs.name_order.sort_by_texts.Goals as goal

pub returns-clause-rising : goal.returns-clause-rising
returns-clause-rising c =
    let bits = c.args.bits in
    let names = c.args.names.now in
    c.in_ok-sort_by.ensures.sorted (λ e f. is_lt (entry_cmp bits names e f)) (ranks_by (entry_total bits names) (λ e. e)) (always_returns_same _ _ _ (λ a r f k. search rules))
