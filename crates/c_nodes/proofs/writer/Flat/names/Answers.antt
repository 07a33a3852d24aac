-- SPDX-License-Identifier: Apache-2.0
-- SPDX-FileCopyrightText: Copyright the Vortex contributors

use Rattle.std.proofs.Common.{◌≤◌, length, map, string_bytes, subst, sym, arith}
use Rattle.std.specs.declared.alloc.Global.{Global}
use Rattle.std.specs.declared.string.String.{String}
use Rattle.c_nodes.specs.Greatest.{longest}
use Rattle.c_nodes.proofs.Lists.{longest_at}
use Rattle.c_nodes.proofs.writer.Flat.names.Goals as goal

pub returns-in_err-text-clause-too_great : goal.returns-in_err-text-clause-too_great
returns-in_err-text-clause-too_great c =
    let within = longest_at c.args.names.now c.loop-name.name-index c.name-item.result (omega (arith, c.loop-name-test.true)) in
    let item : length (string_bytes c.name-item.result) ≤ longest (map string_bytes c.args.names.now) =
    subst (λ (n : String Global). length (string_bytes n) ≤ longest (map string_bytes c.args.names.now)) (sym c.name-item.is) within
    in grind (arith, item)
