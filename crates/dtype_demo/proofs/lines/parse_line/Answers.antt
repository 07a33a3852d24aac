-- SPDX-License-Identifier: Apache-2.0
-- SPDX-FileCopyrightText: Copyright the Vortex contributors

use Rattle.std.proofs.Common.{lit<, arith}
use Rattle.std.proofs.lemmas.Grind.{common_steps}
use Rattle.std.proofs.lemmas.Iterator.Consumers.{YieldsList-end}
use Rattle.std.proofs.lemmas.Iterator.Splits.{YieldsList-from_str_split}
use Rattle.dtype_demo.proofs.lines.parse_line.Goals as goal

pub returns-clause-path : goal.returns-clause-path
returns-clause-path c =
    let road = YieldsList-from_str_split {s = c.into_iter-part-iterator.result} 46 c.args.line.now (lit< tt) (cc) (cc) (cc) in
    let all = (YieldsList-end road c.loop-part.yielded c.loop-part.part-iterator c.loop-part.yielded_by c.next.result c.next.new.self c.in-None.is c.next.ensures.steps).0 in
    grind (arith, common_steps, all)
