-- SPDX-License-Identifier: Apache-2.0
-- SPDX-FileCopyrightText: Copyright the Vortex contributors

use Rattle.std.proofs.Common.{rules}
use Rattle.std.proofs.lemmas.Result.{err_from_is_err_and}
use Rattle.c_arrow.specs.Added.{label_of, out}
use Rattle.c_arrow.specs.Views.{written}
use Rattle.c_arrow.proofs.Writing.{temporal_level_stops, temporal_written}
use Rattle.c_arrow.proofs.writer.Flat.temporal.Goals as goal

pub returns-in_err-level_if : goal.returns-in_err-level_if
returns-in_err-level_if c =
    let p = err_from_is_err_and c.from_residual-in_err-level_if.result c.from_residual-in_err-level_if.ensures.1 in
    rw (p.1, p.2) (temporal_level_stops c.args.levels (label_of c.args.label) (written c.args.temporal.now) (out c.args.self.now) _ _ c.in_ok-check_nul.ensures c.in_err-level_if.ensures)

pub returns : goal.returns
returns c =
    temporal_written c.args.levels (label_of c.args.label) (written c.args.temporal.now) (out c.args.self.now) c.leaf.result (out c.leaf.new.self) _ _ c.deref.result.now
    c.in_ok-check_nul.ensures c.in_ok-level_if.ensures (search rules) c.leaf.ensures
