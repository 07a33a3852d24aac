-- SPDX-License-Identifier: Apache-2.0
-- SPDX-FileCopyrightText: Copyright the Vortex contributors

use Rattle.std.proofs.Common.{[], refl, sym, ◌∙◌, rules}
use Rattle.std.proofs.KnownBytes.{Appends-nil}
use Rattle.dtype_demo.proofs.Covers.{answered_more, output}
use Rattle.dtype_demo.proofs.answers.write_answers.Goals as goal

pub loop-rest-init : goal.loop-rest-init
loop-rest-init g c = record { text = search rules; answered = record { lines = []; before = refl; written = Appends-nil _; gathered = c.new-paths.ensures.empty } }

pub loop-rest-preserved : goal.loop-rest-preserved
loop-rest-preserved g c = record {
  text = search rules;
  answered = answered_more _ _ _ _ _ _ _ _ _ _ _ c.loop-rest.invariant.answered c.first_line.ensures.lines c.in_ok-path.ensures.path c.in_ok-answer.ensures.written c.in_ok-insert.ensures.inserted;
}

pub returns-clause-written : goal.returns-clause-written
returns-clause-written g c = output _ _ _ _ _ _ _ _ c.loop-rest.invariant.answered (sym c.is_empty.ensures ∙ c.loop-rest-test.false) c.in_ok-write_cover.ensures.written c.flush.ensures.bytes
