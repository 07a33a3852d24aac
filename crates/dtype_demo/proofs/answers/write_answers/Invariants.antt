-- SPDX-License-Identifier: Apache-2.0
-- SPDX-FileCopyrightText: Copyright the Vortex contributors

use denote.Shadow.{shadow}
use denote.Text.{Utf8}
use Rattle.std.proofs.Common.{length}
use Rattle.vortex_dtype.specs.TreeOf.{tree}
use Rattle.dtype_demo.proofs.Covers.{Answered}
use Rattle.dtype_demo.proofs.answers.write_answers.Given as goal

abbrev pub invariant-loop-rest : goal.invariant-loop-rest
invariant-loop-rest g l = record {
  text : shadow (Utf8 l.rest);
  answered : Answered (tree l.dtype) (g.W.Write.contents l.initial.writer) (g.W.Write.contents l.writer) l.paths l.text l.rest;
}

abbrev pub decreases-loop-rest : goal.decreases-loop-rest
decreases-loop-rest g l = length l.rest
