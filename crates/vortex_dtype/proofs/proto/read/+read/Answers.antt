-- SPDX-License-Identifier: Apache-2.0
-- SPDX-FileCopyrightText: Copyright the Vortex contributors

use Rattle.std.proofs.Common.{rules, arith}
use Rattle.dtype_messages.specs.declared.pb.DtypeType.{the_lemmas}
use Rattle.vortex_dtype.specs.ReadInOrder.{read}
use Rattle.vortex_dtype.proofs.ReadInTurn.{ends, stops, read_more}
use Rattle.vortex_dtype.proofs.proto.read.+read.Goals as goal

-- ---- structs

pub loop-field-preserved : goal.loop-field-preserved
loop-field-preserved g t c = record {
  read = read_more _ _ _ c.field-item.result _ _ _ c.loop-field.invariant.read (omega (arith, c.loop-field-test.true)) c.field-item.is c.in_ok-read-in-Struct.ensures.gives c.in_ok-read-in-Struct.ensures.message (search rules);
  valid = search rules;
}

pub returns-in_err-read-in-Struct-clause-gives : goal.returns-in_err-read-in-Struct-clause-gives
unfolding read
returns-in_err-read-in-Struct-clause-gives g t c =
    let error = stops _ _ _ _ c.field-item.result c.in_err-read-in-Struct.field-0.0 c.from_residual-in_err-read-in-Struct.result c.loop-field.invariant.read (omega (arith, c.loop-field-test.true)) c.field-item.is c.in_err-read-in-Struct.ensures.gives (search rules) in
    search (rules, the_lemmas, error)

pub returns-after-loop-field-clause-gives : goal.returns-after-loop-field-clause-gives
unfolding read
returns-after-loop-field-clause-gives g t c = let all = ends _ _ _ _ c.loop-field.invariant.read (omega (arith, c.loop-field-test.false)) in search (rules, the_lemmas, all.0)

pub returns-after-loop-field-clause-message : goal.returns-after-loop-field-clause-message
returns-after-loop-field-clause-message g t c = let all = ends _ _ _ _ c.loop-field.invariant.read (omega (arith, c.loop-field-test.false)) in search (rules, the_lemmas, all.1)

-- ---- unions

pub loop-variant-preserved : goal.loop-variant-preserved
loop-variant-preserved g t c = record {
  read = read_more _ _ _ c.variant-item.result _ _ _ c.loop-variant.invariant.read (omega (arith, c.loop-variant-test.true)) c.variant-item.is c.in_ok-read-in-Union.ensures.gives c.in_ok-read-in-Union.ensures.message (search rules);
  valid = search rules;
}

pub returns-in_err-read-in-Union-clause-gives : goal.returns-in_err-read-in-Union-clause-gives
unfolding read
returns-in_err-read-in-Union-clause-gives g t c =
    let error = stops _ _ _ _ c.variant-item.result c.in_err-read-in-Union.field-0.0 c.from_residual-in_err-read-in-Union.result c.loop-variant.invariant.read (omega (arith, c.loop-variant-test.true)) c.variant-item.is c.in_err-read-in-Union.ensures.gives (search rules) in
    search (rules, the_lemmas, error)

pub returns-after-loop-variant-clause-gives : goal.returns-after-loop-variant-clause-gives
unfolding read
returns-after-loop-variant-clause-gives g t c = let all = ends _ _ _ _ c.loop-variant.invariant.read (omega (arith, c.loop-variant-test.false)) in search (rules, the_lemmas, all.0)

pub returns-after-loop-variant-clause-message : goal.returns-after-loop-variant-clause-message
returns-after-loop-variant-clause-message g t c = let all = ends _ _ _ _ c.loop-variant.invariant.read (omega (arith, c.loop-variant-test.false)) in search (rules, the_lemmas, all.1)
