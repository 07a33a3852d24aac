-- SPDX-License-Identifier: Apache-2.0
-- SPDX-FileCopyrightText: Copyright the Vortex contributors

use Rattle.std.proofs.Common.{◌∙◌, ◌<◌, length, subst, sym, arith, rules}
use Rattle.vortex_logical_types.proofs.Several.{fault_here, fault_later, names_step, texts_more}
use Rattle.std.specs.List.{AllByRecursion}
use Rattle.std.specs.Str.{IsUtf8}
use Rattle.vortex_logical_types.specs.Several.{whole}
use Rattle.vortex_logical_types.proofs.names.names_of.Goals as goal

pub returns-in_err-name : goal.returns-in_err-name
returns-in_err-name c =
    let lt : c.loop-length.length-index < length c.args.lengths.now = omega (arith, c.loop-length-test.true) in
    let fault = fault_here whole c.loop-length.rest.now c.args.lengths.now c.loop-length.length-index lt in
    let before = c.loop-length.invariant.fault in
    search (rules, fault, before)

pub loop-length-preserved : goal.loop-length-preserved
loop-length-preserved c =
    let lt : c.loop-length.length-index < length c.args.lengths.now = omega (arith, c.loop-length-test.true) in record {
      cut =
          c.loop-length.invariant.cut
          ∙ names_step c.loop-length.all.items _ c.loop-length.rest.now _ _ c.args.lengths.now c.loop-length.length-index lt
          c.in_ok-name.ensures.0 c.in_ok-name.ensures.2 c.in_ok-name.ensures.3 c.in_ok-push_name.ensures.0;
      texts = subst (AllByRecursion IsUtf8) (sym c.in_ok-push_name.ensures.0) (texts_more IsUtf8 c.loop-length.all.items _ c.loop-length.invariant.texts c.in_ok-push_name.ensures.1);
      fault = λ code f.
          c.loop-length.invariant.fault code
          (fault_later whole c.loop-length.rest.now _ c.args.lengths.now c.loop-length.length-index code lt c.in_ok-name.ensures.0 c.in_ok-name.ensures.1 c.in_ok-name.ensures.3 f);
    }
