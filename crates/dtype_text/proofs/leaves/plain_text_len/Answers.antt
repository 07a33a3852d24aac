-- SPDX-License-Identifier: Apache-2.0
-- SPDX-FileCopyrightText: Copyright the Vortex contributors

use Rattle.std.proofs.Common.{rules}
use Rattle.std.proofs.lemmas.List.Sorted.{answers_always}
use Rattle.dtype_text.specs.Bare.{is_special}
use Rattle.dtype_text.proofs.Specials.{plain_none, plain_some}
use Rattle.dtype_text.proofs.leaves.plain_text_len.Goals as goal

pub returns-in-Some : goal.returns-in-Some
returns-in-Some c =
    let begins = c.in-Some.ensures.cases in
    let found = begins.1 is_special (answers_always _ _ _ (λ f a r g called. search rules)) in
    plain_some c.args.text.now c.in-Some.before begins.0 c.utf8.text found.0 found.1 begins.3

pub returns-in-None : goal.returns-in-None
returns-in-None c = plain_none c.args.text.now c.utf8.text (c.in-None.ensures.cases is_special (answers_always _ _ _ (λ f a r g called. search rules)))
