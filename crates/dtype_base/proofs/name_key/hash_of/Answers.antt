-- SPDX-License-Identifier: Apache-2.0
-- SPDX-FileCopyrightText: Copyright the Vortex contributors

use Rattle.std.proofs.Common.{◌∙◌, ◌-◌, ap, arith, length}
use Rattle.std.proofs.lemmas.List.{take_rest}
use Rattle.dtype_base.specs.NameHashes.{big_endian, mixed}
use Rattle.dtype_base.proofs.NameHashes.{all_hashed, one_hashed}
use Rattle.dtype_base.proofs.name_key.hash_of.Goals as goal

pub loop-rest-preserved : goal.loop-rest-preserved
loop-rest-preserved c =
    let l = c.loop-rest in
    one_hashed l.hash c.mixed-hash.result l.rest.now _ c.args.text.now l.invariant (omega (arith, c.loop-rest-test.true))
    (c.mixed-hash.ensures ∙ ap (mixed l.hash) c.first_word.ensures) (take_rest l.rest.now 8)

pub returns : goal.returns
returns c =
    let l = c.loop-rest in
    let n = c.args.text.now in
    c.mixed-2.ensures ∙ ap (mixed l.hash) (c.first_word-2.ensures ∙ ap (big_endian 8) (take_rest n (length n - 8)))
    ∙ all_hashed l.hash l.rest.now n l.invariant (omega (arith, c.loop-rest-test.false))
