-- SPDX-License-Identifier: Apache-2.0
-- SPDX-FileCopyrightText: Copyright the Vortex contributors

use Rattle.std.proofs.Common.{rules, arith, take, ◌++◌, ◌≡◌, Ok, length-append, length-take}
use Rattle.std.proofs.KnownBytes.{Consumes-trans}
use Rattle.dtype_demo.proofs.input.read_all.Goals as goal

pub returns-in_err-extend_from_slice-clause-no_more : goal.returns-in_err-extend_from_slice-clause-no_more
returns-in_err-extend_from_slice-clause-no_more g c =
    let count = c.in_ok-count.count in
    let given : c.read.result ≡ Ok count = search rules in
    let read = rw given at c.read.ensures.bytes in
    let bound = rw given at c.read.ensures.bound in
    let room = simp length-take at c.read.auto.buf in
    (c.loop-buffer.bytes.items ++ take count c.read.new.buf, Consumes-trans _ _ _ _ _ c.loop-buffer.invariant.read read.0, simp (length-append, length-take) (omega (arith, bound, room)))
