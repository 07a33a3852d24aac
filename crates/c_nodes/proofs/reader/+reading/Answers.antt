-- SPDX-License-Identifier: Apache-2.0
-- SPDX-FileCopyrightText: Copyright the Vortex contributors

use Rattle.std.proofs.Common.{map, ◌∷◌, [], Ok, ap, sym}
use Rattle.std.proofs.lemmas.List.{map-append}
use Rattle.std.proofs.lemmas.Result.{err_from_is_err_and}
use Rattle.dtype_messages.specs.Message.{Message}
use Rattle.dtype_messages.specs.MessageOf.{message}
use Rattle.c_nodes.specs.Read.{part_at, extension_by}
use Rattle.c_nodes.specs.Rests.{left}
use Rattle.c_nodes.proofs.Reading.{times_more, times_stops}
use Rattle.c_nodes.proofs.reader.+reading.Goals as goal

pub read_all-returns-in_err-read_part : goal.read_all-returns-in_err-read_part
read_all-returns-in_err-read_part t c =
    let p = err_from_is_err_and c.from_residual-in_err-read_part.result c.from_residual-in_err-read_part.ensures.1 in
    rw (p.1, p.2) (times_stops (part_at c.args.levels) (map message c.loop-at.protos.items) c.args.wanted c.loop-at._at _ _ c.in_err-read_part.field-0.0 c.loop-at-test.true c.in_err-read_part.ensures c.loop-at.invariant)

pub read_all-loop-at-preserved : goal.read_all-loop-at-preserved
read_all-loop-at-preserved t c =
    rw (c.in_ok-push.ensures.items, map-append message c.loop-at.protos.items (c.in_ok-read_part.field-0 ∷ []))
    (times_more (part_at c.args.levels) (map message c.loop-at.protos.items) c.args.wanted c.loop-at._at _ _ _ _ c.loop-at-test.true c.in_ok-read_part.ensures c.loop-at.invariant)

pub read_extension-returns : goal.read_extension-returns
unfolding extension_by
read_extension-returns t c =
    rw (c.in_ok-id.ensures, c.in_ok-metadata.ensures, c.in_ok-storage_dtype.ensures)
    (ap (λ (m : Message). Ok (m, left c.read_child.new.rest)) (sym c.in_ok-made_extension.ensures.made))
