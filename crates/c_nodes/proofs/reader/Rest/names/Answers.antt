-- SPDX-License-Identifier: Apache-2.0
-- SPDX-FileCopyrightText: Copyright the Vortex contributors

use Rattle.std.proofs.Common.{map, string_bytes, ◌∷◌, []}
use Rattle.std.proofs.lemmas.List.{map-append}
use Rattle.c_nodes.specs.Read.{name_at}
use Rattle.c_nodes.proofs.Reading.{times_more}
use Rattle.c_nodes.proofs.reader.Rest.names.Goals as goal

pub loop-at-preserved : goal.loop-at-preserved
loop-at-preserved c =
    rw (c.in_ok-push.ensures.items, map-append string_bytes c.loop-at.names.items (c.in_ok-name.field-0 ∷ []))
    (times_more name_at (map string_bytes c.loop-at.names.items) c.args.wanted c.loop-at._at _ _ _ _ c.loop-at-test.true c.in_ok-name.ensures c.loop-at.invariant)
