-- SPDX-License-Identifier: Apache-2.0
-- SPDX-FileCopyrightText: Copyright the Vortex contributors

use Rattle.std.proofs.Common.{◌≡◌, Some, subst}
use Rattle.dtype_text.specs.Paths.{whole_path_at}
use Rattle.dtype_text.specs.Read.{Fails}
use Rattle.dtype_text.proofs.PathAgain.{path_fails, path_is}
use Rattle.dtype_text.specs.Places.{IsAt, whole_path_stop}
use Rattle.dtype_text.proofs.PathEnds.{path_stops}
use Rattle.dtype_text.proofs.Positions.{placed}
use Rattle.dtype_text.proofs.path_reader.read_path.Goals as goal

pub returns-in-Ok-clause-only : goal.returns-in-Ok-clause-only
returns-in-Ok-clause-only c =
    path_is c.args.text.now c.in-Ok.path (subst (λ bytes. whole_path_at bytes ≡ Some c.in-Ok.path) c.as_bytes-bytes.ensures.value c.in-Ok.ensures.read)

pub returns-in-Err-clause-only : goal.returns-in-Err-clause-only
returns-in-Err-clause-only c =
    path_fails c.args.text.now _ c.in-Err.fault c.of.result (subst (λ bytes. Fails c.in-Err.fault (whole_path_at bytes)) c.as_bytes-bytes.ensures.value c.in-Err.ensures.read) c.of.ensures

pub returns-in-Err-clause-place : goal.returns-in-Err-clause-place
returns-in-Err-clause-place c = placed c.args.text.now _ c.in-Err.fault c.of.result c.as_bytes-bytes.ensures.value c.of.ensures

pub returns-in-Err-clause-stops : goal.returns-in-Err-clause-stops
returns-in-Err-clause-stops c =
    path_stops c.args.text.now _ c.in-Err.fault c.of.result c.as_bytes-bytes.ensures.value
    (subst (λ bytes. Fails c.in-Err.fault (whole_path_at bytes)) c.as_bytes-bytes.ensures.value c.in-Err.ensures.read)
    (subst (λ bytes. IsAt (whole_path_stop bytes) c.in-Err.fault) c.as_bytes-bytes.ensures.value c.in-Err.ensures.place) c.of.ensures
