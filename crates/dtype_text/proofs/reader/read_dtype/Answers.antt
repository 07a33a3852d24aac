-- SPDX-License-Identifier: Apache-2.0
-- SPDX-FileCopyrightText: Copyright the Vortex contributors

use Rattle.std.proofs.Common.{◌≡◌, subst}
use Rattle.dtype_types.specs.tree.TreeOf.{tree}
use Rattle.dtype_text.specs.Outcome.{got, Stops}
use Rattle.dtype_text.specs.Types.{whole_at}
use Rattle.dtype_text.proofs.Whole.{found_of, read_of, read_as, fails_of, fails_as, faults_of}
use Rattle.dtype_text.proofs.reader.read_dtype.Goals as goal

pub returns-in-Ok-clause-found : goal.returns-in-Ok-clause-found
returns-in-Ok-clause-found c = found_of c.args.text.now c.in-Ok.dtype (subst (λ bs. whole_at bs ≡ got (tree c.in-Ok.dtype)) c.as_bytes-bytes.ensures.value c.in-Ok.ensures)

pub returns-in-Ok-clause-only : goal.returns-in-Ok-clause-only
returns-in-Ok-clause-only c = read_of c.args.text.now c.in-Ok.dtype (subst (λ bs. whole_at bs ≡ got (tree c.in-Ok.dtype)) c.as_bytes-bytes.ensures.value c.in-Ok.ensures)

pub returns-in-Ok-clause-spelled : goal.returns-in-Ok-clause-spelled
returns-in-Ok-clause-spelled c = read_as c.args.text.now c.in-Ok.dtype (subst (λ bs. whole_at bs ≡ got (tree c.in-Ok.dtype)) c.as_bytes-bytes.ensures.value c.in-Ok.ensures)

pub returns-in-Err-clause-only : goal.returns-in-Err-clause-only
returns-in-Err-clause-only c = fails_of c.args.text.now _ c.in-Err.fault c.of.result (subst (λ bs. Stops c.in-Err.fault (whole_at bs)) c.as_bytes-bytes.ensures.value c.in-Err.ensures) c.of.ensures

pub returns-in-Err-clause-spelled : goal.returns-in-Err-clause-spelled
returns-in-Err-clause-spelled c = fails_as c.args.text.now _ c.in-Err.fault c.of.result (subst (λ bs. Stops c.in-Err.fault (whole_at bs)) c.as_bytes-bytes.ensures.value c.in-Err.ensures) c.of.ensures

pub returns-in-Err-clause-faults : goal.returns-in-Err-clause-faults
returns-in-Err-clause-faults c =
    faults_of c.args.text.now _ c.in-Err.fault c.of.result c.as_bytes-bytes.ensures.value (subst (λ bs. Stops c.in-Err.fault (whole_at bs)) c.as_bytes-bytes.ensures.value c.in-Err.ensures) c.of.ensures
