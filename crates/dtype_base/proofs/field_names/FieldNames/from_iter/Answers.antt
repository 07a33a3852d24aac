-- SPDX-License-Identifier: Apache-2.0
-- SPDX-FileCopyrightText: Copyright the Vortex contributors

use Rattle.dtype_base.proofs.field_names.FieldNames.from_iter.Goals as goal

-- the iterator's items, as the contract of `collect` has them
pub returns : goal.returns
returns g c =
    let run = c.in_ok-collect.ensures.runs tt in
    (c.into_iter.result, c.into_iter.ensures.into_iter_gives, (run.0, run.1, run.2, run.3.0))
