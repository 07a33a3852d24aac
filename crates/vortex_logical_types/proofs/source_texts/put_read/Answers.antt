-- SPDX-License-Identifier: Apache-2.0
-- SPDX-FileCopyrightText: Copyright the Vortex contributors

use Rattle.std.proofs.Common.{refl}
use Rattle.vortex_logical_types.proofs.Unread.{type_unread}
use Rattle.vortex_logical_types.proofs.source_texts.put_read.Goals as goal

pub returns-in-Err : goal.returns-in-Err
returns-in-Err c = type_unread c.args.text.now c.in-Err.why c.hint_of-hint.result c.fail_to_read.result _ _ _ _ c.in-Err.ensures.spelled c.in-Err.ensures.faults c.fail_to_read.ensures refl
