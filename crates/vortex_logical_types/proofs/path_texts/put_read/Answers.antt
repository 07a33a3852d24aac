-- SPDX-License-Identifier: Apache-2.0
-- SPDX-FileCopyrightText: Copyright the Vortex contributors

use Rattle.std.proofs.Common.{refl}
use Rattle.vortex_logical_types.proofs.Unread.{path_unread}
use Rattle.vortex_logical_types.proofs.path_texts.put_read.Goals as goal

pub returns-in-Err : goal.returns-in-Err
returns-in-Err c = path_unread c.args.text.now c.in-Err.why c.hint_of_path-hint.result c.fail_to_read.result _ _ _ _ c.in-Err.ensures.errors c.in-Err.ensures.only c.in-Err.ensures.place c.hint_of_path-hint.ensures.place c.hint_of_path-hint.ensures.help c.fail_to_read.ensures refl
