-- SPDX-License-Identifier: Apache-2.0
-- SPDX-FileCopyrightText: Copyright the Vortex contributors

use Rattle.vortex_logical_types.proofs.PathParts.{put_parts}
use Rattle.vortex_logical_types.proofs.path_messages.vlt_core_path_from_message.Goals as goal

pub returns-in-Ok : goal.returns-in-Ok
returns-in-Ok c = put_parts c.in-Ok.message c.put_described.result _ _ _ _ _ _ c.put_described.ensures c.in-Ok.ensures.parts c.in-Ok.ensures.right
