-- SPDX-License-Identifier: Apache-2.0
-- SPDX-FileCopyrightText: Copyright the Vortex contributors

use Rattle.std.proofs.Common.{◌≡◌, map, take}
use Rattle.dtype_base.proofs.field_names.FieldNames.eq_texts.Given as goal

abbrev pub invariant-loop-i : goal.invariant-loop-i
invariant-loop-i l = take l.i l.items ≡ map (λ t. t.now) (take l.i l.texts)
