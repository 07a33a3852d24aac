-- SPDX-License-Identifier: Apache-2.0
-- SPDX-FileCopyrightText: Copyright the Vortex contributors

use Rattle.std.proofs.Common.{refl}
use Rattle.std.proofs.lemmas.Slice.Eq.{bytes_eq-Decides, slice_eq-Decides}
use Rattle.dtype_base.proofs.laws.names_are_equal_where_their_bytes_are.Goals as goal

pub returns-clause-lists : goal.returns-clause-lists
returns-clause-lists c = λ a b. slice_eq-Decides bytes_eq-Decides a b _ refl
