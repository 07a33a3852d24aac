-- SPDX-License-Identifier: Apache-2.0
-- SPDX-FileCopyrightText: Copyright the Vortex contributors

use Rattle.std.proofs.Common.{rules}
use Rattle.dtype_native.proofs.Powers.{less_one}
use Rattle.dtype_native.proofs.native_decimal_type.NativeDecimalType.max_by_precision.Goals as goal

pub returns : goal.returns
returns g c = search (rules, less_one)
