-- SPDX-License-Identifier: Apache-2.0
-- SPDX-FileCopyrightText: Copyright the Vortex contributors

use Rattle.dtype_text.proofs.AtTheFront.{type_behind, path_behind, step_behind, name_behind, quoted_behind, decimal_behind}
use Rattle.dtype_text.proofs.front_laws.what_is_spelled_at_the_front_is_read.Goals as goal

pub returns-clause-types : goal.returns-clause-types
returns-clause-types c = type_behind

pub returns-clause-paths : goal.returns-clause-paths
returns-clause-paths c = path_behind

pub returns-clause-steps : goal.returns-clause-steps
returns-clause-steps c = step_behind

pub returns-clause-names : goal.returns-clause-names
returns-clause-names c = name_behind

pub returns-clause-quoted : goal.returns-clause-quoted
returns-clause-quoted c = quoted_behind

pub returns-clause-decimals : goal.returns-clause-decimals
returns-clause-decimals c = decimal_behind
