-- SPDX-License-Identifier: Apache-2.0
-- SPDX-FileCopyrightText: Copyright the Vortex contributors

use Rattle.dtype_text.proofs.AtTheFront.{type_front, path_front, step_front, name_front, quoted_front, decimal_front}
use Rattle.dtype_text.proofs.front_laws.what_is_read_at_the_front_is_spelled.Goals as goal

pub returns-clause-types : goal.returns-clause-types
returns-clause-types c = type_front

pub returns-clause-paths : goal.returns-clause-paths
returns-clause-paths c = path_front

pub returns-clause-steps : goal.returns-clause-steps
returns-clause-steps c = step_front

pub returns-clause-names : goal.returns-clause-names
returns-clause-names c = name_front

pub returns-clause-quoted : goal.returns-clause-quoted
returns-clause-quoted c = quoted_front

pub returns-clause-decimals : goal.returns-clause-decimals
returns-clause-decimals c = decimal_front
