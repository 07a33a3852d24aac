-- SPDX-License-Identifier: Apache-2.0
-- SPDX-FileCopyrightText: Copyright the Vortex contributors

use Rattle.c_arrow.proofs.FormatsAgain.{letter_again, decimal_again, fixed_again, bytes_again, union_again}
use Rattle.c_arrow.proofs.laws.formats_that_are_written_are_read.Goals as goal

pub returns-clause-primitive : goal.returns-clause-primitive
returns-clause-primitive c = letter_again

pub returns-clause-decimal : goal.returns-clause-decimal
returns-clause-decimal c = decimal_again

pub returns-clause-fixed_size_list : goal.returns-clause-fixed_size_list
returns-clause-fixed_size_list c = fixed_again

pub returns-clause-fixed_size_binary : goal.returns-clause-fixed_size_binary
returns-clause-fixed_size_binary c = bytes_again

pub returns-clause-union : goal.returns-clause-union
returns-clause-union c = union_again
