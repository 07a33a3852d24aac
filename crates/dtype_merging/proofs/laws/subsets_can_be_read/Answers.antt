-- SPDX-License-Identifier: Apache-2.0
-- SPDX-FileCopyrightText: Copyright the Vortex contributors

use Rattle.dtype_merging.proofs.lemmas.Reading.{reads_nullable, sub_reads}
use Rattle.dtype_merging.proofs.laws.subsets_can_be_read.Goals as goal

pub returns-clause-subset : goal.returns-clause-subset
returns-clause-subset c = sub_reads

pub returns-clause-nullable : goal.returns-clause-nullable
returns-clause-nullable c = reads_nullable
