-- SPDX-License-Identifier: Apache-2.0
-- SPDX-FileCopyrightText: Copyright the Vortex contributors

use Rattle.dtype_merging.proofs.lemmas.Reading.{reads_back, reads_itself, reads_more, same_reads}
use Rattle.dtype_merging.proofs.laws.reading_is_an_order.Goals as goal

pub returns-clause-itself : goal.returns-clause-itself
returns-clause-itself c = reads_itself

pub returns-clause-more : goal.returns-clause-more
returns-clause-more c = reads_more

pub returns-clause-back : goal.returns-clause-back
returns-clause-back c = reads_back

pub returns-clause-same : goal.returns-clause-same
returns-clause-same c = same_reads
