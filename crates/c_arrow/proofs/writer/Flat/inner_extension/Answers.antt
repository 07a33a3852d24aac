-- SPDX-License-Identifier: Apache-2.0
-- SPDX-FileCopyrightText: Copyright the Vortex contributors

use Rattle.std.proofs.Common.{ap, ◌∙◌}
use Rattle.dtype_text.specs.Read.{shown}
use Rattle.c_arrow.specs.Added.{label_of, out, with_field}
use Rattle.c_arrow.specs.Views.{written}
use Rattle.c_arrow.specs.Write.{inner_extension}
use Rattle.c_arrow.proofs.FaultFacts.{stops_from_fault}
use Rattle.c_arrow.proofs.Writing.{inner_refused}
use Rattle.c_arrow.proofs.writer.Flat.inner_extension.Goals as goal

pub returns-in-None : goal.returns-in-None
returns-in-None c =
    stops_from_fault c.refused.result _ _ c.refused.ensures
    (ap (λ o. with_field (inner_extension c.args.levels (label_of c.args.label) (shown written o)) (out c.args.self.now)) c.in-None.is ∙ inner_refused c.args.levels (label_of c.args.label) (out c.args.self.now))
