-- SPDX-License-Identifier: Apache-2.0
-- SPDX-FileCopyrightText: Copyright the Vortex contributors

use Rattle.std.proofs.Common.{map, arith}
use Rattle.std.specs.String.{string_bytes}
use Rattle.std.proofs.lemmas.Grind.{common_steps}
use Rattle.dtype_demo.proofs.cover.write_cover.Goals as goal

pub returns-clause-written : goal.returns-clause-written
returns-clause-written g c = record {
  texts = map (λ t. string_bytes t) c.in_ok-texts.texts.items;
  cover = c.in_ok-texts.ensures.cover;
  written = grind (arith, common_steps);
}
