-- SPDX-License-Identifier: Apache-2.0
-- SPDX-FileCopyrightText: Copyright the Vortex contributors

use Rattle.std.proofs.Common.{sym, ap, ◌∙◌}
use Rattle.std.proofs.lemmas.Slice.Zip.{firsts-zip}
use Rattle.std.specs.Map.{keys_of}
use Rattle.dtype_types.proofs.named.Named.select.Goals as goal

pub returns : goal.returns
returns g c = rw (sym (ap keys_of c.self.view_is) ∙ firsts-zip c.self.inside.names c.self.inside.dtypes.items c.self.invariant) c.select.ensures
