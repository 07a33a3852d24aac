-- SPDX-License-Identifier: Apache-2.0
-- SPDX-FileCopyrightText: Copyright the Vortex contributors

use Rattle.std.proofs.lemmas.Result.{MatchResult-weaker}
use Rattle.dtype_types.specs.tree.TreeOf.{extension_metadata, tree}
use Rattle.vortex_dtype.proofs.MeaningLaws.{kept_by_lawful}
use Rattle.vortex_dtype.proofs.session.DTypeSession.deserialize.Goals as goal

pub returns-clause-again : goal.returns-clause-again
returns-clause-again g c = λ valid.
    MatchResult-weaker c.extension_of.result (c.extension_of.ensures.kept valid)
    (λ e kept. kept_by_lawful _ c.args.self.now (λ b. (g.dyn-1-met b.vtable).0.lawful b.value) c.args.id.now c.args.metadata.now (extension_metadata e) (tree c.args.storage) c.extension_of.ensures.bytes valid kept)
    (λ _ h. h)
