-- SPDX-License-Identifier: Apache-2.0
-- SPDX-FileCopyrightText: Copyright the Vortex contributors

use Rattle.vortex_dtype.proofs.MeaningLaws.{lawful_session}
use Rattle.vortex_dtype.proofs.ReadInTurn.{gives_accepts}
use Rattle.vortex_dtype.proofs.proto.DTypeDTypeProto.from_proto.Goals as goal

pub returns-clause-reads : goal.returns-clause-reads
returns-clause-reads g c =
    gives_accepts _ (lawful_session _ c.args.session.now (λ b. (g.dyn-1-met b.vtable).0.lawful b.value)) _ _ c.read.ensures.message c.read.ensures.gives
