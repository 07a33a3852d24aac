-- SPDX-License-Identifier: Apache-2.0
-- SPDX-FileCopyrightText: Copyright the Vortex contributors

use Rattle.std.proofs.Common.{◌≡◌, ◌⊎◌, Ok, Err, MatchResult, subst}
use Rattle.dtype_base.specs.declared.vortex_error.VortexError.TheVariants.{OutOfMemory}
use Rattle.dtype_messages.specs.MessageOf.{message}
use Rattle.dtype_types.specs.tree.TreeOf.{tree}
use Rattle.vortex_dtype.specs.ReadInOrder.{read}
use Rattle.vortex_logical_types.proofs.messages.read_strictly.Goals as goal

pub returns : goal.returns
returns c =
    subst (λ m. MatchResult c.from_proto.result (λ d. read m (message c.args.proto.now) ≡ Ok (tree d)) (λ e. (e ≡ OutOfMemory) ⊎ (read m (message c.args.proto.now) ≡ Err e)))
    c.new-session.ensures c.from_proto.ensures.in_order
