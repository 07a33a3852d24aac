-- SPDX-License-Identifier: Apache-2.0
-- SPDX-FileCopyrightText: Copyright the Vortex contributors

use Rattle.std.proofs.Common.{◌<◌, ◌≤◌, map, subst, sym, arith}
use Rattle.dtype_messages.specs.Message.{messages}
use Rattle.dtype_messages.specs.MessageOf.{message}
use Rattle.dtype_messages.specs.declared.pb.DType.{DType}
use Rattle.c_nodes.specs.Depth.{depth, depth_all}
use Rattle.c_nodes.specs.Greatest.{greatest, greatest_all}
use Rattle.c_nodes.proofs.Lists.{depth_at, greatest_at}
use Rattle.c_nodes.proofs.writer.Flat.+writing.Goals as goal

pub all-returns-in_err-part-clause-too_deep : goal.all-returns-in_err-part-clause-too_deep
all-returns-in_err-part-clause-too_deep t c =
    let below = depth_at c.args.protos.now c.loop-proto.proto-index c.proto-item.result (omega (arith, c.loop-proto-test.true)) in
    let item : depth (message c.proto-item.result) < depth_all (messages (map message c.args.protos.now)) =
    subst (λ (d : DType). depth (message d) < depth_all (messages (map message c.args.protos.now))) (sym c.proto-item.is) below
    in grind (arith, item)

pub all-returns-in_err-part-clause-too_great : goal.all-returns-in_err-part-clause-too_great
all-returns-in_err-part-clause-too_great t c =
    let within = greatest_at c.args.protos.now c.loop-proto.proto-index c.proto-item.result (omega (arith, c.loop-proto-test.true)) in
    let item : greatest (message c.proto-item.result) ≤ greatest_all (messages (map message c.args.protos.now)) =
    subst (λ (d : DType). greatest (message d) ≤ greatest_all (messages (map message c.args.protos.now))) (sym c.proto-item.is) within
    in grind (arith, item)
