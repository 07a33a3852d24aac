-- SPDX-License-Identifier: Apache-2.0
-- SPDX-FileCopyrightText: Copyright the Vortex contributors

use Rattle.std.proofs.Common.{rules, ◌≢◌}
use Rattle.dtype_types.specs.declared.dtype.kinds.Kind.TheVariants as variants
use Rattle.dtype_types.specs.tree.Kinds.{kind}
use Rattle.dtype_types.specs.tree.TreeOf.{tree}
use Rattle.dtype_merging.proofs.Testing.{plainly_other}
use Rattle.dtype_merging.proofs.reading.is_plainly_readable.Goals as goal

pub returns-else-eq : goal.returns-else-eq
returns-else-eq c =
    let other : kind (tree c.args.a.now) ≢ variants.Null = search (rules, c.kind.ensures, c.eq.ensures, c.if-eq.false) in
    plainly_other c.eq_with_nullability_subset.result (tree c.args.a.now) (tree c.args.b.now) other c.eq_with_nullability_subset.ensures
