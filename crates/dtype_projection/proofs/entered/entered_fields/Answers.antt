-- SPDX-License-Identifier: Apache-2.0
-- SPDX-FileCopyrightText: Copyright the Vortex contributors

use Rattle.std.proofs.Common.{rules}
use Rattle.std.proofs.lemmas.List.Sorted.{IsNonDecreasingBy-from_sort_by_key}
use Rattle.dtype_types.specs.parts.Lookups.{field_names}
use Rattle.dtype_types.specs.tree.TreeOf.{children}
use Rattle.dtype_paths.specs.Cursors.{contains_below}
use Rattle.dtype_projection.proofs.EnteredFields.{all_entered}
use Rattle.dtype_projection.proofs.entered.entered_fields.Goals as goal

pub returns : goal.returns
returns c =
    let sorted = c.sort_unstable_by_key.ensures in
    all_entered (contains_below c.args.cursor.now) (field_names (children c.args.fields.now)) _ _ c.in_ok-entered.ensures sorted.permutation
    (IsNonDecreasingBy-from_sort_by_key (λ e. e.0) _ sorted.sorted (λ a r f' k. search rules))
