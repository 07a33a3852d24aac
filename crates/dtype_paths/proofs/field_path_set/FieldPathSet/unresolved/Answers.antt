-- SPDX-License-Identifier: Apache-2.0
-- SPDX-FileCopyrightText: Copyright the Vortex contributors

use Rattle.std.proofs.Common.{◌∙◌, ap, not, is_some, rules}
use Rattle.std.specs.FinSet as set
use Rattle.std.proofs.lemmas.Fn.{filter_same}
use Rattle.dtype_types.specs.tree.TreeOf.{tree}
use Rattle.dtype_paths.specs.Along.{along}
use Rattle.dtype_paths.specs.PathOrder.{path_cmp}
use Rattle.dtype_paths.proofs.lemmas.Unresolved.{each_unresolved, lent_once, lent_unresolved, unresolved_test, none_unresolved}
use Rattle.dtype_paths.proofs.field_path_set.FieldPathSet.unresolved.Goals as goal

pub returns : goal.returns
returns c =
    let t = tree c.args.dtype.now in
    let left = filter_same _ (λ x. not (is_some (along t x.now))) _ (λ x b f' k. search (rules, unresolved_test)) _ _ c.retain.ensures.filtered in
    let ok = lent_unresolved _ c.retain.new.self.items c.args.self.now t (ap (set.from_list {R = path_cmp}) c.in_ok-paths.ensures.ok ∙ c.self.view_is) left in
    record {
      ok = ok;
      once = lent_once _ _ t c.in_ok-paths.ensures.once left;
      each = each_unresolved _ c.args.self.now t ok;
      none = none_unresolved _ c.args.self.now t ok;
    }
