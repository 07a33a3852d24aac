-- SPDX-License-Identifier: Apache-2.0
-- SPDX-FileCopyrightText: Copyright the Vortex contributors

use Rattle.std.proofs.Common.{◌≡◌, ◌↔◌, map, take}
use Rattle.std.specs.FinSet as set
use Rattle.std.specs.List.{AllByRecursion}
use Rattle.std.specs.Option.{option_map}
use Rattle.dtype_types.specs.tree.TreeOf.{tree}
use Rattle.vortex_dtype.specs.PathOrder.{set_of}
use Rattle.vortex_dtype.specs.Projected.{projected}
use Rattle.vortex_dtype.specs.Unresolved.{unresolved}
use Rattle.scan_planner.specs.Needs.{Opens, OpensOnce}
use Rattle.scan_planner.specs.declared.files.HowToRead.{HowToRead}
use Rattle.scan_planner.proofs.plan.plan_files.Given as goal

-- the plans so far are those of the files so far, and each clause is true of them
abbrev pub invariant-loop-file : goal.invariant-loop-file
invariant-loop-file l = record {
  of_files : map (λ f. tree f.file.now) l.plans.items ≡ map tree (take l.file-index l.files);
  how : AllByRecursion (λ f. f.how ≡ HowToRead.AsItIs ↔ tree f.file.now ≡ tree l.table) l.plans.items;
  opened : AllByRecursion (λ f. Opens l.needed (tree f.file.now) f.columns) l.plans.items;
  opened_once : AllByRecursion (λ f. OpensOnce l.needed (tree f.file.now) f.columns) l.plans.items;
  projections : AllByRecursion (λ f. option_map tree f.read ≡ projected (tree f.file.now) (set.contains l.needed)) l.plans.items;
  lacks : AllByRecursion (λ f. set_of f.missing.items ≡ unresolved l.needed (tree f.file.now)) l.plans.items;
}
