-- SPDX-License-Identifier: Apache-2.0
-- SPDX-FileCopyrightText: Copyright the Vortex contributors

use Rattle.std.proofs.Common.{rules, ◌≡◌, ◌↔◌, List, MatchResult, Option, Some, None, IfSome, IsSome, IsTrue, refl, sym, ◌∙◌}
use Rattle.std.specs.FinSet as set
use Rattle.std.specs.Option.{option_map}
use Rattle.dtype_base.specs.declared.vortex_error.VortexError.TheVariants.{OutOfMemory}
use Rattle.dtype_types.specs.nullability.Nullable.{nullability}
use Rattle.dtype_types.specs.tree.Tree.{Tree}
use Rattle.dtype_types.specs.tree.TreeOf.{tree}
use Rattle.dtype_types.specs.tree.Valid.{Valid}
use Rattle.dtype_types.specs.values.Value.{Of, Value}
use Rattle.dtype_types.specs.declared.dtype.DType.{DType}
use Rattle.dtype_paths.specs.Along.{along}
use Rattle.dtype_paths.specs.At.{ExistsIn}
use Rattle.dtype_paths.specs.Covering.{covers}
use Rattle.dtype_paths.specs.Overlaps.{Overlaps}
use Rattle.dtype_paths.specs.PathOrder.{PathSet}
use Rattle.dtype_paths.specs.declared.field.Field.{Field}
use Rattle.dtype_paths.proofs.lemmas.SetCovers.{covers_word}
use Rattle.dtype_projection.specs.Projected.{projected}
use Rattle.dtype_projection.specs.Restricted.{restricted}
use Rattle.dtype_projection.proofs.lemmas.Parts.{kept_nullability}
use Rattle.dtype_projection.proofs.lemmas.Projections.{kept_as_it_was, exists_in_kept, valid_kept, kept_has_path, path_is_kept}
use Rattle.dtype_projection.proofs.lemmas.Restrictions.{of_restricted}
use Rattle.dtype_projection.proofs.project.project_paths.Goals as goal

-- what holds of the result r, where it is the projection of t to the paths of s
pub clauses : (t : Tree) (s : PathSet) (r : Option DType) → option_map tree r ≡ projected t (set.contains s) →
    (IsSome r ↔ ((p : List Field) × IsTrue (set.contains s p) × ExistsIn t p))
    × IfSome r (λ u. (q : List Field) → IsTrue (covers s q) → along (tree u) q ≡ along t q)
    × IfSome r (λ u. (q : List Field) → (ExistsIn (tree u) q ↔ (ExistsIn t q × ((p : List Field) × IsTrue (set.contains s p) × ExistsIn t p × Overlaps p q))))
    × IfSome r (λ u. nullability (tree u) ≡ nullability t)
    × (Valid t → IfSome r (λ u. Valid (tree u)))
    × IfSome r (λ u. (v : Value) → Of v t → Of (restricted t (set.contains s) v) (tree u))
clauses t s None is = ((λ i. cc, λ p. let k = path_is_kept p.0 t p.2.found (set.contains s) p.1 p.2.at in let q = is ∙ k.1 in cc), tt, tt, tt, λ h. tt, tt)
clauses t s (Some u) is = (
  (λ i. let l = kept_has_path t (tree u) (set.contains s) (sym is) in (l.path, l.holds, l.exists), λ p. refl),
  λ q c. let p = (covers_word s q).0 c in kept_as_it_was t (tree u) (set.contains s) p.0 q (sym is) p.1 p.2,
  λ q. exists_in_kept t (tree u) (set.contains s) q (sym is),
  kept_nullability t (tree u) (set.contains s) (sym is),
  valid_kept t (tree u) (set.contains s) (sym is),
  of_restricted t (tree u) (set.contains s) (sym is),
)

pub returns : goal.returns
returns c =
    let t = tree c.args.dtype.now in
    let s = c.args.paths.now in
    let part : MatchResult c.project.result (λ r. option_map tree r ≡ projected t (set.contains s)) (λ e. e ≡ OutOfMemory) = rw c.cursor.ensures.paths at c.project.ensures in
    search (rules, part, clauses t s)
