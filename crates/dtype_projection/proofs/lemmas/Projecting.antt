-- SPDX-License-Identifier: Apache-2.0
-- SPDX-FileCopyrightText: Copyright the Vortex contributors

-- What callers ask of projections: of one projected again, of what the least paths keep, and of its nullability.
use Rattle.std.proofs.Common.{◌≡◌, List, [], IsSome, IsTrue, Option, Some, None, true, refl, ap, sym, subst, ◌∙◌}
use Rattle.std.specs.FinSet as set
use Rattle.std.specs.Option.{option_map}
use Rattle.dtype_types.specs.nullability.Nullable.{nullability}
use Rattle.dtype_types.specs.tree.Tree.{Tree}
use Rattle.dtype_types.specs.tree.TreeOf.{tree}
use Rattle.dtype_types.specs.declared.dtype.DType.{DType}
use Rattle.dtype_paths.specs.Along.{along}
use Rattle.dtype_paths.specs.At.{At, ExistsIn}
use Rattle.dtype_paths.specs.Covering.{covers}
use Rattle.dtype_paths.specs.Overlaps.{Overlaps}
use Rattle.dtype_paths.specs.PathOrder.{PathSet, path_cmp}
use Rattle.dtype_paths.specs.declared.field.Field.{Field}
use Rattle.dtype_paths.proofs.lemmas.SetMembers.{insert_has, one_only}
use Rattle.dtype_paths.proofs.lemmas.Walks.{along-At, At-along}
use Rattle.dtype_projection.specs.Projected.{PathPredicate, projected}
use Rattle.dtype_projection.proofs.lemmas.Parts.{covered_is_kept, covered_set, kept_nullability, none_of_either, projected_once, projection_of_projection, same_for_least}
use Rattle.dtype_projection.proofs.lemmas.Projections.{exists_in_kept, kept_root}

-- projecting again to the same set gives the same
pub projected_same : (t u : Tree) (s : PathSet) → Some u ≡ projected t (set.contains s) → projected u (set.contains s) ≡ projected t (set.contains s)
projected_same t u s e = projected_once t u s (sym e) ∙ e

-- projecting again, to a set whose paths the first set covers, gives what projecting to that set gives
pub projected_further : (t u : Tree) (s r : PathSet) → Some u ≡ projected t (set.contains s) → ((q : List Field) → IsTrue (set.contains r q) → IsTrue (covers s q)) → projected u (set.contains r) ≡ projected t (set.contains r)
projected_further t u s r e c = projection_of_projection t u s r (sym e) (λ q is x. c q is)

-- where the first keeps nothing, the second doesn't
pub nothing_further : (t : Tree) (s r : PathSet) → None ≡ projected t (set.contains s) → ((q : List Field) → IsTrue (set.contains r q) → IsTrue (covers s q)) → projected t (set.contains r) ≡ None
nothing_further t s r e c = none_of_either t (set.contains s) (set.contains r) (record { covered = λ q is x. covered_set s q (c q is) }) (sym e)

-- a projection is nullable where the type is
pub projected_nullability : (t u : Tree) (w : PathPredicate) → Some u ≡ projected t w → nullability u ≡ nullability t
projected_nullability t u w e = kept_nullability t u w (sym e)

-- where two types have the same along a path
pub at_alike : (t u x : Tree) (p : List Field) → along u p ≡ along t p → At t p x → At u p x
at_alike t u x p same a = along-At u p x (same ∙ At-along t p x a)

pub exists_alike : (t u : Tree) (p : List Field) → along u p ≡ along t p → ExistsIn t p → ExistsIn u p
exists_alike t u p same e = record { found = e.found; at = at_alike t u e.found p same e.at }

-- what is covered and is in the type is opened
pub covered_opened : (r : Option DType) (t : Tree) (s : PathSet) (q : List Field) → option_map tree r ≡ projected t (set.contains s) → covers s q ≡ true → ExistsIn t q → IsSome r
covered_opened None t s q is c x = let k = covered_is_kept t (set.contains s) q (covered_set s q c) x in let e = is ∙ k.1 in cc
covered_opened (Some d) t s q is c x = refl

-- for the root the whole type is opened
pub root_opened : (r : Option DType) (t : Tree) (s : PathSet) → option_map tree r ≡ projected t (set.contains s) → set.contains s [] ≡ true → option_map tree r ≡ Some t
root_opened r t s is root = is ∙ kept_root t (set.contains s) root

pub ruleset projecting = (at_alike, exists_alike, covered_opened, root_opened, projected_same, projected_further, nothing_further, same_for_least, projected_nullability)

-- ---- of one path, and of a path that none overlaps

-- of the set of one path a member exists exactly where that path does, as the clause `some` of `project_paths` asks
pub exists_one : (t : Tree) (p q : List Field) → IsTrue (set.contains (set.insert (set.empty {R = path_cmp}) p) q) → ExistsIn t q → ExistsIn t p
exists_one t p q h x = subst (ExistsIn t) (one_only p q h) x

pub exists_one_of : (t : Tree) (s e : PathSet) (p q : List Field) → IsTrue (set.contains s q) → s ≡ set.insert e p → e ≡ set.empty → ExistsIn t q → ExistsIn t p
exists_one_of t s e p q h one none x = exists_one t p q (ap (λ z. set.contains z q) (sym (one ∙ ap (λ z. set.insert z p) none)) ∙ h) x

-- what no path of the set overlaps is gone
pub untouched_gone : (t u : Tree) (s : PathSet) (q : List Field) → Some u ≡ projected t (set.contains s) → ((p : List Field) → IsTrue (set.contains s p) → Overlaps p q → ⊥) → ExistsIn u q → ⊥
untouched_gone t u s q is apart x = let w = (exists_in_kept t u (set.contains s) q (sym is)).0 x in apart w.1.0 w.1.1 w.1.3

pub ruleset projecting_one = (exists_one, exists_one_of, insert_has, untouched_gone)
