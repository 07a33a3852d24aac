-- SPDX-License-Identifier: Apache-2.0
-- SPDX-FileCopyrightText: Copyright the Vortex contributors

-- The test of `SetEquality` returns true exactly if the two sets are equal. So it is an equivalence.
use Rattle.std.specs.Prelude.{◌≡◌, true, refl}
use Rattle.std.specs.Bool.{Decides}
use Rattle.std.specs.Cmp.{decided, IsEquivalence}
use Rattle.std.specs.FinSet as set
use Rattle.std.proofs.lemmas.Bool.{and_parts}
use Rattle.std.proofs.lemmas.Bool.Decides.{same_from_decides}
use Rattle.dtype_paths.specs.PathOrder.{PathSet}
use Rattle.dtype_paths.specs.PathOrderLaws.{path_cmp_total, same_tied}
use Rattle.dtype_paths.specs.SetEquality.{same_paths}

-- sets that contain each other are equal
pub within_both : (s t : PathSet) → set.is_subset s t ≡ true → set.is_subset t s ≡ true → s ≡ t
within_both s t a b = set.same_set path_cmp_total same_tied s t (λ q.
    same_from_decides (set.contains s q) (set.contains t q)
    (set.is_subset-contains path_cmp_total s t a q, set.is_subset-contains path_cmp_total t s b q)
    (λ h. h, λ h. h))

within_itself : (s : PathSet) → set.is_subset s s ≡ true
within_itself s = set.contains-is_subset path_cmp_total s s (λ q h. h)

pub same_paths-Decides : (s t : PathSet) → Decides (same_paths s t) (s ≡ t)
same_paths-Decides s t = (
  λ h. let both = and_parts (set.is_subset s t) (set.is_subset t s) h in within_both s t both.0 both.1,
  λ e. rw e (rw (within_itself t) refl),
)

pub same_paths_equiv : IsEquivalence same_paths
same_paths_equiv = decided same_paths same_paths-Decides
