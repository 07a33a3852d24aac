-- SPDX-License-Identifier: Apache-2.0
-- SPDX-FileCopyrightText: Copyright the Vortex contributors

-- The paths that `into_iter` gives, one by one: a list of the least paths of a set.
use Rattle.std.specs.Prelude.{◌≡◌, ◌↔◌, IsTrue, List, ◌∷◌, true, refl}
use Rattle.std.specs.FinSet as set
use Rattle.std.specs.List.{Any, Contains, starts_with}
use Rattle.std.proofs.Common.{ap, sym, ◌∙◌}
use Rattle.dtype_paths.specs.Beginning.{Beginning}
use Rattle.dtype_paths.specs.Covering.{covers, least}
use Rattle.dtype_paths.specs.Equality.{same_field}
use Rattle.dtype_paths.specs.PathOrder.{PathSet}
use Rattle.dtype_paths.specs.declared.field.Field.{Field}
use Rattle.dtype_paths.proofs.lemmas.SetCovers.{covers_any, covers_least, covers_member, least_begins, least_word}
use Rattle.dtype_paths.proofs.lemmas.SetMembers.{insert_has, of_only}

-- The first parts of these say nothing: they show a search the call to match.

-- a list covers a path exactly where the path starts with one of it
pub listed_begun : (ps : List (List Field)) (q : List Field) → (covers (set.from_list ps) q ≡ covers (set.from_list ps) q) × (IsTrue (covers (set.from_list ps) q) ↔ Any (λ p. IsTrue (starts_with same_field q p)) ps)
listed_begun ps q = (refl, covers_any ps q)

-- and so does a set, where the list is its cover
pub cover_begun : (s : PathSet) (q : List Field) → (covers s q ≡ covers s q) × ((cover : List (List Field)) → set.from_list cover ≡ least s → IsTrue (covers s q) ↔ Any (λ p. IsTrue (starts_with same_field q p)) cover)
cover_begun s q = (
  refl,
  λ cover is.
      let same : covers (set.from_list cover) q ≡ covers s q = ap (λ x. covers x q) is ∙ covers_least s q in
      let a = covers_any cover q in
      (λ h. a.0 (same ∙ h), λ b. sym same ∙ a.1 b),
)

-- one of a cover is a prefix of each member
pub member_begun : (s : PathSet) (q : List Field) → (set.contains s q ≡ set.contains s q) × ((cover : List (List Field)) → set.from_list cover ≡ least s → IsTrue (set.contains s q) → (p : List Field) × Contains cover p × Beginning p q)
member_begun s q = (
  refl,
  λ cover is h.
      let w = least_begins s q (covers_member s q h) in
      (w.0, of_only cover w.0 (ap (λ x. set.contains x w.0) is ∙ w.1), w.2),
)

-- the first of it is a member
pub cover_has_first : (p : List Field) (ps : List (List Field)) (s : PathSet) → set.from_list (p ∷ ps) ≡ least s → set.contains s p ≡ true
cover_has_first p ps s is = ((least_word s p).0 (ap (λ x. set.contains x p) (sym is) ∙ insert_has (set.from_list ps) p)).0
