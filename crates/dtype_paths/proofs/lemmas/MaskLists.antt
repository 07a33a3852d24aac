-- SPDX-License-Identifier: Apache-2.0
-- SPDX-FileCopyrightText: Copyright the Vortex contributors

-- What lists of masks select, said by what sets of paths have and cover. `mask_lists` names all of it in one line.
use Rattle.std.specs.Prelude.{◌≡◌, ◌↔◌, IsTrue, List, map, refl}
use Rattle.std.specs.FinSet as set
use Rattle.std.specs.List.{Any}
use Rattle.std.proofs.Common.{ap, subst, sym, ◌∙◌, rules}
use Rattle.dtype_paths.specs.Covering.{covers, least}
use Rattle.dtype_paths.specs.In.{In}
use Rattle.dtype_paths.specs.PathOrder.{PathSet, path_cmp}
use Rattle.dtype_paths.specs.declared.field.Field.{Field}
use Rattle.dtype_paths.specs.declared.field_mask.FieldMask.{FieldMask}
use Rattle.dtype_paths.specs.declared.field_mask.FieldMask.TheVariants.{Prefix, Exact}
use Rattle.dtype_paths.proofs.lemmas.ListMembers.{contains-map, contains-mapped}
use Rattle.dtype_paths.proofs.lemmas.SetCovers.{covers_word, same_coverage}
use Rattle.dtype_paths.proofs.lemmas.SetMembers.{of_has, of_only}

-- the prefixes of some paths select what their set covers
pub prefixes_select : (ms : List FieldMask) (ps : List (List Field)) (q : List Field) → ms ≡ map Prefix ps → Any (λ m. In m q) ms ↔ IsTrue (covers (set.from_list ps) q)
prefixes_select ms ps q is = (
  λ some.
      let a = subst (Any (λ m. In m q)) is some in
      let w = contains-map Prefix ps a.1 (a.0, a.2, a.3) in
      (covers_word (set.from_list ps) q).1 (w.0, of_has ps w.0 w.1, subst (λ m. In m q) (sym w.2) a.4),
  λ h.
      let w = (covers_word (set.from_list ps) q).0 h in
      let c = contains-mapped Prefix w.0 ps (of_only ps w.0 w.1) in
      subst (Any (λ m. In m q)) (sym is) (c.0, Prefix w.0, c.1, c.2, w.2),
)

-- the prefixes of a set's least paths select what the set covers
pub least_prefixes_select : (ms : List FieldMask) (ps : List (List Field)) (s : PathSet) (q : List Field) → ms ≡ map Prefix ps → set.from_list ps ≡ least s → Any (λ m. In m q) ms ↔ IsTrue (covers s q)
least_prefixes_select ms ps s q is cover =
    let same = same_coverage ps s cover q in
    let p = prefixes_select ms ps q is in
    (λ a. sym same ∙ p.0 a, λ h. p.1 (same ∙ h))

-- the exact masks of some paths select these
pub exact_masks_select : (ms : List FieldMask) (ps : List (List Field)) (q : List Field) → ms ≡ map Exact ps → Any (λ m. In m q) ms ↔ IsTrue (set.contains (set.from_list {R = path_cmp} ps) q)
exact_masks_select ms ps q is = (
  λ some.
      let a = subst (Any (λ m. In m q)) is some in
      let w = contains-map Exact ps a.1 (a.0, a.2, a.3) in
      let same : q ≡ w.0 = subst (λ m. In m q) (sym w.2) a.4 in
      ap (set.contains (set.from_list {R = path_cmp} ps)) same ∙ of_has ps w.0 w.1,
  λ h.
      let c = contains-mapped Exact q ps (of_only ps q h) in
      subst (Any (λ m. In m q)) (sym is) (c.0, Exact q, c.1, c.2, refl),
)

-- a mask of a path of the set selects only what the set covers
pub prefix_selects_covered : (m : FieldMask) (s : PathSet) (p q : List Field) → m ≡ Prefix p → IsTrue (set.contains s p) → In m q → IsTrue (covers s q)
prefix_selects_covered m s p q is has selected = (covers_word s q).1 (p, has, subst (λ x. In x q) is selected)

-- an exact mask of a path that the set covers likewise
pub exact_selects_covered : (m : FieldMask) (s : PathSet) (p q : List Field) → m ≡ Exact p → IsTrue (covers s p) → In m q → IsTrue (covers s q)
exact_selects_covered m s p q is covered selected = search rules

pub ruleset mask_lists = (prefixes_select, least_prefixes_select, exact_masks_select, prefix_selects_covered, exact_selects_covered)
