-- SPDX-License-Identifier: Apache-2.0
-- SPDX-FileCopyrightText: Copyright the Vortex contributors

-- How two sets of paths are related: one within the other, no path in both, equal. `set_relations` names all that
-- callers need in one line.
use Rattle.std.specs.Prelude.{◌≡◌, ◌↔◌, ◌⊎◌, ◌≤◌, IsTrue, List, true, false, Bool, ◌&&◌, refl}
use Rattle.std.specs.FinSet as set
use Rattle.std.specs.List.{Contains}
use Rattle.std.proofs.Common.{ap, arith, inl, inr, sym, cond, ◌+◌, ◌∙◌}
use Rattle.std.proofs.lemmas.Bool.{false≢true, false_from_ne_true}
use Rattle.std.proofs.lemmas.Bool.Decides.{same_from_decides}
use Rattle.dtype_paths.proofs.lemmas.Cases.{by_bool}
use Rattle.dtype_paths.proofs.lemmas.Counts.{len_of, part_len}
use Rattle.dtype_paths.proofs.lemmas.SetMembers.{contains_empty, contains_union, from_list-Decides, insert_only, same_by}
use Rattle.dtype_paths.specs.PathOrder.{PathSet, set_of}
use Rattle.dtype_paths.specs.PathOrderLaws.{path_cmp_total}
use Rattle.dtype_paths.specs.SetEqualityLaws.{within_both}
use Rattle.dtype_paths.specs.declared.field.Field.{Field}
use Rattle.dtype_paths.specs.private.Trie.{AreIn}

-- ---- a set within another

-- by members
pub within_has : (s t : PathSet) (q : List Field) → IsTrue (set.is_subset s t) → IsTrue (set.contains s q) → IsTrue (set.contains t q)
within_has s t q within h = set.is_subset-contains path_cmp_total s t within q h

pub has_within : (s t : PathSet) → ((q : List Field) → IsTrue (set.contains s q) → IsTrue (set.contains t q)) → IsTrue (set.is_subset s t)
has_within s t each = set.contains-is_subset path_cmp_total s t each

-- it has no more paths
pub within_len : (s t : PathSet) → IsTrue (set.is_subset s t) → set.len s ≤ set.len t
within_len s t within = part_len s t (λ q h. within_has s t q within h)

-- and all of them, where it has as many
pub within_whole : (s t : PathSet) → IsTrue (set.is_subset s t) → set.len s ≡ set.len t → s ≡ t
within_whole s t within long = within_both s t within (has_within t s (λ q h. by_bool (set.contains s q) (λ y. y) (λ new. absurd (more q h new))))
  where
    more : (q : List Field) → IsTrue (set.contains t q) → set.contains s q ≡ false → ⊥
    more q h new =
        let one_more : set.len (set.insert s q) ≡ set.len s + 1 = set.len-insert path_cmp_total s q ∙ ap (λ b. cond b (set.len s) (set.len s + 1)) new in
        let fewer : set.len (set.insert s q) ≤ set.len t = part_len (set.insert s q) t (λ r i. inserted r (insert_only s q r i)) in
        omega (arith, one_more, fewer, long)
      where
        inserted : (r : List Field) → (r ≡ q) ⊎ (set.contains s r ≡ true) → IsTrue (set.contains t r)
        inserted r (inl e) = rw e h
        inserted r (inr i) = within_has s t r within i

-- ---- no path in both

pub contains_both : (s t : PathSet) (q : List Field) → set.contains (set.intersection s t) q ≡ (set.contains s q && set.contains t q)
contains_both s t q = set.contains-intersection path_cmp_total s t q

-- by members
pub apart_lacks : (s t : PathSet) (q : List Field) → set.intersection s t ≡ set.empty → IsTrue (set.contains s q) → set.contains t q ≡ false
apart_lacks s t q none h = grind (arith, contains_both s t q, contains_empty q, ap (λ x. set.contains x q) none, h)

pub lacks_apart : (s t : PathSet) → ((q : List Field) → IsTrue (set.contains s q) → set.contains t q ≡ false) → set.intersection s t ≡ set.empty
lacks_apart s t each = same_by _ _ (λ q. grind (arith, contains_both s t q, contains_empty q, each q))

-- in either order
pub both_swap : (s t : PathSet) → set.intersection s t ≡ set.intersection t s
both_swap s t = same_by _ _ (λ q. grind (arith, contains_both s t q, contains_both t s q))

-- ---- told of lists of paths

pub told_within : (ps qs : List (List Field)) (s t : PathSet) (b : Bool) → set_of ps ≡ s → set_of qs ≡ t → (IsTrue b ↔ AreIn ps qs true) → b ≡ set.is_subset s t
told_within ps qs s t b is of told = same_from_decides b (set.is_subset s t) told (
  λ h q c. (λ y. of_in q (within_has s t q h (in_of q c)), λ y. refl),
  λ each. has_within s t (λ q h. at_other q ((each q (at_first q h)).0 refl)),
)
  where
    in_of : (q : List Field) → Contains ps q → IsTrue (set.contains s q)
    in_of q c = ap (λ x. set.contains x q) (sym is) ∙ (from_list-Decides ps q).1 c

    at_first : (q : List Field) → IsTrue (set.contains s q) → Contains ps q
    at_first q h = (from_list-Decides ps q).0 (ap (λ x. set.contains x q) is ∙ h)

    of_in : (q : List Field) → IsTrue (set.contains t q) → Contains qs q
    of_in q h = (from_list-Decides qs q).0 (ap (λ x. set.contains x q) of ∙ h)

    at_other : (q : List Field) → Contains qs q → IsTrue (set.contains t q)
    at_other q c = ap (λ x. set.contains x q) (sym of) ∙ (from_list-Decides qs q).1 c

pub told_apart : (ps qs : List (List Field)) (s t : PathSet) (b : Bool) → set_of ps ≡ s → set_of qs ≡ t → (IsTrue b ↔ AreIn ps qs false) → IsTrue b ↔ (set.intersection s t ≡ set.empty)
told_apart ps qs s t b is of told = (
  λ h. lacks_apart s t (λ q i. false_from_ne_true (set.contains t q) (λ j. false≢true ((told.0 h q (at_first q i)).1 (of_in q j)))),
  λ none. told.1 (λ q c. (λ y. absurd (false≢true y), λ d. absurd (false≢true (sym (apart_lacks s t q none (in_of q c)) ∙ at_other q d)))),
)
  where
    in_of : (q : List Field) → Contains ps q → IsTrue (set.contains s q)
    in_of q c = ap (λ x. set.contains x q) (sym is) ∙ (from_list-Decides ps q).1 c

    at_first : (q : List Field) → IsTrue (set.contains s q) → Contains ps q
    at_first q h = (from_list-Decides ps q).0 (ap (λ x. set.contains x q) is ∙ h)

    of_in : (q : List Field) → IsTrue (set.contains t q) → Contains qs q
    of_in q h = (from_list-Decides qs q).0 (ap (λ x. set.contains x q) of ∙ h)

    at_other : (q : List Field) → Contains qs q → IsTrue (set.contains t q)
    at_other q c = ap (λ x. set.contains x q) (sym of) ∙ (from_list-Decides qs q).1 c

pub ruleset set_relations = (within_has, has_within, within_len, within_whole, within_both, apart_lacks, lacks_apart, both_swap)

-- what each relation means for the paths, one by one
pub ruleset relations_by_paths = (within_has, has_within, apart_lacks, lacks_apart, same_by, contains_union, len_of)
