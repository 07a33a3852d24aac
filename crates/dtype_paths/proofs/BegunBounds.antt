-- SPDX-License-Identifier: Apache-2.0
-- SPDX-FileCopyrightText: Copyright the Vortex contributors

-- How many paths are begun at least and at most, by the steps of the least paths.
use Rattle.std.proofs.Common.{◌≡◌, ℕ, ◌+◌, ◌≤◌, ◌<◌, List, [], ◌∷◌, ◌++◌, length, length-append, map, suc, take, IsTrue, ap, ◌∙◌, inl, inr, refl, sym, arith}
use Rattle.std.specs.FinSet as set
use Rattle.std.specs.List.{Contains, flat_map, range_with_len, sum_by}
use Rattle.std.proofs.lemmas.Bool.{false≢true}
use Rattle.std.proofs.Math.Seq.{take-append_seam}
use Rattle.std.proofs.lemmas.List.FromFn.{get_or-map-range_with_len, length-map-range_with_len}
use Rattle.std.proofs.lemmas.List.Concat.{length-flat_map}
use Rattle.std.proofs.lemmas.Map.Made.{is_member-Decides, IsDistinct-from_AllPairs, length-le_from_is_member}
use Rattle.dtype_paths.specs.Covering.{IsBegun, IsCountOf, least}
use Rattle.dtype_paths.specs.PathOrder.{PathSet}
use Rattle.dtype_paths.specs.EqualityLaws.{same_path-Decides, same_path_equiv}
use Rattle.dtype_paths.specs.declared.field.Field.{Field}
use Rattle.dtype_paths.proofs.lemmas.Counts.{least_none}
use Rattle.dtype_paths.proofs.lemmas.SetMembers.{contains_empty}
use Rattle.dtype_paths.proofs.lemmas.ListMembers.{contains-head, contains-tail, contains-flat_map}

-- the prefixes of a path, but for the root
abbrev starts : List Field → List (List Field)
starts p = map (λ k. take k p) (range_with_len 1 (length p))

length-starts : (p : List Field) → length (starts p) ≡ length p
length-starts p = length-map-range_with_len (λ k. take k p) 1 (length p)

starts-has : (f : Field) (q p rest : List Field) → p ≡ (f ∷ q) ++ rest → Contains (starts p) (f ∷ q)
starts-has f q p rest e =
    let long : length q < length p = omega (arith, ap length e, length-append (f ∷ q) rest) in
    let taken : take (suc (length q)) p ≡ f ∷ q = rw e (take-append_seam (f ∷ q) rest) in (
      length q,
      omega (arith, length-starts p, long),
      get_or-map-range_with_len (λ k. take k p) 1 (length p) (length q) (suc (length q)) (f ∷ q) long (omega arith) ∙ taken,
    )

-- what is begun is the root, or a prefix of one of these with a step
begun-has : (s : PathSet) (ls : List (List Field)) (q : List Field) → ((p : List Field) → IsTrue (set.contains (least s) p) → Contains ls p) → IsBegun s q → Contains ([] ∷ flat_map starts ls) q
begun-has s ls [] has b = contains-head [] (flat_map starts ls)
begun-has s ls (f ∷ q) has (inl e) = absurd (cc)
begun-has s ls (f ∷ q) has (inr b) =
    contains-tail [] (f ∷ q) (flat_map starts ls)
    (contains-flat_map starts b.0 (f ∷ q) ls (has b.0 b.1) (starts-has f q b.0 b.2.0 b.2.1))

pub begun_some : (s : PathSet) (n : ℕ) → IsCountOf (IsBegun s) n → 0 < n
begun_some s n c = let root = (c.exact []).1 (inl refl) in omega (arith, c.count, root.1)

pub begun_at_most : (s : PathSet) (ls : List (List Field)) (n : ℕ) → IsCountOf (IsBegun s) n → ((p : List Field) → IsTrue (set.contains (least s) p) → Contains ls p) → n ≤ 1 + sum_by length ls
begun_at_most s ls n c has =
    let all = [] ∷ flat_map starts ls in
    let within = length-le_from_is_member same_path_equiv c.paths all (IsDistinct-from_AllPairs same_path-Decides c.paths c.distinct) (λ q m.
    (is_member-Decides same_path-Decides all q).1 (begun-has s ls q has ((c.exact q).0 ((is_member-Decides same_path-Decides c.paths q).0 m)))) in
    let sum : length (flat_map starts ls) ≡ sum_by length ls = simp length-starts at (length-flat_map starts ls) in
    omega (arith, within, c.count, sum)

-- of a set without paths the root alone is begun
pub begun_none : (s : PathSet) (n : ℕ) → s ≡ set.empty → IsCountOf (IsBegun s) n → n ≡ 1
begun_none s n none c =
    let most = begun_at_most s [] n c (λ p l. absurd (false≢true (
    sym (contains_empty p) ∙ ap (λ x. set.contains x p) (sym (ap least none ∙ least_none)) ∙ l
    ))) in
    omega (arith, most, begun_some s n c)
