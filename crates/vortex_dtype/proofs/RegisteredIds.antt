-- SPDX-License-Identifier: Apache-2.0
-- SPDX-FileCopyrightText: Copyright the Vortex contributors

-- The ids of a session's plugins, as the map of plugins has them and in order.
use Rattle.std.proofs.Common.{◌≡◌, ◌⊎◌, ℕ, suc, ◌+◌, ◌<◌, List, [], ◌∷◌, length, map, IsSome, Bool, true, false, get_or, refl, sym, subst, arith}
use Rattle.std.specs.Prelude.{Contains, bytes_eq, option_map, slice_index_or, string_bytes}
use Rattle.std.specs.Borrow.{Bor}
use Rattle.std.specs.Cmp.Lexicographic.{slice_cmp, nat_list_cmp_total}
use Rattle.std.specs.HashMap.{keys, IsUnique}
use Rattle.std.specs.List.{AllByRecursion, IsDistinct}
use Rattle.std.specs.List.Sorted.{IsPermutation, IsSorted, IsStrictlySortedBy}
use Rattle.std.specs.Map.{keys_of, lookup}
use Rattle.std.specs.Ordering.{is_eq, is_lt, nat_cmp}
use Rattle.std.specs.declared.cmp.Ordering.TheVariants.{Less}
use Rattle.std.specs.String.{string_eq}
use Rattle.std.specs.declared.alloc.Global.{Global}
use Rattle.std.specs.declared.dyn_box.DynBox.{DynBox}
use Rattle.std.specs.declared.string.String.{String}
use Rattle.std.proofs.lemmas.List.{get_or-map, length-map}
use Rattle.std.proofs.lemmas.List.Sorted.{Contains-permutation, IsPermutation-map, IsPermutation-sym}
use Rattle.std.proofs.lemmas.Map.Keys.{IsDistinct-IsPermutation, apart_from_distinct, sorted_from_all_adjacent}
use Rattle.std.proofs.lemmas.Map.Text.{is_eq-slice_cmp}
use Rattle.std.proofs.lemmas.Slice.Eq.{bytes_eq-Decides}
use Rattle.vortex_dtype.specs.Meaning.{Rewrites, ListsIds}
use Rattle.vortex_dtype.specs.Session.{meaning}
use Rattle.vortex_dtype.specs.declared.session.DTypeSession.{DTypeSession}

-- ---- an id is a key exactly where a plugin is found under it

at_place : {X : Type 0} (x y : X) (xs : List X) (k : ℕ) → k < length (x ∷ xs) → slice_index_or (x ∷ xs) k y ≡ y → (x ≡ y) ⊎ Contains xs y
at_place x y xs k less is = grind (arith, less, is)

module _ {B Y : Type 0} (r : B → Rewrites) (id : List ℕ) where
  abbrev found : List (String Y × B) → Type 0
  found es = IsSome (option_map r (lookup (λ k. bytes_eq id (string_bytes k)) es))

  abbrev ids_of : List (String Y × B) → List (List ℕ)
  ids_of es = map string_bytes (keys_of es)

  found_here : (e : String Y × B) (es : List (String Y × B)) (b : Bool) → bytes_eq id (string_bytes e.0) ≡ b → (b ≡ true) ⊎ found es → found (e ∷ es)
  found_here e es b is h = grind (arith, is, h)

  is_found : (es : List (String Y × B)) → Contains (ids_of es) id → found es
  is_found [] h = absurd (omega (arith, h.1))
  is_found (e ∷ es) h = grind (arith, h, is_found es, bytes_eq-Decides id (string_bytes e.0), at_place (string_bytes e.0) id (ids_of es))

  key_here : (e : String Y × B) (es : List (String Y × B)) (b : Bool) → bytes_eq id (string_bytes e.0) ≡ b → found (e ∷ es) → (found es → Contains (ids_of es) id) → Contains (ids_of (e ∷ es)) id
  key_here e es true is h rest = (0, omega arith, sym ((bytes_eq-Decides id (string_bytes e.0)).0 is))
  key_here e es false is h rest = let at = rest (rw is at h) in (suc at.0, omega (arith, at.1), at.2)

  is_key : (es : List (String Y × B)) → found es → Contains (ids_of es) id
  is_key [] h = cc
  is_key (e ∷ es) h = key_here e es (bytes_eq id (string_bytes e.0)) refl h (is_key es)

-- ---- keys are distinct as bytes, and so strictly in order once they are sorted

apart_bytes : {Y : Type 0} (k : String Y) (ks : List (String Y)) → AllByRecursion (λ x. string_eq k x ≡ false) ks → AllByRecursion (λ x. bytes_eq (string_bytes k) x ≡ false) (map string_bytes ks)
apart_bytes k [] h = tt
apart_bytes k (x ∷ ks) h = (h.0, apart_bytes k ks h.1)

distinct_bytes : {Y : Type 0} (ks : List (String Y)) → IsDistinct string_eq ks → IsDistinct bytes_eq (map string_bytes ks)
unfolding IsDistinct
distinct_bytes [] h = tt
distinct_bytes (k ∷ ks) h = (apart_bytes k ks h.0, distinct_bytes ks h.1)

less_next : (x y : List ℕ) → is_lt (slice_cmp nat_cmp y x) ≡ false → bytes_eq x y ≡ false → slice_cmp nat_cmp x y ≡ Less
less_next x y a b = grind (arith, a, b, nat_list_cmp_total.antisymm x y, is_eq-slice_cmp x y)

no_text : Bor (List ℕ)
no_text = record { ref_ptr = (0, 0); now = [] }

strictly : (xs : List (Bor (List ℕ))) → IsSorted (λ x y. slice_cmp nat_cmp x.now y.now) xs → IsDistinct bytes_eq (map (λ x. x.now) xs) → IsStrictlySortedBy (slice_cmp nat_cmp) (map (λ x. x.now) xs)
strictly xs up apart =
    let texts = map (λ (x : Bor (List ℕ)). x.now) xs in
    sorted_from_all_adjacent nat_list_cmp_total texts [] (λ k less. grind (arith, less, length-map xs (λ (x : Bor (List ℕ)). x.now), get_or-map (λ (x : Bor (List ℕ)). x.now) xs, less_next (get_or texts k []) (get_or texts (k + 1) []), up k no_text, apart_from_distinct bytes_eq texts k (k + 1) [] apart))

-- ---- the ids of a session

bytes_eq-flips : (x y : List ℕ) → bytes_eq x y ≡ bytes_eq y x
bytes_eq-flips x y = grind (arith, bytes_eq-Decides)

-- the keys of the map, sorted, are the ids of the session
pub sorted_keys : {X : Type 0} {F : X → Type 0} (r : DynBox X Global F → Rewrites) (s : DTypeSession X F) (given sorted : List (Bor (List ℕ))) → map (λ x. x.now) given ≡ map string_bytes (keys s.plugins) → IsUnique string_eq s.plugins → IsPermutation given sorted → IsSorted (λ x y. slice_cmp nat_cmp x.now y.now) sorted → ListsIds (meaning r s) (map (λ x. x.now) sorted)
unfolding meaning
sorted_keys r s given sorted e unique p up =
    let show = λ (x : Bor (List ℕ)). x.now in
    let moved : IsPermutation (map string_bytes (keys s.plugins)) (map show sorted) = subst (λ (l : List (List ℕ)). IsPermutation l (map show sorted)) e (IsPermutation-map show given sorted p) in
    record {
      each = λ id. (
        λ h. is_found r id s.plugins.entries (Contains-permutation _ _ id (IsPermutation-sym _ _ moved) h),
        λ h. Contains-permutation _ _ id moved (is_key r id s.plugins.entries h),
      );
      sorted = strictly sorted up (IsDistinct-IsPermutation bytes_eq bytes_eq-flips _ _ moved (distinct_bytes (keys s.plugins) unique));
    }
