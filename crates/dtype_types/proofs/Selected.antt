-- SPDX-License-Identifier: Apache-2.0
-- SPDX-FileCopyrightText: Copyright the Vortex contributors

-- Selecting fields by name: the types at the first positions of the names. A projection to names has a field for each.
use Rattle.std.proofs.Common.{◌≡◌, ◌⊎◌, ℕ, zero, suc, ◌+◌, ◌<◌, List, [], ◌∷◌, ◌++◌, length, map, take, get_or, Some, IsSome, slice_get, refl, sym, ap, subst, ◌∙◌, arith}
use Rattle.std.specs.List.{All, AllByRecursion, zip}
use Rattle.std.proofs.lemmas.Bool.{cond_both}
use Rattle.std.proofs.lemmas.List.{map_push, map_more, length-map}
use Rattle.std.proofs.lemmas.Simd.{map-map}
use Rattle.std.proofs.lemmas.Slice.Zip.{firsts-zip, seconds-zip}
use Rattle.std.proofs.lemmas.List.Elements.{All-cons, All-nil, All-weaker, recursion_from_All}
use Rattle.std.proofs.lemmas.Option.{slice_get-map, slice_get_read, slice_get_within}
use Rattle.std.proofs.lemmas.Slice.Eq.{bytes_eq-Decides}
use Rattle.std.specs.Str.{bytes_eq}
use Rattle.std.specs.Option.{option_map}
use Rattle.dtype_base.specs.FieldNames.{first_place, SelectionError}
use Rattle.dtype_base.proofs.lemmas.Lookups.{first_of_place}
use Rattle.dtype_base.specs.declared.vortex_error.VortexError.{VortexError}
use Rattle.dtype_base.specs.declared.vortex_error.VortexError.TheVariants.{OutOfMemory}
use Rattle.dtype_types.proofs.Parts.{names_shown, types_shown, trees_zip}
use Rattle.std.specs.Map.{keys_of, values_of}
use Rattle.dtype_types.proofs.lemmas.Lookups.{field_at_place, taken_same_name}
use Rattle.dtype_types.specs.parts.Lookups.{first_named, field_names, field_types, Projects}
use Rattle.dtype_types.specs.tree.Tree.{Tree}
use Rattle.dtype_types.specs.tree.TreeOf.{tree, with_trees}
use Rattle.dtype_types.specs.declared.dtype.DType.{DType}

-- the types at the first positions of names are the types of these names
types_at : (fs : List (List ℕ × Tree)) (names : List (List ℕ)) (firsts : List ℕ) → map Some firsts ≡ map (first_place (field_names fs)) names → map (slice_get (field_types fs)) firsts ≡ map (first_named fs) names
types_at fs [] [] e = refl
types_at fs (n ∷ names) (i ∷ firsts) e =
    let head : Some i ≡ first_place (field_names fs) n = cc in
    let rest : map Some firsts ≡ map (first_place (field_names fs)) names = cc in
    ap (λ o. o ∷ map (slice_get (field_types fs)) firsts) (field_at_place fs n i head) ∙ ap (λ os. first_named fs n ∷ os) (types_at fs names firsts rest)
types_at fs _ _ e = cc

-- each first position is one of the types
pub firsts_within : (fs : List (List ℕ × Tree)) (names : List (List ℕ)) (firsts : List ℕ) (n : ℕ) → length (field_names fs) ≡ n → map Some firsts ≡ map (first_place (field_names fs)) names → All (λ i. i < n) firsts
firsts_within fs [] (i ∷ firsts) n as_many e k d within = cc
firsts_within fs (m ∷ names) (i ∷ firsts) n as_many e zero d within =
    let head : Some i ≡ first_place (field_names fs) m = cc in
    omega (arith, as_many, slice_get_within (field_names fs) i m (first_of_place (field_names fs) m i head).here)
firsts_within fs (m ∷ names) (i ∷ firsts) n as_many e (suc k) d within =
    let rest : map Some firsts ≡ map (first_place (field_names fs)) names = cc in firsts_within fs names firsts n as_many rest k d (omega (arith, within))
firsts_within _ _ _ _ _ _ _ _ within = absurd (omega (arith, within))

-- one type more
pub copies_more : (ts us : List Tree) (positions : List ℕ) (j i : ℕ) (t : Tree) → j < length positions → i ≡ get_or positions j i → slice_get ts i ≡ Some t
    → map Some us ≡ map (slice_get ts) (take j positions) → map Some (us ++ t ∷ []) ≡ map (slice_get ts) (take (j + 1) positions)
copies_more ts us positions j i t within read here so_far =
    map_push Some us t ∙ ap (λ os. os ++ Some t ∷ []) so_far ∙ ap (λ o. map (slice_get ts) (take j positions) ++ o ∷ []) (sym here ∙ ap (slice_get ts) read)
    ∙ sym (map_more (slice_get ts) positions j i within)

-- ---- of a struct's fields

-- the type at one position
pub tree_read : (ds : List DType) (i : ℕ) (d : DType) → i < length ds → d ≡ get_or ds i d → slice_get (map tree ds) i ≡ Some (tree d)
tree_read ds i d within read = slice_get-map tree ds i ∙ ap (option_map tree) (slice_get_read ds (length ds) i d refl within read)

module _ (ps held : List (List ℕ × DType)) (asked : List (List ℕ)) (places : List ℕ) (same : held ≡ ps) (e : map Some places ≡ map (first_place (keys_of held)) asked) where
  shown_names : keys_of held ≡ field_names (with_trees ps)
  shown_names = ap keys_of same ∙ sym (names_shown ps)

  shown_places : map Some places ≡ map (first_place (field_names (with_trees ps))) asked
  shown_places = e ∙ ap (λ ns. map (first_place ns) asked) shown_names

  pub places_within : All (λ i. i < length (values_of ps)) places
  places_within = firsts_within (with_trees ps) asked places (length (values_of ps)) (length-map (with_trees ps) _ ∙ length-map ps _ ∙ sym (length-map ps _)) shown_places

  module _ (positions : List ℕ) (ds : List DType) (moved : positions ≡ places) (f : map Some (map tree ds) ≡ map (slice_get (map tree (values_of ps))) positions) where
    shown_types : map Some (map tree ds) ≡ map (slice_get (field_types (with_trees ps))) places
    shown_types = f ∙ ap (map (slice_get (map tree (values_of ps)))) moved ∙ ap (λ ts. map (slice_get ts) places) (sym (types_shown ps))

    -- as many types as names
    pub as_many_copies : length ds ≡ length asked
    as_many_copies =
        let one = ap length shown_places in
        let two = ap length shown_types in
        omega (arith, one, two, length-map places Some, length-map asked (first_place (field_names (with_trees ps))), length-map (map tree ds) Some, length-map ds tree, length-map places (slice_get (field_types (with_trees ps))))

    pub projects : (names : List (List ℕ)) (made : List (List ℕ × DType)) → names ≡ asked → made ≡ zip names ds → Projects (with_trees ps) asked (with_trees made)
    projects names made named put =
        let ts = map tree ds in
        let as_many : length ts ≡ length asked = length-map ds tree ∙ as_many_copies in
        let whole : with_trees made ≡ zip asked ts = ap with_trees put ∙ trees_zip names ds ∙ ap (λ ns. zip ns ts) named in record {
          names_are = ap field_names whole ∙ firsts-zip asked ts as_many;
          types_are = ap (map (λ (p : List ℕ × Tree). Some p.1)) whole ∙ sym (map-map Some (λ p. p.1) (zip asked ts)) ∙ ap (map Some) (seconds-zip asked ts as_many) ∙ shown_types ∙ types_at (with_trees ps) asked places shown_places;
        }

-- the error of a name that is absent from the struct
pub refused_of : (ps held : List (List ℕ × DType)) (asked : List (List ℕ)) (e : VortexError) → held ≡ ps → (e ≡ OutOfMemory) ⊎ SelectionError (keys_of held) asked e → (e ≡ OutOfMemory) ⊎ SelectionError (field_names (with_trees ps)) asked e
refused_of ps held asked e same h = subst (λ ns. (e ≡ OutOfMemory) ⊎ SelectionError ns asked e) (ap keys_of same ∙ sym (names_shown ps)) h

-- ---- a projection to names: a field for each name, which is the first field of that name

-- each of the names is that of a field
pub projected_known : (fs : List (List ℕ × Tree)) (ms : List (List ℕ)) (gs : List (List ℕ × Tree)) → map (λ (p : List ℕ × Tree). Some p.1) gs ≡ map (first_named fs) ms → AllByRecursion (λ n. IsSome (first_named fs n)) ms
projected_known fs [] gs e = tt
projected_known fs (m ∷ ms) [] e = cc
projected_known fs (m ∷ ms) (g ∷ gs) e =
    let head : Some g.1 ≡ first_named fs m = cc in
    let tail : map (λ (p : List ℕ × Tree). Some p.1) gs ≡ map (first_named fs) ms = cc in
    (subst (λ o. IsSome o) head refl, projected_known fs ms gs tail)

-- a lookup of a name that was asked for gives the same in the projection as in the whole
abbrev Alike : List (List ℕ × Tree) → List (List ℕ × Tree) → List ℕ → Type 0
Alike fs gs n = first_named gs n ≡ first_named fs n

one_more_alike : (fs gs : List (List ℕ × Tree)) (g : List ℕ × Tree) (n : List ℕ) → Some g.1 ≡ first_named fs g.0 → Alike fs gs n → Alike fs (g ∷ gs) n
one_more_alike fs gs g n head more = cond_both (bytes_eq g.0 n) (Some g.1) (first_named gs n) (λ o. o ≡ first_named fs n) (λ is. head ∙ ap (first_named fs) ((bytes_eq-Decides g.0 n).0 is)) (λ _. more)

all_alike : (fs gs : List (List ℕ × Tree)) → map (λ (p : List ℕ × Tree). Some p.1) gs ≡ map (first_named fs) (field_names gs) → All (Alike fs gs) (field_names gs)
all_alike fs [] e = All-nil (Alike fs [])
all_alike fs (g ∷ gs) e =
    let head : Some g.1 ≡ first_named fs g.0 = cc in
    let rest : map (λ (p : List ℕ × Tree). Some p.1) gs ≡ map (first_named fs) (field_names gs) = cc in
    All-cons (Alike fs (g ∷ gs)) g.0 (field_names gs) (taken_same_name g.0 g.0 (Some g.1) (first_named gs g.0) refl ∙ head) (All-weaker (Alike fs gs) (Alike fs (g ∷ gs)) (λ n. one_more_alike fs gs g n head) (field_names gs) (all_alike fs gs rest))

pub projected_alike : (fs : List (List ℕ × Tree)) (names : List (List ℕ)) (gs : List (List ℕ × Tree)) → field_names gs ≡ names → map (λ (p : List ℕ × Tree). Some p.1) gs ≡ map (first_named fs) names → AllByRecursion (Alike fs gs) names
projected_alike fs names gs are e = recursion_from_All (Alike fs gs) names (subst (All (Alike fs gs)) are (all_alike fs gs (e ∙ ap (map (first_named fs)) (sym are))))
