-- SPDX-License-Identifier: Apache-2.0
-- SPDX-FileCopyrightText: Copyright the Vortex contributors

-- What the library makes of parts, or the error with which it refuses them.
use Rattle.std.proofs.Common.{◌≡◌, ◌≢◌, ℕ, suc, ◌<◌, ◌≤◌, Bool, true, false, not, ◌==◌, List, [], ◌∷◌, length, map, ℤ, Result, Ok, Err, refl, sym, ap, subst, ◌∙◌, arith, inl, inr}
use Rattle.std.specs.Prelude.{◌⊎◌, ◌≤ℤ◌, ◌<ℤ◌, nat_lt, nat_eq, int_lt, pos, if◌then◌else◌}
use Rattle.std.specs.List.{list_any, AllByRecursion, IsDistinct, zip}
use Rattle.std.specs.Str.{bytes_eq}
use Rattle.std.proofs.lemmas.Bool.{eq-eqb, false_from_ne_true}
use Rattle.std.proofs.lemmas.Bool.Decides.{nat_tests, Decides-eqb}
use Rattle.std.proofs.lemmas.Int.{ints}
use Rattle.std.proofs.lemmas.List.{length-map}
use Rattle.std.proofs.lemmas.Map.Keys.{IsDistinct-head, IsDistinct-tail}
use Rattle.std.proofs.lemmas.Map.Made.{AllPairs-from_IsDistinct, IsDistinct-from_AllPairs}
use Rattle.std.proofs.lemmas.Slice.Eq.{bytes_eq-Decides}
use Rattle.std.proofs.lemmas.Slice.Zip.{firsts-zip, seconds-zip}
use Rattle.dtype_base.specs.Decimals.{Decimal, DecimalError, IsDecimalWithin}
use Rattle.dtype_base.specs.Distinct.{Distinct}
use Rattle.dtype_base.specs.declared.nullability.Nullability.{Nullability}
use Rattle.dtype_base.specs.declared.nullability.Nullability.TheVariants.{NonNullable}
use Rattle.dtype_base.specs.declared.vortex_error.VortexError.{VortexError}
use Rattle.dtype_base.specs.declared.vortex_error.VortexError.TheVariants as error
use Rattle.dtype_types.proofs.lemmas.TreeLaws.{tree_struct, tree_union}
use Rattle.dtype_types.proofs.lemmas.Validity.{struct_valid, union_valid}
use Rattle.dtype_types.specs.declared.dtype.DType.{DType, Struct, Union}
use Rattle.dtype_types.specs.declared.struct_fields.StructFields.{StructFields}
use Rattle.dtype_types.specs.declared.union_variants.UnionVariants.{UnionVariants}
use Rattle.dtype_types.specs.nullability.Nullable.{nullability, IsNullable}
use Rattle.dtype_types.specs.parts.Unions.{HasUnionLengths, MakesUnion, UnionError}
use Rattle.dtype_types.specs.tree.Tree as of
use Rattle.dtype_types.specs.tree.Tree.{Tree, fields, variants}
use Rattle.dtype_types.specs.tree.TreeOf.{tree, children, variant_list}
use Rattle.dtype_text.specs.TypeParts.{a_decimal}
use Rattle.dtype_text.specs.Unions.{differ, is_empty}
use Rattle.c_arrow.specs.Faults.{Fault, IsLibrary, IsMemory, Stops, library, library_in, names_in}
use Rattle.c_arrow.specs.Read.{decimal_of, map_of, union_of}
use Rattle.c_arrow.specs.declared.fault.ArrowFault.{ArrowFault}
use Rattle.c_arrow.specs.declared.fault.ArrowFault.TheVariants.{Library}
use Rattle.c_arrow.proofs.Leaves.{both}
use Rattle.c_arrow.proofs.Reading.{children_of}

abbrev failed : (Y : Type 0) → Fault → Result Y Fault
failed Y f = Err f

-- an error of the library, as a fault
pub stops_library : {Y : Type 0} (v : VortexError) (e : ArrowFault) (read : Result Y Fault) → IsMemory v e → ((v ≡ error.OutOfMemory) ⊎ (read ≡ Err (library v))) → Stops e read
stops_library v e read is h = elim h [
  | inl m ↦ subst (λ (g : ArrowFault). Stops g read) (sym (subst (λ (w : VortexError). IsMemory w e) m is)) tt
  | inr no_ ↦ other v is no_
] where
  -- the fault of the field itself
  its_own : (v : VortexError) (e : ArrowFault) → IsLibrary v e → read ≡ Err (library v) → Stops e read
  its_own v (Library c w) is h = h ∙ ap (λ (ns : List (List ℕ)). Err (library_in ns v)) (sym is.0) ∙ ap (λ (x : VortexError). Err (library_in (names_in c) x)) (sym is.1)
  its_own v _ is h = absurd is

  other : (v : VortexError) → IsMemory v e → read ≡ Err (library v) → Stops e read
  other error.OutOfMemory is h = subst (λ (g : ArrowFault). Stops g read) (sym is) tt
  other v is h = its_own v e is h

-- ---- decimals

lt_tells : (a b : ℤ) → ((int_lt a b ≡ true) × (a <ℤ b)) ⊎ ((int_lt a b ≡ false) × (a <ℤ b → ⊥))
lt_tells a b = grind arith

lt_true : (a b : ℤ) → a <ℤ b → int_lt a b ≡ true
lt_true a b h = elim (lt_tells a b) [ inl t ↦ t.0 | inr f ↦ absurd (f.1 h) ]

lt_false : (a b : ℤ) → b ≤ℤ a → int_lt a b ≡ false
lt_false a b h = elim (lt_tells a b) [ inl t ↦ absurd (omega (arith, ints, h, t.1)) | inr f ↦ f.0 ]

some_digits : (n : ℕ) → 1 ≤ n → (n == 0) ≡ false
some_digits n h = grind (arith, nat_tests, h)

at_most : (n : ℕ) → n ≤ 76 → nat_lt 76 n ≡ false
at_most n h = grind (arith, nat_tests, h)

above : (n : ℕ) → 76 < n → nat_lt 76 n ≡ true
above n h = grind (arith, nat_tests, h)

pub decimal_made : (d : Decimal) (n : ℕ) (s : ℤ) (m : Nullability) → d.precision ≡ n → d.scale ≡ s → IsDecimalWithin 76 n s → decimal_of n s m ≡ Ok (of.decimal d m)
unfolding decimal_of
decimal_made d n s m e f h =
    let a = some_digits n h.some_digits in
    let b = at_most n h.precision_at_most in
    let c : s ≤ℤ pos 76 = omega (arith, ints, h.scale_at_most, h.precision_at_most) in
    let is : d ≡ a_decimal n s = λ i. record { precision = e i; scale = f i } in
    rw (a, b, lt_false (pos 76) s c, lt_false (pos n) s h.scale_at_most) (ap (λ (x : Decimal). Ok (of.decimal x m)) (sym is))

decimal_error : (n : ℕ) (s : ℤ) (m : Nullability) (v : VortexError) → DecimalError 76 n s v → decimal_of n s m ≡ Err (library v)
unfolding decimal_of
decimal_error n s m (error.PrecisionZero k) h = rw (eq-eqb n 0 h.1, h.0) refl
decimal_error n s m (error.PrecisionTooLarge q k) h =
    let a : 1 ≤ n = omega (arith, h.2) in
    rw (some_digits n a, above n h.2, h.0, h.1) refl
decimal_error n s m (error.ScaleTooLarge t k) h = rw (some_digits n h.2, at_most n h.3, lt_true (pos 76) s h.4, h.0, h.1) refl
decimal_error n s m (error.ScaleAbovePrecision t q) h = rw (some_digits n h.2, at_most n h.3, lt_false (pos 76) s h.4, lt_true (pos n) s h.5, h.0, h.1) refl
decimal_error n s m _ h = absurd h

pub decimal_refused : (n : ℕ) (s : ℤ) (m : Nullability) (v : VortexError) (e : ArrowFault) → IsMemory v e → DecimalError 76 n s v → Stops e (decimal_of n s m)
decimal_refused n s m v e is h = stops_library v e (decimal_of n s m) is (inr (decimal_error n s m v h))

pub ruleset decimals = (decimal_made, decimal_refused)

-- ---- maps

pub map_made : (key value : Tree) (sorted : Bool) (n : Nullability) (t : Tree) → t ≡ of.map_of key value sorted n → nullability key ≡ NonNullable → map_of key value sorted n ≡ Ok t
unfolding map_of
map_made key value sorted n t is e = rw e (ap (λ (u : Tree). Ok u) (sym is))

pub map_refused : (key value : Tree) (sorted : Bool) (n : Nullability) (v : VortexError) (e : ArrowFault) → IsMemory v e
    → ((v ≡ error.OutOfMemory) × (nullability key ≡ NonNullable)) ⊎ ((v ≡ error.MapKeyNullable) × IsNullable key) → Stops e (map_of key value sorted n)
unfolding map_of
map_refused key value sorted n v e is h =
    stops_library v e (map_of key value sorted n) is
    (elim h [
      | inl m ↦ inl m.0
      | inr no_ ↦ inr (rw (no_.1, no_.0) refl)
    ])

pub ruleset maps = (map_made, map_refused)

-- ---- structs

pub made_struct : (s : StructFields) (n : Nullability) (ps : List (List ℕ × Tree)) → children s ≡ ps → tree (Struct s n) ≡ of.struct (fields ps) n
made_struct s n ps e = tree_struct s n ∙ ap (λ qs. of.struct (fields qs) n) e

pub ruleset structs = (made_struct, struct_valid)

-- ---- unions

apart : {A : Type 0} (same : A → A → Bool) (x : A) (xs : List A) → not (list_any (same x) xs) ≡ true → AllByRecursion (λ y. same x y ≡ false) xs
apart same x [] e = tt
apart same x (y ∷ ys) e = split (same x y) refl (apart same x ys) where
  split : (b : Bool) → same x y ≡ b → (not (list_any (same x) ys) ≡ true → AllByRecursion (λ z. same x z ≡ false) ys) → AllByRecursion (λ z. same x z ≡ false) (y ∷ ys)
  split true t more = let clash : false ≡ true = rw t at e in absurd cc
  split false t more = (t, more (rw t at e))

none_same : {A : Type 0} (same : A → A → Bool) (x : A) (xs : List A) → AllByRecursion (λ y. same x y ≡ false) xs → list_any (same x) xs ≡ false
none_same same x [] h = refl
none_same same x (y ∷ ys) h = rw (h.0, none_same same x ys h.1) refl

differ_distinct : {A : Type 0} (same : A → A → Bool) (xs : List A) → differ same xs ≡ true → IsDistinct same xs
unfolding IsDistinct
differ_distinct same [] e = tt
differ_distinct same (x ∷ xs) e =
    let h = both (not (list_any (same x) xs)) (differ same xs) e in
    (apart same x xs h.0, differ_distinct same xs h.1)

distinct_differ : {A : Type 0} (same : A → A → Bool) (xs : List A) → IsDistinct same xs → differ same xs ≡ true
distinct_differ same [] d = refl
distinct_differ same (x ∷ xs) d = rw (none_same same x xs (IsDistinct-head same x xs d), distinct_differ same xs (IsDistinct-tail same x xs d)) refl

tags_differ : (gs : List ℕ) → Distinct gs → differ nat_eq gs ≡ true
tags_differ gs h = distinct_differ nat_eq gs (IsDistinct-from_AllPairs Decides-eqb gs h)

tags_repeat : (gs : List ℕ) → (Distinct gs → ⊥) → differ nat_eq gs ≡ false
tags_repeat gs h = false_from_ne_true (differ nat_eq gs) (λ e. h (AllPairs-from_IsDistinct Decides-eqb gs (differ_distinct nat_eq gs e)))

names_differ : (ns : List (List ℕ)) → Distinct ns → differ bytes_eq ns ≡ true
names_differ ns h = distinct_differ bytes_eq ns (IsDistinct-from_AllPairs bytes_eq-Decides ns h)

names_repeat : (ns : List (List ℕ)) → (Distinct ns → ⊥) → differ bytes_eq ns ≡ false
names_repeat ns h = false_from_ne_true (differ bytes_eq ns) (λ e. h (AllPairs-from_IsDistinct bytes_eq-Decides ns (differ_distinct bytes_eq ns e)))

not_empty : (ns : List (List ℕ)) → ns ≢ [] → is_empty ns ≡ false
not_empty [] h = absurd (h refl)
not_empty (n ∷ ns) h = refl

equal_length : (a b : ℕ) → (a ≡ b → ⊥) → (a == b) ≡ false
equal_length a b h = grind (arith, nat_tests, h)

length_zip : (ns : List (List ℕ)) (ts : List Tree) → length ns ≡ length ts → length (zip ns ts) ≡ length ns
length_zip [] [] e = refl
length_zip [] (t ∷ ts) e = absurd (omega (arith, e))
length_zip (n ∷ ns) [] e = absurd (omega (arith, e))
length_zip (n ∷ ns) (t ∷ ts) e = ap suc (length_zip ns ts (omega (arith, e)))

empty_zip : (ns : List (List ℕ)) (ts : List Tree) → length ns ≡ length ts → is_empty (zip ns ts) ≡ is_empty ns
empty_zip [] [] e = refl
empty_zip [] (t ∷ ts) e = absurd (omega (arith, e))
empty_zip (n ∷ ns) [] e = absurd (omega (arith, e))
empty_zip (n ∷ ns) (t ∷ ts) e = refl

-- what the library makes of names, types and tags
abbrev from_sides : List (List ℕ) → List Tree → List ℕ → Nullability → Result Tree Fault
from_sides ns ts gs n =
    if not (length ns == length gs) then Err (library error.UnionTagsLength)
    else if is_empty ns then Err (library error.UnionEmpty)
    else if not (differ nat_eq gs) then Err (library error.UnionTagsRepeat)
    else if not (differ bytes_eq ns) then Err (library error.UnionNamesRepeat)
    else Ok (of.union (variants (zip ns (zip ts gs))) n)

of_sides : (ns : List (List ℕ)) (ts : List Tree) (gs : List ℕ) (n : Nullability) → length ns ≡ length ts → union_of (zip ns ts) gs n ≡ from_sides ns ts gs n
unfolding union_of
of_sides ns ts gs n e = rw (firsts-zip ns ts (sym e), seconds-zip ns ts (sym e), length_zip ns ts e, empty_zip ns ts e) refl

made_sides : (ns : List (List ℕ)) (ts : List Tree) (gs : List ℕ) (n : Nullability) → MakesUnion ns (length ts) gs → from_sides ns ts gs n ≡ Ok (of.union (variants (zip ns (zip ts gs))) n)
made_sides ns ts gs n m = rw (eq-eqb (length ns) (length gs) m.0.1, not_empty ns m.0.2, tags_differ gs m.1, names_differ ns m.2) refl

error_sides : (ns : List (List ℕ)) (ts : List Tree) (gs : List ℕ) (n : Nullability) (v : VortexError) → length ns ≡ length ts → UnionError ns (length ts) gs v → from_sides ns ts gs n ≡ Err (library v)
error_sides ns ts gs n error.UnionTypesLength e h = absurd (h e)
error_sides ns ts gs n error.UnionTagsLength e h = rw (equal_length (length ns) (length gs) h.1) refl
error_sides ns ts gs n error.UnionEmpty e h = rw (eq-eqb (length ns) (length gs) h.1, ap is_empty h.2) refl
error_sides ns ts gs n error.UnionTagsRepeat e h = rw (eq-eqb (length ns) (length gs) h.0.1, not_empty ns h.0.2, tags_repeat gs h.1) refl
error_sides ns ts gs n error.UnionNamesRepeat e h = rw (eq-eqb (length ns) (length gs) h.0.1, not_empty ns h.0.2, tags_differ gs h.1, names_repeat ns h.2) refl
error_sides ns ts gs n _ e h = absurd h

pub union_made : (u : UnionVariants) (ns : List (List ℕ)) (ds : List DType) (gs : List ℕ) (n : Nullability) → length ns ≡ length ds → variant_list u ≡ zip ns (zip (map tree ds) gs) → MakesUnion ns (length ds) gs → union_of (children_of ns ds) gs n ≡ Ok (tree (Union u n))
union_made u ns ds gs n e is made =
    let len : length (map tree ds) ≡ length ds = length-map ds tree in
    of_sides ns (map tree ds) gs n (e ∙ sym len)
    ∙ made_sides ns (map tree ds) gs n (subst (λ (k : ℕ). MakesUnion ns k gs) (sym len) made)
    ∙ ap (λ (t : Tree). Ok t) (sym (tree_union u n ∙ ap (λ vs. of.union (variants vs) n) is))

pub union_refused : (ns : List (List ℕ)) (ds : List DType) (gs : List ℕ) (n : Nullability) (v : VortexError) (e : ArrowFault) → length ns ≡ length ds → IsMemory v e
    → ((v ≡ error.OutOfMemory) × HasUnionLengths ns (length ds) gs) ⊎ UnionError ns (length ds) gs v → Stops e (union_of (children_of ns ds) gs n)
union_refused ns ds gs n v e len is h =
    let same : length (map tree ds) ≡ length ds = length-map ds tree in
    stops_library v e (union_of (children_of ns ds) gs n) is
    (elim h [
      | inl m ↦ inl m.0
      | inr no_ ↦ inr (of_sides ns (map tree ds) gs n (len ∙ sym same) ∙ error_sides ns (map tree ds) gs n v (len ∙ sym same) (subst (λ (k : ℕ). UnionError ns k gs v) (sym same) no_))
    ])

pub made_union : (u : UnionVariants) (n : Nullability) (vs : List (List ℕ × (Tree × ℕ))) → variant_list u ≡ vs → tree (Union u n) ≡ of.union (variants vs) n
made_union u n vs e = tree_union u n ∙ ap (λ ws. of.union (variants ws) n) e

pub ruleset unions = (union_made, union_refused, made_union, union_valid)
