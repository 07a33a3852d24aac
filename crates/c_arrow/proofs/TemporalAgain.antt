-- SPDX-License-Identifier: Apache-2.0
-- SPDX-FileCopyrightText: Copyright the Vortex contributors

-- A date, a time, a timestamp, a duration or an interval that is written is read again.
use Rattle.std.proofs.Common.{◌≡◌, ℕ, zero, suc, ◌+◌, ◌*◌, ◌^◌, ◌<◌, Bool, true, false, ◌==◌, ◌&&◌, List, [], ◌∷◌, ◌++◌, length, drop, get_or, Option, Some, None, inl, inr, refl, sym, ap, subst, ◌∙◌, append-nil, arith}
use Rattle.std.specs.Prelude.{IfSome, codes, nat_lt, is_some, ◌⊎◌, if◌then◌else◌}
use Rattle.std.specs.Int.{from_le_bytes, to_le_bytes, w16}
use Rattle.std.specs.Str.{is_utf8}
use Rattle.std.proofs.lemmas.Bool.{eqb-true}
use Rattle.std.proofs.lemmas.Bool.Decides.{nat_tests}
use Rattle.std.proofs.lemmas.Nat.{le_bytes_2}
use Rattle.std.proofs.lemmas.Option.{none-some, same_Some}
use Rattle.std.proofs.lemmas.Slice.Eq.{bytes_eq-Decides}
use Rattle.dtype_base.specs.Bytes.{Bytes}
use Rattle.dtype_base.specs.declared.nullability.Nullability.{Nullability}
use Rattle.dtype_base.specs.declared.nullability.Nullability.TheVariants.{NonNullable}
use Rattle.dtype_base.specs.declared.ptype.PType.{PType}
use Rattle.dtype_base.specs.declared.ptype.PType.TheVariants as p
use Rattle.dtype_types.specs.tree.Tree.{Tree, primitive, fixed_size_list, extension}
use Rattle.dtype_text.specs.Read.{◌>>=◌}
use Rattle.dtype_text.specs.TypeParts.{is_text}
use Rattle.dtype_text.specs.Leaves.{text_at}
use Rattle.c_arrow.specs.Again.{IsTemporal, IsKept, StandsFor}
use Rattle.c_arrow.specs.Formats.{format_of, word_of, nested_word_of, time_of, parametric_of, timestamp_of, unit_of_letter}
use Rattle.c_arrow.specs.Temporal.{Written, byte_of, unit_of_byte, date_ptype, time_ptype, date_tree, time_tree, timestamp_tree, zoned, date_letters, time_letters, timestamp_letters, is_zone, unit_and_zone, letters_of, or_empty, temporal_of, kept_with, kept_written, first_of, written_of}
use Rattle.c_arrow.specs.Kept.{kept_of, kept_in, id_of, storage_of, is_list, is_byte, byte_is, is_kept_as, has_bytes, only_if, nullability_in}
use Rattle.c_arrow.specs.declared.format.Format.TheVariants as f
use Rattle.c_arrow.specs.declared.kept.Kept.{Kept}
use Rattle.c_arrow.specs.declared.kept.Kept.TheVariants as kept
use Rattle.c_arrow.specs.declared.temporal.Unit.{Unit as TimeUnit}
use Rattle.c_arrow.specs.declared.temporal.Unit.TheVariants as unit
use Rattle.c_arrow.proofs.FormatsAgain.{word_again, with_parameters}
use Rattle.c_arrow.proofs.Leaves.{both}

bind_some : {A B : Type 0} (r : Option A) (f : A → Option B) (y : B) → (r >>= f) ≡ Some y → (x : A) × (r ≡ Some x) × (f x ≡ Some y)
bind_some (Some x) f y e = (x, refl, e)
bind_some None f y e = absurd cc

same_text : (a b : List ℕ) → is_text a b ≡ true → a ≡ b
same_text a b = (bytes_eq-Decides a b).0

-- ---- formats

date_again : (u : TimeUnit) (t : PType) (letters : List ℕ) → date_letters u t ≡ Some letters → (format_of letters ≡ Some (f.Date u)) × (t ≡ date_ptype u)
unfolding date_letters date_ptype word_of nested_word_of time_of kept_of
date_again unit.Days p.I32 letters e = (ap format_of (sym (same_Some _ _ e)) ∙ word_again (codes "tdD") (f.Date unit.Days) refl refl, refl)
date_again unit.Milliseconds p.I64 letters e = (ap format_of (sym (same_Some _ _ e)) ∙ word_again (codes "tdm") (f.Date unit.Milliseconds) refl refl, refl)
date_again _ _ letters e = absurd cc

time_again : (u : TimeUnit) (t : PType) (letters : List ℕ) → time_letters u t ≡ Some letters → (format_of letters ≡ Some (f.Time u)) × (t ≡ time_ptype u)
unfolding time_letters time_ptype word_of nested_word_of time_of kept_of
time_again unit.Seconds p.I32 letters e = (ap format_of (sym (same_Some _ _ e)) ∙ word_again (codes "tts") (f.Time unit.Seconds) refl refl, refl)
time_again unit.Milliseconds p.I32 letters e = (ap format_of (sym (same_Some _ _ e)) ∙ word_again (codes "ttm") (f.Time unit.Milliseconds) refl refl, refl)
time_again unit.Microseconds p.I64 letters e = (ap format_of (sym (same_Some _ _ e)) ∙ word_again (codes "ttu") (f.Time unit.Microseconds) refl refl, refl)
time_again unit.Nanoseconds p.I64 letters e = (ap format_of (sym (same_Some _ _ e)) ∙ word_again (codes "ttn") (f.Time unit.Nanoseconds) refl refl, refl)
time_again _ _ letters e = absurd cc

abbrev IsStamp : TimeUnit → PType → List ℕ → List ℕ → Type 0
IsStamp u t letters zone = (format_of (letters ++ zone) ≡ Some (f.Timestamp u)) × (drop 4 (letters ++ zone) ≡ zone) × (t ≡ p.I64)

stamp : (u : TimeUnit) (letters zone given : List ℕ) → given ≡ letters → word_of (given ++ zone) ≡ None → parametric_of (given ++ zone) ≡ Some (f.Timestamp u) → drop 4 (given ++ zone) ≡ zone → IsStamp u p.I64 letters zone
stamp u letters zone given e word format behind =
    subst (λ x. IsStamp u p.I64 x zone) e (with_parameters (given ++ zone) word ∙ format, behind, refl)

timestamp_again : (u : TimeUnit) (t : PType) (letters zone : List ℕ) → timestamp_letters u t ≡ Some letters → IsStamp u t letters zone
unfolding timestamp_letters word_of nested_word_of time_of kept_of parametric_of timestamp_of unit_of_letter
timestamp_again unit.Seconds p.I64 letters zone e = stamp unit.Seconds letters zone (codes "tss:") (same_Some _ _ e) refl refl refl
timestamp_again unit.Milliseconds p.I64 letters zone e = stamp unit.Milliseconds letters zone (codes "tsm:") (same_Some _ _ e) refl refl refl
timestamp_again unit.Microseconds p.I64 letters zone e = stamp unit.Microseconds letters zone (codes "tsu:") (same_Some _ _ e) refl refl refl
timestamp_again unit.Nanoseconds p.I64 letters zone e = stamp unit.Nanoseconds letters zone (codes "tsn:") (same_Some _ _ e) refl refl refl
timestamp_again _ _ letters zone e = absurd cc

-- ---- metadata

byte_again : (b : ℕ) (u : TimeUnit) → unit_of_byte b ≡ Some u → b ≡ byte_of u
unfolding unit_of_byte byte_of
byte_again b u e = split (b == 0) (b == 1) (b == 2) (b == 3) (b == 4) refl refl refl refl refl where
  split : (v w x y z : Bool) → (b == 0) ≡ v → (b == 1) ≡ w → (b == 2) ≡ x → (b == 3) ≡ y → (b == 4) ≡ z → b ≡ byte_of u
  split true w x y z e0 e1 e2 e3 e4 =
      let g : Some unit.Nanoseconds ≡ Some u = rw e0 at e in eqb-true b 0 e0 ∙ ap byte_of (same_Some _ _ g)
  split false true x y z e0 e1 e2 e3 e4 =
      let g : Some unit.Microseconds ≡ Some u = rw (e0, e1) at e in eqb-true b 1 e1 ∙ ap byte_of (same_Some _ _ g)
  split false false true y z e0 e1 e2 e3 e4 =
      let g : Some unit.Milliseconds ≡ Some u = rw (e0, e1, e2) at e in eqb-true b 2 e2 ∙ ap byte_of (same_Some _ _ g)
  split false false false true z e0 e1 e2 e3 e4 =
      let g : Some unit.Seconds ≡ Some u = rw (e0, e1, e2, e3) at e in eqb-true b 3 e3 ∙ ap byte_of (same_Some _ _ g)
  split false false false false true e0 e1 e2 e3 e4 =
      let g : Some unit.Days ≡ Some u = rw (e0, e1, e2, e3, e4) at e in eqb-true b 4 e4 ∙ ap byte_of (same_Some _ _ g)
  split false false false false false e0 e1 e2 e3 e4 = absurd (let g = rw (e0, e1, e2, e3, e4) at e in cc)

no_zone : (m : List ℕ) (v : TimeUnit) → unit_and_zone m ≡ Some (v, None) → m ≡ byte_of v ∷ []
unfolding unit_and_zone
no_zone [] v e = absurd cc
no_zone (b ∷ []) v e =
    let x = bind_some (unit_of_byte b) (λ it. Some (it, None)) (v, None) e in
    let is : x.0 ≡ v = ap (λ (q : TimeUnit × Option (List ℕ)). q.0) (same_Some _ _ x.2) in
    ap (λ (k : ℕ). k ∷ []) (byte_again b v (x.1 ∙ ap (λ u. Some u) is))
no_zone (b ∷ low ∷ []) v e = absurd cc
no_zone (b ∷ low ∷ high ∷ rest) v e = split (is_zone low high rest) refl where
  split : (c : Bool) → is_zone low high rest ≡ c → b ∷ low ∷ high ∷ rest ≡ byte_of v ∷ []
  split false test = absurd (let g = rw test at e in cc)
  split true test =
      let g : (unit_of_byte b >>= λ it. Some (it, Some rest)) ≡ Some (v, None) = rw test at e in
      let x = bind_some (unit_of_byte b) (λ it. Some (it, Some rest)) (v, None) g in
      absurd (none-some rest (sym (ap (λ (q : TimeUnit × Option (List ℕ)). q.1) (same_Some _ _ x.2))))

two_bytes : (low high i : ℕ) → low < 256 → high < 256 → get_or (low ∷ high ∷ []) i 0 < 256
two_bytes low high zero l h = l
two_bytes low high (suc zero) l h = h
two_bytes low high (suc (suc i)) l h = omega arith

zone_again : (low high : ℕ) (zone : List ℕ) → low < 256 → high < 256 → is_zone low high zone ≡ true → (low ∷ high ∷ [] ≡ to_le_bytes w16 (length zone)) × (length zone < 2 ^ 16) × (is_utf8 zone ≡ true)
zone_again low high zone l h e =
    let t = both (from_le_bytes w16 (low ∷ high ∷ []) == length zone) (is_utf8 zone) e in
    let is : from_le_bytes w16 (low ∷ high ∷ []) ≡ length zone = eqb-true _ _ t.0 in
    let sum : low + high * 256 ≡ length zone = is in
    (sym (le_bytes_2 (low ∷ high ∷ []) (length zone) refl (λ i. two_bytes low high i l h) (sym is)), omega (arith, sum, l, h), t.1)

abbrev IsZoned : List ℕ → TimeUnit → List ℕ → Type 0
IsZoned m v zone = (m ≡ zoned v zone) × (length zone < 2 ^ 16) × (is_utf8 zone ≡ true)

with_zone : (m : List ℕ) (v : TimeUnit) (zone : List ℕ) → Bytes m → unit_and_zone m ≡ Some (v, Some zone) → IsZoned m v zone
unfolding unit_and_zone
with_zone [] v zone bytes e = absurd cc
with_zone (b ∷ []) v zone bytes e =
    let x = bind_some (unit_of_byte b) (λ it. Some (it, None)) (v, Some zone) e in
    absurd (let h : None ≡ Some zone = ap (λ (q : TimeUnit × Option (List ℕ)). q.1) (same_Some _ _ x.2) in cc)
with_zone (b ∷ low ∷ []) v zone bytes e = absurd cc
with_zone (b ∷ low ∷ high ∷ rest) v zone bytes e = split (is_zone low high rest) refl where
  split : (c : Bool) → is_zone low high rest ≡ c → IsZoned (b ∷ low ∷ high ∷ rest) v zone
  split false test = absurd (let g = rw test at e in cc)
  split true test =
      let l : low < 256 = bytes 1 0 (omega arith) in
      let h : high < 256 = bytes 2 0 (omega arith) in
      let g : (unit_of_byte b >>= λ it. Some (it, Some rest)) ≡ Some (v, Some zone) = rw test at e in
      let x = bind_some (unit_of_byte b) (λ it. Some (it, Some rest)) (v, Some zone) g in
      let is : x.0 ≡ v = ap (λ (q : TimeUnit × Option (List ℕ)). q.0) (same_Some _ _ x.2) in
      let same : rest ≡ zone = same_Some _ _ (ap (λ (q : TimeUnit × Option (List ℕ)). q.1) (same_Some _ _ x.2)) in
      let z = zone_again low high rest l h test in
      let whole : b ∷ low ∷ high ∷ rest ≡ zoned v rest = ap (λ (k : ℕ). k ∷ low ∷ high ∷ rest) (byte_again b v (x.1 ∙ ap (λ u. Some u) is)) ∙ ap (λ (ks : List ℕ). byte_of v ∷ (ks ++ rest)) z.0 in
      subst (λ y. IsZoned (b ∷ low ∷ high ∷ rest) v y) same (whole, z.1, z.2)

-- ---- letters

module _ (id : List ℕ) (v : TimeUnit) (t : PType) (letters : List ℕ) where
  without_zone : letters_of id v t false ≡ Some letters → ((id ≡ codes "vortex.date") × (date_letters v t ≡ Some letters)) ⊎ ((id ≡ codes "vortex.time") × (time_letters v t ≡ Some letters))
  unfolding letters_of
  without_zone e = split (is_text id (codes "vortex.date")) (is_text id (codes "vortex.time")) (is_text id (codes "vortex.timestamp")) refl refl refl where
    split : (a b c : Bool) → is_text id (codes "vortex.date") ≡ a → is_text id (codes "vortex.time") ≡ b → is_text id (codes "vortex.timestamp") ≡ c → ((id ≡ codes "vortex.date") × (date_letters v t ≡ Some letters)) ⊎ ((id ≡ codes "vortex.time") × (time_letters v t ≡ Some letters))
    split true b c x y z = inl (same_text id (codes "vortex.date") x, rw x at e)
    split false true c x y z = inr (same_text id (codes "vortex.time") y, rw (x, y) at e)
    split false false true x y z = absurd (let g = rw (x, y, z) at e in cc)
    split false false false x y z = absurd (let g = rw (x, y, z) at e in cc)

  of_zone : letters_of id v t true ≡ Some letters → (id ≡ codes "vortex.timestamp") × (timestamp_letters v t ≡ Some letters)
  unfolding letters_of
  of_zone e = split (is_text id (codes "vortex.date")) (is_text id (codes "vortex.time")) (is_text id (codes "vortex.timestamp")) refl refl refl where
    split : (a b c : Bool) → is_text id (codes "vortex.date") ≡ a → is_text id (codes "vortex.time") ≡ b → is_text id (codes "vortex.timestamp") ≡ c → (id ≡ codes "vortex.timestamp") × (timestamp_letters v t ≡ Some letters)
    split true true true x y z = (same_text id (codes "vortex.timestamp") z, rw (x, y, z) at e)
    split true false true x y z = (same_text id (codes "vortex.timestamp") z, rw (x, y, z) at e)
    split false true true x y z = (same_text id (codes "vortex.timestamp") z, rw (x, y, z) at e)
    split false false true x y z = (same_text id (codes "vortex.timestamp") z, rw (x, y, z) at e)
    split true true false x y z = absurd (let g = rw (x, y, z) at e in cc)
    split true false false x y z = absurd (let g = rw (x, y, z) at e in cc)
    split false true false x y z = absurd (let g = rw (x, y, z) at e in cc)
    split false false false x y z = absurd (let g = rw (x, y, z) at e in cc)

-- ---- types

tree_same : (id id' m m' : List ℕ) (t t' : PType) (n : Nullability) → id ≡ id' → m ≡ m' → t ≡ t' → extension id' m' (primitive t' n) ≡ extension id m (primitive t n)
tree_same id id' m m' t t' n a b c = sym (ap (λ x. extension x m (primitive t n)) a ∙ ap (λ x. extension id' x (primitive t n)) b ∙ ap (λ x. extension id' m' (primitive x n)) c)

module _ (id m : List ℕ) (t : PType) (n : Nullability) (v : TimeUnit) (letters : List ℕ) (bytes : Bytes m) where
  plain_again : unit_and_zone m ≡ Some (v, None) → letters_of id v t false ≡ Some letters → IsTemporal (letters ++ []) n (extension id m (primitive t n))
  unfolding date_tree time_tree
  plain_again e l = split (without_zone id v t letters l) where
    split : ((id ≡ codes "vortex.date") × (date_letters v t ≡ Some letters)) ⊎ ((id ≡ codes "vortex.time") × (time_letters v t ≡ Some letters)) → IsTemporal (letters ++ []) n (extension id m (primitive t n))
    split (inl h) =
        let d = date_again v t letters h.1 in
        (v, inl (ap format_of (append-nil letters) ∙ d.0, tree_same id (codes "vortex.date") m (byte_of v ∷ []) t (date_ptype v) n h.0 (no_zone m v e) d.1))
    split (inr h) =
        let d = time_again v t letters h.1 in
        (v, inr (inl (ap format_of (append-nil letters) ∙ d.0, tree_same id (codes "vortex.time") m (byte_of v ∷ []) t (time_ptype v) n h.0 (no_zone m v e) d.1)))

  zoned_again : (zone : List ℕ) → unit_and_zone m ≡ Some (v, Some zone) → letters_of id v t true ≡ Some letters → IsTemporal (letters ++ zone) n (extension id m (primitive t n))
  unfolding timestamp_tree
  zoned_again zone e l =
      let h = of_zone id v t letters l in
      let s = timestamp_again v t letters zone h.1 in
      let z = with_zone m v zone bytes e in
      let test : nat_lt (length zone) (2 ^ 16) ≡ true = grind (arith, nat_tests, z.1) in
      let made : timestamp_tree v zone n ≡ Some (extension (codes "vortex.timestamp") (zoned v zone) (primitive p.I64 n)) = rw (test, z.2) refl in
      let same : extension (codes "vortex.timestamp") (zoned v zone) (primitive p.I64 n) ≡ extension id m (primitive t n) = tree_same id (codes "vortex.timestamp") m (zoned v zone) t p.I64 n h.0 z.0 s.2 in
      (v, inr (inr (s.0, ap (λ x. timestamp_tree v x n) s.1 ∙ made ∙ ap (λ x. Some x) same)))

  found : (z : Option (List ℕ)) → unit_and_zone m ≡ Some (v, z) → letters_of id v t (is_some z) ≡ Some letters → IsTemporal (letters ++ or_empty z) n (extension id m (primitive t n))
  found None e l = plain_again e l
  found (Some zone) e l = zoned_again zone e l

abbrev as_written : List ℕ → Option (List ℕ) → Nullability → Written
as_written letters z n = record { letters = letters; zone = or_empty z; nullability = n; is_list = false }

abbrev IsDated : Written → Tree → Type 0
IsDated t d = IsTemporal (t.letters ++ t.zone) t.nullability d × (t.is_list ≡ false)

temporal_again : (id m : List ℕ) (s : Tree) (t : Written) → Bytes m → temporal_of id m s ≡ Some t → IsDated t (extension id m s)
unfolding temporal_of
temporal_again id m (primitive ptype n) t bytes e =
    let u = bind_some (unit_and_zone m) (λ u. letters_of id u.0 ptype (is_some u.1) >>= λ letters. Some (as_written letters u.1 n)) t e in
    let l = bind_some (letters_of id u.0.0 ptype (is_some u.0.1)) (λ letters. Some (as_written letters u.0.1 n)) t u.2 in
    subst (λ (w : Written). IsDated w (extension id m (primitive ptype n))) (same_Some _ _ l.2) (found id m ptype n u.0.0 l.0 bytes u.0.1 u.1 l.1, refl)
temporal_again id m s t bytes e = absurd cc

-- ---- durations and intervals

abbrev some_kept : Kept → Option Kept
some_kept x = Some x

word_kept : (given m : List ℕ) (it k : Kept) → is_text m given ≡ true → some_kept it ≡ some_kept k → format_of given ≡ Some (f.Kept it) → format_of m ≡ Some (f.Kept k)
word_kept given m it k test same says = ap format_of (same_text m given test) ∙ says ∙ ap (λ x. Some (f.Kept x)) (same_Some _ _ same)

kept_again : (m : List ℕ) (k : Kept) → kept_of m ≡ Some k → format_of m ≡ Some (f.Kept k)
unfolding kept_of word_of nested_word_of time_of
kept_again m k e = split (is_text m (codes "tDs")) (is_text m (codes "tDm")) (is_text m (codes "tDu")) (is_text m (codes "tDn")) (is_text m (codes "tiM")) (is_text m (codes "tiD")) (is_text m (codes "tin")) refl refl refl refl refl refl refl where
  says : (given : List ℕ) (it : Kept) → is_text m given ≡ true → some_kept it ≡ some_kept k → format_of given ≡ Some (f.Kept it) → format_of m ≡ Some (f.Kept k)
  says given it = word_kept given m it k

  split : (a b c d x y z : Bool) → is_text m (codes "tDs") ≡ a → is_text m (codes "tDm") ≡ b → is_text m (codes "tDu") ≡ c → is_text m (codes "tDn") ≡ d → is_text m (codes "tiM") ≡ x → is_text m (codes "tiD") ≡ y → is_text m (codes "tin") ≡ z → format_of m ≡ Some (f.Kept k)
  split true b c d x y z e0 e1 e2 e3 e4 e5 e6 = let g : some_kept kept.Duration ≡ some_kept k = rw e0 at e in says (codes "tDs") kept.Duration e0 g (word_again (codes "tDs") (f.Kept kept.Duration) refl refl)
  split false true c d x y z e0 e1 e2 e3 e4 e5 e6 = let g : some_kept kept.Duration ≡ some_kept k = rw (e0, e1) at e in says (codes "tDm") kept.Duration e1 g (word_again (codes "tDm") (f.Kept kept.Duration) refl refl)
  split false false true d x y z e0 e1 e2 e3 e4 e5 e6 = let g : some_kept kept.Duration ≡ some_kept k = rw (e0, e1, e2) at e in says (codes "tDu") kept.Duration e2 g (word_again (codes "tDu") (f.Kept kept.Duration) refl refl)
  split false false false true x y z e0 e1 e2 e3 e4 e5 e6 = let g : some_kept kept.Duration ≡ some_kept k = rw (e0, e1, e2, e3) at e in says (codes "tDn") kept.Duration e3 g (word_again (codes "tDn") (f.Kept kept.Duration) refl refl)
  split false false false false true y z e0 e1 e2 e3 e4 e5 e6 = let g : some_kept kept.Months ≡ some_kept k = rw (e0, e1, e2, e3, e4) at e in says (codes "tiM") kept.Months e4 g (word_again (codes "tiM") (f.Kept kept.Months) refl refl)
  split false false false false false true z e0 e1 e2 e3 e4 e5 e6 = let g : some_kept kept.Days ≡ some_kept k = rw (e0, e1, e2, e3, e4, e5) at e in says (codes "tiD") kept.Days e5 g (word_again (codes "tiD") (f.Kept kept.Days) refl refl)
  split false false false false false false true e0 e1 e2 e3 e4 e5 e6 = let g : some_kept kept.Nanoseconds ≡ some_kept k = rw (e0, e1, e2, e3, e4, e5, e6) at e in says (codes "tin") kept.Nanoseconds e6 g (word_again (codes "tin") (f.Kept kept.Nanoseconds) refl refl)
  split false false false false false false false e0 e1 e2 e3 e4 e5 e6 = absurd (let g = rw (e0, e1, e2, e3, e4, e5, e6) at e in cc)

kept_text : (m : List ℕ) (k : Kept) → kept_in m ≡ Some k → kept_of m ≡ Some k
kept_text m k e = split (is_utf8 m) refl where
  split : (c : Bool) → is_utf8 m ≡ c → kept_of m ≡ Some k
  split true u = rw u at e
  split false u = absurd (let g = rw u at e in cc)

only_again : (c : Bool) (n n' : Nullability) → only_if c n ≡ Some n' → (c ≡ true) × (n ≡ n')
only_again true n n' e = (refl, same_Some _ _ e)
only_again false n n' e = absurd cc

kept_as : (it : Kept) (t : PType) (n : Nullability) → is_kept_as it t ≡ true → storage_of it n ≡ primitive t n
unfolding is_kept_as storage_of
kept_as kept.Duration p.I64 n e = refl
kept_as kept.Months p.I32 n e = refl
kept_as _ _ n e = absurd cc

pub a_byte : (t : Tree) → is_byte t ≡ true → t ≡ primitive p.U8 NonNullable
unfolding is_byte byte_is
a_byte (primitive p.U8 NonNullable) e = refl
a_byte _ e = absurd cc

kept_bytes : (it : Kept) (size : ℕ) (n : Nullability) → has_bytes it size ≡ true → storage_of it n ≡ fixed_size_list (primitive p.U8 NonNullable) size n
unfolding has_bytes storage_of
kept_bytes kept.Days size n e = ap (λ (k : ℕ). fixed_size_list (primitive p.U8 NonNullable) k n) (sym (eqb-true size 8 e))
kept_bytes kept.Nanoseconds size n e = ap (λ (k : ℕ). fixed_size_list (primitive p.U8 NonNullable) k n) (sym (eqb-true size 16 e))
kept_bytes kept.Duration size n e = absurd cc
kept_bytes kept.Months size n e = absurd cc

storage_again : (it : Kept) (s : Tree) (n : Nullability) → nullability_in it s ≡ Some n → storage_of it n ≡ s
unfolding nullability_in
storage_again it (primitive t n') n e =
    let o = only_again (is_kept_as it t) n' n e in
    kept_as it t n o.0 ∙ ap (primitive t) (sym o.1)
storage_again it (fixed_size_list element size n') n e =
    let o = only_again (has_bytes it size && is_byte element) n' n e in
    let b = both (has_bytes it size) (is_byte element) o.0 in
    kept_bytes it size n b.0 ∙ ap (λ x. fixed_size_list x size n) (sym (a_byte element b.1)) ∙ ap (fixed_size_list element size) (sym o.1)
storage_again it s n e = absurd cc

abbrev kept_record : Kept → List ℕ → Nullability → Written
kept_record it m n = record { letters = m; zone = []; nullability = n; is_list = is_list it }

kept_same : (id m : List ℕ) (s : Tree) (t : Written) (it : Kept) (n : Nullability) (c : Bool) → kept_of m ≡ Some it → nullability_in it s ≡ Some n → is_text id (id_of it) ≡ c → (if c then Some (kept_record it m n) else None) ≡ Some t → IsKept (t.letters ++ t.zone) t.nullability t.is_list (extension id m s)
kept_same id m s t it n false says nul is e = absurd cc
kept_same id m s t it n true says nul is e =
    subst (λ (w : Written). IsKept (w.letters ++ w.zone) w.nullability w.is_list (extension id m s)) (same_Some _ _ e) (
      it,
      ap format_of (append-nil m) ∙ kept_again m it says,
      refl,
      ap (λ x. extension x (m ++ []) (storage_of it n)) (sym (same_text id (id_of it) is)) ∙ ap (λ x. extension id x (storage_of it n)) (append-nil m) ∙ ap (extension id m) (storage_again it s n nul),
    )

kept_found : (id m : List ℕ) (s : Tree) (t : Written) (it : Kept) → kept_of m ≡ Some it → kept_with it id m s ≡ Some t → IsKept (t.letters ++ t.zone) t.nullability t.is_list (extension id m s)
unfolding kept_with
kept_found id m s t it says e =
    let n = bind_some (nullability_in it s) (λ n. if is_text id (id_of it) then Some (kept_record it m n) else None) t e in
    kept_same id m s t it n.0 (is_text id (id_of it)) says n.1 refl n.2

-- ---- all

pub written_again : (id m : List ℕ) (s : Tree) (t : Written) → Bytes m → written_of id m s ≡ Some t → StandsFor t (extension id m s)
unfolding written_of kept_written
written_again id m s t bytes e = split (temporal_of id m s) refl where
  split : (o : Option Written) → temporal_of id m s ≡ o → StandsFor t (extension id m s)
  split (Some w) is = let g : Some w ≡ Some t = rw is at e in inl (temporal_again id m s t bytes (is ∙ g))
  split None is =
      let g : kept_written id m s ≡ Some t = rw is at e in
      let b = bind_some (kept_in m) (λ it. kept_with it id m s) t g in
      inr (kept_found id m s t b.0 (kept_text m b.0 b.1) b.2)

pub dates_again : (id m : List ℕ) (s : Tree) → Bytes m → IfSome (written_of id m s) (λ w. StandsFor w (extension id m s))
dates_again id m s bytes = go (written_of id m s) refl
  where
    go : (r : Option Written) → written_of id m s ≡ r → IfSome r (λ w. StandsFor w (extension id m s))
    go (Some w) is = written_again id m s w bytes is
    go None is = tt
