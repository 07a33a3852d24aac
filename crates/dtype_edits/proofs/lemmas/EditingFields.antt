-- SPDX-License-Identifier: Apache-2.0
-- SPDX-FileCopyrightText: Copyright the Vortex contributors

-- One field more, another type of a field, and other names.
use Rattle.std.proofs.Common.{◌≡◌, ◌≢◌, ◌<◌, ◌≤◌, ◌+◌, inl, inr, ℕ, zero, suc, List, [], ◌∷◌, ◌++◌, Some, None, IsSome, cond, length, map, set, slice_get, get_or, refl, sym, ap, subst, ◌∙◌, arith}
use Rattle.std.specs.List.{insert, zip}
use Rattle.std.specs.Str.{bytes_eq}
use Rattle.std.proofs.lemmas.Bool.{cases_lt, cond_both, false≢true}
use Rattle.std.proofs.lemmas.List.Edits.{insert_end}
use Rattle.std.specs.Option.{is_some, option_map}
use Rattle.std.proofs.lemmas.List.{length-map}
use Rattle.std.proofs.lemmas.Option.{same_Some, slice_get-get_or, slice_get-map, slice_get_read, slice_get_within}
use Rattle.std.proofs.lemmas.Slice.Eq.{bytes_eq-Decides}
use Rattle.dtype_base.specs.Distinct.{Distinct}
use Rattle.dtype_base.specs.FieldNames.{FirstAt, IsAbsent, first_place}
use Rattle.dtype_base.proofs.lemmas.Lookups.{absent_of_place, first_of_place}
use Rattle.dtype_types.specs.parts.Lookups.{field_names, field_types, first_named}
use Rattle.dtype_types.specs.tree.Tree.{Tree, fields}
use Rattle.dtype_types.specs.tree.TreeOf.{children, fields_of, tree}
use Rattle.dtype_types.specs.tree.Valid.{Valid, ValidItems}
use Rattle.dtype_types.specs.declared.dtype.DType.{DType}
use Rattle.dtype_types.specs.declared.struct_fields.StructFields.{StructFields}
use Rattle.dtype_types.proofs.lemmas.Lookups.{other_name, taken_same_name}
use Rattle.dtype_paths.proofs.lemmas.Cases.{by_option}
use Rattle.dtype_edits.specs.EditedFields.{IsFirstRepeat, new_name, renamed, with_named}

-- the names beside the types are the fields
zipped : (ps : List (List ℕ × Tree)) → zip (field_names ps) (field_types ps) ≡ ps
zipped [] = refl
zipped (p ∷ ps) = ap (λ qs. p ∷ qs) (zipped ps)

-- ---- one field more

zip_inserted : (ps : List (List ℕ × Tree)) (i : ℕ) (n : List ℕ) (t : Tree) → zip (insert (field_names ps) i n) (insert (field_types ps) i t) ≡ insert ps i (n, t)
zip_inserted [] zero n t = refl
zip_inserted [] (suc i) n t = refl
zip_inserted (p ∷ ps) zero n t = ap (λ qs. (n, t) ∷ p ∷ qs) (zipped ps)
zip_inserted (p ∷ ps) (suc i) n t = ap (λ qs. p ∷ qs) (zip_inserted ps i n t)

trees_inserted : (ds : List DType) (i : ℕ) (d : DType) → map tree (insert ds i d) ≡ insert (map tree ds) i (tree d)
trees_inserted [] zero d = refl
trees_inserted [] (suc i) d = refl
trees_inserted (x ∷ ds) zero d = refl
trees_inserted (x ∷ ds) (suc i) d = ap (λ ts. tree x ∷ ts) (trees_inserted ds i d)

-- of names and types that are put together again
pub fields_inserted : (ps qs : List (List ℕ × Tree)) (ns ms : List (List ℕ)) (ds es : List DType) (i : ℕ) (n : List ℕ) (d : DType) → qs ≡ zip ms (map tree es)
    → ms ≡ insert ns i n → es ≡ insert ds i d → ns ≡ field_names ps → map tree ds ≡ field_types ps → qs ≡ insert ps i (n, tree d)
fields_inserted ps qs ns ms ds es i n d made names types of_names of_types =
    made
    ∙ ap (λ xs. zip xs (map tree es)) (names ∙ ap (λ xs. insert xs i n) of_names)
    ∙ ap (λ ts. zip (insert (field_names ps) i n) ts) (ap (map tree) types ∙ trees_inserted ds i d ∙ ap (λ ts. insert ts i (tree d)) of_types)
    ∙ zip_inserted ps i n (tree d)

pub field_pushed : (ps qs : List (List ℕ × Tree)) (i : ℕ) (p : List ℕ × Tree) → qs ≡ insert ps i p → i ≡ length ps → qs ≡ ps ++ p ∷ []
field_pushed ps qs i p e last = e ∙ ap (λ k. insert ps k p) last ∙ insert_end ps p

valid_inserted : (ps : List (List ℕ × Tree)) (i : ℕ) (n : List ℕ) (t : Tree) → ValidItems (fields ps) → Valid t → ValidItems (fields (insert ps i (n, t)))
valid_inserted [] zero n t v w = (w, tt)
valid_inserted [] (suc i) n t v w = (w, tt)
valid_inserted (p ∷ ps) zero n t v w = (w, v)
valid_inserted (p ∷ ps) (suc i) n t v w = (v.0, valid_inserted ps i n t v.1 w)

pub insertion_valid : (s r : StructFields) (i : ℕ) (n : List ℕ) (t : Tree) → children r ≡ insert (children s) i (n, t) → ValidItems (fields_of s) → Valid t → ValidItems (fields_of r)
insertion_valid s r i n t e v w = subst (λ ps. ValidItems (fields ps)) (sym e) (valid_inserted (children s) i n t v w)

-- ---- the type of the first field with a name

type_set : (ps : List (List ℕ × Tree)) (m : List ℕ) (i : ℕ) (u : Tree) → FirstAt (field_names ps) m i → zip (field_names ps) (set (field_types ps) i u) ≡ with_named ps m u
type_set [] m i u at = let q = at.here in cc
type_set (p ∷ ps) m zero u at =
    ap (λ qs. (p.0, u) ∷ qs) (zipped ps) ∙ sym (taken_same_name p.0 m ((p.0, u) ∷ ps) _ (same_Some p.0 m at.here))
type_set (p ∷ ps) m (suc i) u at =
    ap (λ qs. p ∷ qs) (type_set ps m i u (record { here = at.here; first = λ k lt. at.first (suc k) (omega (arith, lt)) }))
    ∙ sym (other_name p.0 m ((p.0, u) ∷ ps) _ (λ e. at.first 0 (omega arith) (ap Some e)))

field_added : (ps : List (List ℕ × Tree)) (m : List ℕ) (u : Tree) → IsAbsent (field_names ps) m → ps ++ (m, u) ∷ [] ≡ with_named ps m u
field_added [] m u none = refl
field_added (p ∷ ps) m u none = ap (λ qs. p ∷ qs) (field_added ps m u (λ k. none (suc k))) ∙ sym (other_name p.0 m ((p.0, u) ∷ ps) _ (λ e. none 0 (ap Some e)))

pub named_type_set : (ps qs : List (List ℕ × Tree)) (m : List ℕ) (i : ℕ) (u : Tree) → Some i ≡ first_place (field_names ps) m → qs ≡ zip (field_names ps) (set (field_types ps) i u) → qs ≡ with_named ps m u
named_type_set ps qs m i u at e = e ∙ type_set ps m i u (first_of_place (field_names ps) m i at)

pub named_field_added : (ps qs : List (List ℕ × Tree)) (m : List ℕ) (u : Tree) → None ≡ first_place (field_names ps) m → qs ≡ ps ++ (m, u) ∷ [] → qs ≡ with_named ps m u
named_field_added ps qs m u none e = e ∙ field_added ps m u (absent_of_place (field_names ps) m none)

-- the name leads to the new type
pub named_there : (ps : List (List ℕ × Tree)) (m : List ℕ) (u : Tree) → first_named (with_named ps m u) m ≡ Some u
named_there [] m u = taken_same_name m m (Some u) None refl
named_there (p ∷ ps) m u = cond_both (bytes_eq p.0 m) ((p.0, u) ∷ ps) (p ∷ with_named ps m u) (λ qs. first_named qs m ≡ Some u)
    (λ e. ap (λ b. cond b (Some u) (first_named ps m)) e)
    (λ e. ap (λ b. cond b (Some p.1) (first_named (with_named ps m u) m)) e ∙ named_there ps m u)

-- and another name where it led
pub named_others : (ps : List (List ℕ × Tree)) (m n : List ℕ) (u : Tree) → n ≢ m → first_named (with_named ps m u) n ≡ first_named ps n
named_others [] m n u ne = other_name m n (Some u) None (λ e. ne (sym e))
named_others (p ∷ ps) m n u ne = cond_both (bytes_eq p.0 m) ((p.0, u) ∷ ps) (p ∷ with_named ps m u) (λ qs. first_named qs n ≡ first_named (p ∷ ps) n)
    (λ e.
    let other : p.0 ≢ n = λ s. ne (sym s ∙ (bytes_eq-Decides p.0 m).0 e) in
    other_name p.0 n (Some u) (first_named ps n) other ∙ sym (other_name p.0 n (Some p.1) (first_named ps n) other))
    (λ e. ap (λ r. cond (bytes_eq p.0 n) (Some p.1) r) (named_others ps m n u ne))

-- the names stay if one of the fields has this name
pub names_kept : (ps : List (List ℕ × Tree)) (m : List ℕ) (u : Tree) → IsSome (first_named ps m) → field_names (with_named ps m u) ≡ field_names ps
names_kept [] m u h = absurd (false≢true h)
names_kept (p ∷ ps) m u h = cond_both (bytes_eq p.0 m) ((p.0, u) ∷ ps) (p ∷ with_named ps m u) (λ qs. field_names qs ≡ field_names (p ∷ ps))
    (λ e. refl)
    (λ e. ap (λ ns. p.0 ∷ ns) (names_kept ps m u (sym (ap (λ b. is_some (cond b (Some p.1) (first_named ps m))) e) ∙ h)))

-- a type is replaced by itself
pub named_itself : (ps : List (List ℕ × Tree)) (m : List ℕ) (u : Tree) → first_named ps m ≡ Some u → with_named ps m u ≡ ps
named_itself [] m u e = cc
named_itself (p ∷ ps) m u e = cond_both (bytes_eq p.0 m) ((p.0, u) ∷ ps) (p ∷ with_named ps m u) (λ qs. qs ≡ p ∷ ps)
    (λ h. ap (λ t. (p.0, t) ∷ ps) (same_Some u p.1 (sym e ∙ ap (λ b. cond b (Some p.1) (first_named ps m)) h)))
    (λ h. ap (λ qs. p ∷ qs) (named_itself ps m u (sym (ap (λ b. cond b (Some p.1) (first_named ps m)) h) ∙ e)))

-- the last type counts
pub named_again : (ps : List (List ℕ × Tree)) (m : List ℕ) (u v : Tree) → with_named (with_named ps m u) m v ≡ with_named ps m v
named_again [] m u v = taken_same_name m m ((m, v) ∷ []) ((m, u) ∷ with_named [] m v) refl
named_again (p ∷ ps) m u v = cond_both (bytes_eq p.0 m) ((p.0, u) ∷ ps) (p ∷ with_named ps m u) (λ qs. with_named qs m v ≡ with_named (p ∷ ps) m v)
    (λ h. ap (λ b. cond b ((p.0, v) ∷ ps) ((p.0, u) ∷ with_named ps m v)) h ∙ sym (ap (λ b. cond b ((p.0, v) ∷ ps) (p ∷ with_named ps m v)) h))
    (λ h.
    ap (λ b. cond b ((p.0, v) ∷ with_named ps m u) (p ∷ with_named (with_named ps m u) m v)) h
    ∙ ap (λ qs. p ∷ qs) (named_again ps m u v)
    ∙ sym (ap (λ b. cond b ((p.0, v) ∷ ps) (p ∷ with_named ps m v)) h))

named_valid : (ps : List (List ℕ × Tree)) (m : List ℕ) (u : Tree) → ValidItems (fields ps) → Valid u → ValidItems (fields (with_named ps m u))
named_valid [] m u v w = (w, tt)
named_valid (p ∷ ps) m u v w = cond_both (bytes_eq p.0 m) ((p.0, u) ∷ ps) (p ∷ with_named ps m u) (λ qs. ValidItems (fields qs))
    (λ e. (w, v.1))
    (λ e. (v.0, named_valid ps m u v.1 w))

pub with_named_valid : (s r : StructFields) (m : List ℕ) (u : Tree) → children r ≡ with_named (children s) m u → ValidItems (fields_of s) → Valid u → ValidItems (fields_of r)
with_named_valid s r m u e v w = subst (λ ps. ValidItems (fields ps)) (sym e) (named_valid (children s) m u v w)

-- ---- other names

new_at : (rs : List (List ℕ × List ℕ)) (n : List ℕ) (i : ℕ) → FirstAt (map (λ r. r.0) rs) n i → slice_get (map (λ r. r.1) rs) i ≡ Some (new_name rs n)
new_at [] n i at = let q = at.here in cc
new_at (r ∷ rs) n zero at = ap Some (sym (taken_same_name r.0 n r.1 (new_name rs n) (same_Some r.0 n at.here)))
new_at (r ∷ rs) n (suc i) at =
    new_at rs n i (record { here = at.here; first = λ k lt. at.first (suc k) (omega (arith, lt)) })
    ∙ ap Some (sym (other_name r.0 n r.1 (new_name rs n) (λ e. at.first 0 (omega arith) (ap Some e))))

pub kept_name : (rs : List (List ℕ × List ℕ)) (n : List ℕ) → IsAbsent (map (λ r. r.0) rs) n → new_name rs n ≡ n
kept_name [] n none = refl
kept_name (r ∷ rs) n none = other_name r.0 n r.1 (new_name rs n) (λ e. none 0 (ap Some e)) ∙ kept_name rs n (λ k. none (suc k))

-- what is read beside the old name
pub name_read : (rs : List (List ℕ × List ℕ)) (n : List ℕ) (i : ℕ) (r : List ℕ × List ℕ) → Some i ≡ first_place (map (λ q. q.0) rs) n → r ≡ get_or rs i r → r.1 ≡ new_name rs n
name_read rs n i r e read =
    let at = first_of_place (map (λ q. q.0) rs) n i e in
    let within : i < length rs = omega (arith, slice_get_within (map (λ q. q.0) rs) i n at.here, length-map rs (λ q. q.0)) in
    same_Some r.1 (new_name rs n) (ap (option_map (λ q. q.1)) (sym (slice_get_read rs (length rs) i r refl within read)) ∙ sym (slice_get-map (λ q. q.1) rs i) ∙ new_at rs n i at)

pub name_missing : (rs : List (List ℕ × List ℕ)) (n : List ℕ) → None ≡ first_place (map (λ r. r.0) rs) n → n ≡ new_name rs n
name_missing rs n e = sym (kept_name rs n (absent_of_place (map (λ r. r.0) rs) n e))

zip_renamed : (rs : List (List ℕ × List ℕ)) (ps : List (List ℕ × Tree)) → zip (map (new_name rs) (field_names ps)) (field_types ps) ≡ renamed rs ps
zip_renamed rs [] = refl
zip_renamed rs (p ∷ ps) = ap (λ qs. (new_name rs p.0, p.1) ∷ qs) (zip_renamed rs ps)

-- of names and types that are put together again
pub fields_renamed : (rs : List (List ℕ × List ℕ)) (ps qs : List (List ℕ × Tree)) (ns : List (List ℕ)) (ds : List DType) → qs ≡ zip ns (map tree ds) → ns ≡ map (new_name rs) (field_names ps) → map tree ds ≡ field_types ps → qs ≡ renamed rs ps
fields_renamed rs ps qs ns ds made names types = made ∙ ap (λ xs. zip xs (map tree ds)) names ∙ ap (λ ts. zip (map (new_name rs) (field_names ps)) ts) types ∙ zip_renamed rs ps

names_renamed : (rs : List (List ℕ × List ℕ)) (ps : List (List ℕ × Tree)) → field_names (renamed rs ps) ≡ map (new_name rs) (field_names ps)
names_renamed rs [] = refl
names_renamed rs (p ∷ ps) = ap (λ ns. new_name rs p.0 ∷ ns) (names_renamed rs ps)

pub renamed_names : (rs : List (List ℕ × List ℕ)) (ps qs : List (List ℕ × Tree)) → qs ≡ renamed rs ps → field_names qs ≡ map (new_name rs) (field_names ps)
renamed_names rs ps qs e = ap field_names e ∙ names_renamed rs ps

-- the types stay
pub renamed_types : (rs : List (List ℕ × List ℕ)) (ps : List (List ℕ × Tree)) → field_types (renamed rs ps) ≡ field_types ps
renamed_types rs [] = refl
renamed_types rs (p ∷ ps) = ap (λ ts. p.1 ∷ ts) (renamed_types rs ps)

-- the first pair with an old name counts
pub name_there : (rs : List (List ℕ × List ℕ)) (n : List ℕ) (i : ℕ) (r : List ℕ × List ℕ) → FirstAt (map (λ q. q.0) rs) n i → slice_get rs i ≡ Some r → new_name rs n ≡ r.1
name_there rs n i r at e = same_Some (new_name rs n) r.1 (sym (new_at rs n i at) ∙ slice_get-map (λ q. q.1) rs i ∙ ap (option_map (λ q. q.1)) e)

renamed_valid : (rs : List (List ℕ × List ℕ)) (ps : List (List ℕ × Tree)) → ValidItems (fields ps) → ValidItems (fields (renamed rs ps))
renamed_valid rs [] v = tt
renamed_valid rs (p ∷ ps) v = (v.0, renamed_valid rs ps v.1)

pub renaming_valid : (rs : List (List ℕ × List ℕ)) (s r : StructFields) → children r ≡ renamed rs (children s) → ValidItems (fields_of s) → ValidItems (fields_of r)
renaming_valid rs s r e v = subst (λ ps. ValidItems (fields ps)) (sym e) (renamed_valid rs (children s) v)

-- ---- the first name that repeats

-- each of the first names is the first of its kind
abbrev pub AreFirst : List (List ℕ) → ℕ → Type 0
AreFirst ns i = (k : ℕ) (m : List ℕ) → k < i → slice_get ns k ≡ Some m → first_place ns m ≡ Some k

pub first_more : (ns : List (List ℕ)) (i : ℕ) (n : List ℕ) → AreFirst ns i → slice_get ns i ≡ Some n → first_place ns n ≡ Some i → AreFirst ns (i + 1)
first_more ns i n h at first k m before is = elim (cases_lt k i) [
  | inl b ↦ h k m b is
  | inr past ↦ let e : k ≡ i = omega (arith, before, past) in let same : m ≡ n = same_Some m n (sym is ∙ ap (slice_get ns) e ∙ at) in ap (first_place ns) same ∙ first ∙ ap Some (sym e)
]

pub all_first_distinct : (ns : List (List ℕ)) (i : ℕ) → AreFirst ns i → length ns ≤ i → Distinct ns
all_first_distinct ns i h all j k d before within same =
    let at_j : slice_get ns j ≡ Some (get_or ns k d) = slice_get-get_or ns j d (omega (arith, before, within)) ∙ ap Some same in
    let at_k : slice_get ns k ≡ Some (get_or ns k d) = slice_get-get_or ns k d within in
    let one : j ≡ k = same_Some j k (sym (h j (get_or ns k d) (omega (arith, before, within, all)) at_j) ∙ h k (get_or ns k d) (omega (arith, within, all)) at_k) in
    omega (arith, before, one)

earlier_first : (ns : List (List ℕ)) (i j : ℕ) (n : List ℕ) → AreFirst ns i → slice_get ns i ≡ Some n → Some j ≡ first_place ns n → j ≢ i → IsFirstRepeat ns n
earlier_first ns i j n h at found ne =
    let first = first_of_place ns n j found in
    record {
      place = i;
      here = at;
      earlier = j;
      before = elim (cases_lt i j) [ inl lt ↦ absurd (first.first i lt at) | inr ge ↦ omega (arith, ge, ne) ];
      same = first.here;
      first = λ a b m lt below is again. ne' a b m lt below is again;
    }
  where
    ne' : (a b : ℕ) (m : List ℕ) → a < b → b < i → slice_get ns a ≡ Some m → slice_get ns b ≢ Some m
    ne' a b m lt below is again =
        let one : a ≡ b = same_Some a b (sym (h a m (omega (arith, lt, below)) is) ∙ h b m below again) in
        omega (arith, lt, one)

pub repeat_found : (ns : List (List ℕ)) (i : ℕ) (n : List ℕ) → AreFirst ns i → slice_get ns i ≡ Some n → first_place ns n ≢ Some i → IsFirstRepeat ns n
repeat_found ns i n h at ne = by_option (first_place ns n)
    (λ none. absurd (absent_of_place ns n (sym none) i at))
    (λ j some. earlier_first ns i j n h at (sym some) (λ e. ne (some ∙ ap Some e)))
