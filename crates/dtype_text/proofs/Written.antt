-- SPDX-License-Identifier: Apache-2.0
-- SPDX-FileCopyrightText: Copyright the Vortex contributors

-- What is written of a type is spelled so.
use Rattle.std.proofs.Common.{◌≡◌, ℕ, suc, ◌+◌, ◌*◌, ◌/◌, ◌%◌, ◌^◌, ◌<◌, ◌≤◌, Bool, true, false, cond, not, ◌==◌, List, [], ◌∷◌, ◌++◌, length, Some, refl, sym, ap, subst, ◌∙◌, append_assoc, arith, inl, inr}
use Rattle.std.specs.Prelude.{codes, decimal as digits, ◌⊎◌, ℤ, pos, negsuc, neg_ℤ, ◌≤ℤ◌}
use Rattle.std.specs.Fmt.{signed_decimal}
use Rattle.dtype_base.specs.Decimals.{IsDecimalWithin}
use Rattle.dtype_types.specs.texts.Text.{bool_text}
use Rattle.std.specs.List.{list_all, flat_map, join_by, AllByRecursion}
use Rattle.std.specs.Char.{is_ascii_digit, is_ascii_control, digit_value}
use Rattle.std.specs.Str.{is_utf8}
use Rattle.std.specs.Str.Parse.{AllDigits}
use Rattle.std.proofs.lemmas.Bool.{eqb-true, eq-eqb}
use Rattle.std.proofs.lemmas.Bool.Decides.{nat_tests}
use Rattle.std.proofs.lemmas.List.{append-nil}
use Rattle.std.proofs.lemmas.Fmt.{decimal_is_IsNumeral}
use Rattle.dtype_base.specs.Escapes.{hex_digit, escaped_byte, escaped}
use Rattle.dtype_base.specs.Nullability.{nullability_text}
use Rattle.dtype_base.specs.Primitives.{ptype_row}
use Rattle.dtype_types.specs.tree.Tree as of
use Rattle.dtype_types.specs.tree.Tree.{Tree, Items, a_struct, no_items, item}
use Rattle.dtype_text.specs.Bare.{is_bare_name, is_bare_id}
use Rattle.dtype_text.specs.Leaves.{hex_at, hex_byte_at, meaning, escape_at, unit_at}
use Rattle.dtype_text.specs.Source.{source, item_sources, name_source, item_source, id_source, byte_source, hex_source}
use Rattle.dtype_text.specs.Grammar.{decimal_parts as d_parts, sorted_part, signed, metadata, ident, hexes, Lang, lit, ◌<>◌, blanks, spaced, numeral, mark, units, in_quotes, named, in_parentheses, number, tag_part, an_item, Stands, levels, Spells, SpellsItems, AreTexts, ItemsAreTexts}
use Rattle.std.proofs.lemmas.List.Elements.{recursion_from_All}
use Rattle.std.specs.Cmp.Lexicographic.{bytes_decides}
use Rattle.dtype_types.specs.tree.Tree.{Holder, Tag, a_union, triples, Variants}
use Rattle.dtype_types.specs.tree.Valid.{Valid, ValidItems}
use Rattle.dtype_types.specs.parts.Lookups.{variant_tags}
use Rattle.dtype_types.specs.parts.Unions.{AreConsecutive, are_consecutive, AreVariants}
use Rattle.std.specs.List.{range_with_len}
use Rattle.dtype_text.proofs.LeavesSound.{hex_again}

-- one text after another
pub joined : (P Q : List ℕ → Type 0) (x y : List ℕ) → P x → Q y → (P <> Q) (x ++ y)
joined P Q x y p q = (x, y, p, q, refl)

-- ---- names

digit_again : (d : ℕ) → d < 16 → hex_at (hex_digit d) ≡ Some d
digit_again d lt = grind (arith, nat_tests)

control_again : (b : ℕ) → b < 128 → unit_at (92 ∷ 120 ∷ hex_digit (b / 16) ∷ hex_digit (b % 16) ∷ []) ≡ Some (b, [])
unfolding unit_at escape_at
control_again b lt =
    let high : b / 16 < 16 = omega arith in
    let low : b % 16 < 16 = omega arith in
    let sum : 16 * (b / 16) + b % 16 ≡ b = omega arith in
    hex_again (hex_digit (b / 16)) (hex_digit (b % 16)) (b / 16) (b % 16) [] (digit_again (b / 16) high) (digit_again (b % 16) low) ∙ ap (λ (c : ℕ). Some (c, [])) sum

abbrev IsUnit : ℕ → List ℕ → Type 0
IsUnit b u = (unit_at u ≡ Some (b, [])) × (u ≡ 34 ∷ [] → ⊥)

either_way : (c : Bool) (P : List ℕ → Type 0) (x y : List ℕ) → (c ≡ true → P x) → (c ≡ false → P y) → P (cond c x y)
either_way true P x y f g = f refl
either_way false P x y f g = g refl

control_small : (b : ℕ) → is_ascii_control b ≡ true → b < 128
control_small b e = grind (arith, nat_tests)

escape_unit : (b m : ℕ) → meaning b ≡ Some m → (b == 120) ≡ false → IsUnit m (92 ∷ b ∷ [])
unfolding unit_at escape_at
escape_unit b m e other = (rw (other, e) refl, λ is. cc)

plain_unit : (b : ℕ) → (b == 92) ≡ false → (b == 34) ≡ false → IsUnit b (b ∷ [])
unfolding unit_at
plain_unit b slash quote = (rw slash refl, λ is. let h : b ≡ 34 = cc in let t : (b == 34) ≡ true = eq-eqb b 34 h in let clash : true ≡ false = sym t ∙ quote in absurd cc)

byte_written : (b : ℕ) → IsUnit b (escaped_byte b)
unfolding escaped_byte meaning
byte_written b =
    either_way (b == 92) (IsUnit b) _ _ (λ t. subst (λ c. IsUnit c (92 ∷ 92 ∷ [])) (sym (eqb-true b 92 t)) (escape_unit 92 92 refl refl)) (λ slash.
    either_way (b == 34) (IsUnit b) _ _ (λ t. subst (λ c. IsUnit c (92 ∷ 34 ∷ [])) (sym (eqb-true b 34 t)) (escape_unit 34 34 refl refl)) (λ quote.
    either_way (b == 9) (IsUnit b) _ _ (λ t. subst (λ c. IsUnit c (92 ∷ 116 ∷ [])) (sym (eqb-true b 9 t)) (escape_unit 116 9 refl refl)) (λ _.
    either_way (b == 10) (IsUnit b) _ _ (λ t. subst (λ c. IsUnit c (92 ∷ 110 ∷ [])) (sym (eqb-true b 10 t)) (escape_unit 110 10 refl refl)) (λ _.
    either_way (b == 13) (IsUnit b) _ _ (λ t. subst (λ c. IsUnit c (92 ∷ 114 ∷ [])) (sym (eqb-true b 13 t)) (escape_unit 114 13 refl refl)) (λ _.
    either_way (is_ascii_control b) (IsUnit b) _ _ (λ t. (control_again b (control_small b t), λ is. cc)) (λ _. plain_unit b slash quote))))))

units_written : (n : List ℕ) → units n (escaped n)
unfolding escaped
units_written [] = refl
units_written (b ∷ n) = (escaped_byte b, flat_map escaped_byte n, byte_written b, units_written n, refl)

pub name_written : (n : List ℕ) → is_utf8 n ≡ true → named n (name_source n)
name_written n utf8 = (utf8, split (is_bare_name n) refl) where
  split : (c : Bool) → is_bare_name n ≡ c → ((is_bare_name n ≡ true) × (name_source n ≡ n)) ⊎ in_quotes n (name_source n)
  split true e = inl (e, rw e refl)
  split false e = inr (subst (λ t. in_quotes n t) (rw e refl) (joined (lit (codes "\"")) (units n <> lit (codes "\"")) (codes "\"") (escaped n ++ codes "\"") refl (joined (units n) (lit (codes "\"")) (escaped n) (codes "\"") (units_written n) refl)))

ident_written : (n : List ℕ) → is_utf8 n ≡ true → ident n (id_source n)
ident_written n utf8 = (utf8, split (is_bare_id n) refl) where
  split : (c : Bool) → is_bare_id n ≡ c → ((is_bare_id n ≡ true) × (id_source n ≡ n)) ⊎ in_quotes n (id_source n)
  split true e = inl (e, rw e refl)
  split false e = inr (subst (λ t. in_quotes n t) (rw e refl) (joined (lit (codes "\"")) (units n <> lit (codes "\"")) (codes "\"") (escaped n ++ codes "\"") refl (joined (units n) (lit (codes "\"")) (escaped n) (codes "\"") (units_written n) refl)))

pair_written : (b : ℕ) → b < 256 → hex_byte_at (byte_source b) ≡ Some (b, [])
pair_written b lt =
    let high : b / 16 < 16 = omega arith in
    let low : b % 16 < 16 = omega arith in
    let sum : 16 * (b / 16) + b % 16 ≡ b = omega arith in
    hex_again (hex_digit (b / 16)) (hex_digit (b % 16)) (b / 16) (b % 16) [] (digit_again (b / 16) high) (digit_again (b % 16) low) ∙ ap (λ (c : ℕ). Some (c, [])) sum

hexes_written : (bs : List ℕ) → AllByRecursion (λ c. c < 256) bs → hexes bs (flat_map byte_source bs)
hexes_written [] h = refl
hexes_written (b ∷ bs) h = (byte_source b, flat_map byte_source bs, pair_written b h.0, hexes_written bs h.1, refl)

metadata_written : (bs : List ℕ) → AllByRecursion (λ c. c < 256) bs → metadata bs (codes "[" ++ (hex_source bs ++ codes "]"))
unfolding hex_source
metadata_written bs h =
    let x = flat_map byte_source bs in
    let Close = blanks <> lit (codes "]") in
    joined (lit (codes "[")) (blanks <> (lit (codes "0") <> (lit (codes "x") <> (hexes bs <> Close)))) (codes "[") (codes "0" ++ (codes "x" ++ (x ++ codes "]"))) refl
    (joined blanks (lit (codes "0") <> (lit (codes "x") <> (hexes bs <> Close))) [] (codes "0" ++ (codes "x" ++ (x ++ codes "]"))) refl
    (joined (lit (codes "0")) (lit (codes "x") <> (hexes bs <> Close)) (codes "0") (codes "x" ++ (x ++ codes "]")) refl
    (joined (lit (codes "x")) (hexes bs <> Close) (codes "x") (x ++ codes "]") refl
    (joined (hexes bs) Close x (codes "]") (hexes_written bs h)
    (joined blanks (lit (codes "]")) [] (codes "]") refl refl)))))

-- ---- numbers

digit_ascii : (c : ℕ) → digit_value c < 10 → is_ascii_digit c ≡ true
digit_ascii c lt = grind (arith, nat_tests)

digits_ascii : (cs : List ℕ) → AllDigits 10 cs → list_all is_ascii_digit cs ≡ true
digits_ascii [] h = refl
digits_ascii (c ∷ cs) h = rw (digit_ascii c h.0, digits_ascii cs h.1) refl

pub number_written : (n : ℕ) → n < 2 ^ 64 → numeral n (digits n)
number_written n lt =
    let d = decimal_is_IsNumeral n lt in
    (λ e. absurd (omega (arith, d.0.0, ap length e)), digits_ascii (digits n) d.0.1, d.1)

signed_written : (z : ℤ) → neg_ℤ (pos 128) ≤ℤ z → z ≤ℤ pos 76 → signed z (signed_decimal z)
signed_written (pos n) low high =
    let le : n ≤ 127 = grind (arith, high) in
    (n, inl (number_written n (omega (arith, le)), refl, le))
signed_written (negsuc n) low high =
    let le : suc n ≤ 128 = grind (arith, low) in
    (suc n, inr ((codes "-", digits (suc n), refl, number_written (suc n) (omega (arith, le)), refl), refl, le))

decimal_written : (p : ℕ) (z : ℤ) → IsDecimalWithin 76 p z → d_parts p z (codes "(" ++ (digits p ++ (codes "," ++ (signed_decimal z ++ codes ")"))))
decimal_written p z h =
    let Close = blanks <> lit (codes ")") in
    let S = signed z <> Close in
    let x = signed_decimal z in
    joined (lit (codes "(")) (blanks <> (number 255 p <> (spaced (codes ",") <> S))) (codes "(") (digits p ++ (codes "," ++ (x ++ codes ")"))) refl
    (joined blanks (number 255 p <> (spaced (codes ",") <> S)) [] (digits p ++ (codes "," ++ (x ++ codes ")"))) refl
    (joined (number 255 p) (spaced (codes ",") <> S) (digits p) (codes "," ++ (x ++ codes ")")) (omega (arith, h.precision_at_most), number_written p (omega (arith, h.precision_at_most)))
    (joined (spaced (codes ",")) S (codes ",") (x ++ codes ")") ([], codes ",", refl, (codes ",", [], refl, refl, refl), refl)
    (joined (signed z) Close x (codes ")") (signed_written z h.scale_at_least (grind (arith, h.scale_at_most, h.precision_at_most)))
    (joined blanks (lit (codes ")")) [] (codes ")") refl refl)))))

sorted_written : (o : Bool) → sorted_part o (codes ", " ++ (codes "keys_sorted" ++ (codes "=" ++ (bool_text o ++ codes ")"))))
sorted_written o =
    let Close = blanks <> lit (codes ")") in
    let V = lit (bool_text o) in
    joined (spaced (codes ",")) (lit (codes "keys_sorted") <> (spaced (codes "=") <> (V <> Close))) (codes ", ") (codes "keys_sorted" ++ (codes "=" ++ (bool_text o ++ codes ")"))) ([], codes ", ", refl, (codes ",", codes " ", refl, refl, refl), refl)
    (joined (lit (codes "keys_sorted")) (spaced (codes "=") <> (V <> Close)) (codes "keys_sorted") (codes "=" ++ (bool_text o ++ codes ")")) refl
    (joined (spaced (codes "=")) (V <> Close) (codes "=") (bool_text o ++ codes ")") ([], codes "=", refl, (codes "=", [], refl, refl, refl), refl)
    (joined V Close (bool_text o) (codes ")") refl
    (joined blanks (lit (codes ")")) [] (codes ")") refl refl))))

-- ---- types

in_parentheses_written : (L : List ℕ → Type 0) (x : List ℕ) → L x → in_parentheses L (codes "(" ++ (x ++ codes ")"))
in_parentheses_written L x h =
    joined (lit (codes "(")) (blanks <> (L <> (blanks <> lit (codes ")")))) (codes "(") (x ++ codes ")") refl
    (joined blanks (L <> (blanks <> lit (codes ")"))) [] (x ++ codes ")") refl
    (joined L (blanks <> lit (codes ")")) x (codes ")") h
    (joined blanks (lit (codes ")")) [] (codes ")") refl refl)))

-- the same text, with its parts put together in another way
same : (L : List ℕ → Type 0) (x y : List ℕ) → x ≡ y → L x → L y
same L x y e h = subst L e h

-- ---- items

-- the tags are bytes
abbrev SmallTag : (h : Holder) → Tag h → Type 0
SmallTag a_struct g = Unit {0}
SmallTag a_union g = g < 256

abbrev SmallTags : {h : Holder} → Items h → Type 0
SmallTags no_items = Unit {0}
SmallTags {h} (item n t g fs) = SmallTag h g × SmallTags fs

field_tags : (fs : Items a_struct) → SmallTags fs
field_tags no_items = tt
field_tags (item n t g fs) = (tt, field_tags fs)

variant_tags_small : (vs : Variants) → AllByRecursion (λ g. g < 256) (variant_tags (triples vs)) → SmallTags vs
variant_tags_small no_items h = tt
variant_tags_small (item n t g vs) h = (h.0, variant_tags_small vs h.1)

union_tags : (vs : Variants) → AreVariants vs → SmallTags vs
unfolding AreVariants
union_tags vs h = variant_tags_small vs (recursion_from_All (λ g. g < 256) (variant_tags (triples vs)) h.1)

-- what is written between the name of an item and the equals sign
abbrev tag_written : (h : Holder) → Bool → Tag h → List ℕ
tag_written a_struct c g = []
tag_written a_union true g = []
tag_written a_union false g = codes "@" ++ digits g

tag_source_is : (h : Holder) (c : Bool) (g : Tag h) → tag_written h c g ++ codes "=" ≡ item_source h c g
tag_source_is a_struct c g = refl
tag_source_is a_union true g = refl
tag_source_is a_union false g = append_assoc (codes "@") (digits g) (codes "=")

tag_spelled : (h : Holder) (c : Bool) (g : Tag h) → SmallTag h g → tag_part h (not c) g (tag_written h c g)
tag_spelled a_struct c g small = refl
tag_spelled a_union true g small = refl
tag_spelled a_union false g small = joined (lit (codes "@")) (number 255 g) (codes "@") (digits g) refl (omega (arith, small), number_written g (omega (arith, small)))

one_item : (h : Holder) (c : Bool) (n : List ℕ) (t : Tree) (g : Tag h) → is_utf8 n ≡ true → SmallTag h g → Spells t (source t) → an_item n (tag_part h (not c) g) (Spells t) (name_source n ++ (item_source h c g ++ source t))
one_item h c n t g utf8 small spelled =
    let M = tag_part h (not c) g in
    let w = tag_written h c g in
    let e : w ++ (codes "=" ++ source t) ≡ item_source h c g ++ source t = sym (append_assoc w (codes "=") (source t)) ∙ ap (λ (y : List ℕ). y ++ source t) (tag_source_is h c g) in
    joined (named n) (M <> (spaced (codes "=") <> Spells t)) (name_source n) (item_source h c g ++ source t) (name_written n utf8)
    (subst (λ (y : List ℕ). (M <> (spaced (codes "=") <> Spells t)) y) e
    (joined M (spaced (codes "=") <> Spells t) w (codes "=" ++ source t) (tag_spelled h c g small)
    (joined (spaced (codes "=")) (Spells t) (codes "=") (source t) ([], codes "=", refl, (codes "=", [], refl, refl, refl), refl) spelled)))

-- the variants of a union, without tags if those are consecutive
pick_tags : (vs : Variants) (x : List ℕ) (c : Bool) → are_consecutive (variant_tags (triples vs)) ≡ c → SpellsItems (not c) vs x
    → SpellsItems true vs x ⊎ (AreConsecutive (variant_tags (triples vs)) × SpellsItems false vs x)
pick_tags vs x true e s = let gs = variant_tags (triples vs) in inr ((bytes_decides gs (range_with_len 0 (length gs))).0 e, s)
pick_tags vs x false e s = inl s

mutual
  pub type_written : (t : Tree) → AreTexts t → Valid t → Spells t (source t)
  type_written of.null texts fits = refl
  type_written (of.bool n) texts fits = joined (lit (codes "bool")) (mark n) (codes "bool") (nullability_text n) refl refl
  type_written (of.primitive q n) texts fits = joined (lit (ptype_row q).text) (mark n) (ptype_row q).text (nullability_text n) refl refl
  type_written (of.utf8 n) texts fits = joined (lit (codes "utf8")) (mark n) (codes "utf8") (nullability_text n) refl refl
  type_written (of.binary n) texts fits = joined (lit (codes "binary")) (mark n) (codes "binary") (nullability_text n) refl refl
  type_written (of.variant n) texts fits = joined (lit (codes "variant")) (mark n) (codes "variant") (nullability_text n) refl refl
  type_written (of.list t n) texts fits =
      same (Spells (of.list t n)) (codes "list" ++ ((codes "(" ++ (source t ++ codes ")")) ++ nullability_text n)) (source (of.list t n)) (simp append_assoc refl)
      (joined (lit (codes "list")) (in_parentheses (Spells t) <> mark n) (codes "list") ((codes "(" ++ (source t ++ codes ")")) ++ nullability_text n) refl
      (joined (in_parentheses (Spells t)) (mark n) (codes "(" ++ (source t ++ codes ")")) (nullability_text n) (in_parentheses_written (Spells t) (source t) (type_written t texts fits)) refl))
  type_written (of.fixed_size_list t k n) texts fits =
      let N = number 4294967295 k in
      let Size = lit (codes "[") <> (blanks <> (N <> (blanks <> lit (codes "]")))) in
      let size = codes "[" ++ (digits k ++ codes "]") in
      let sized : Size size = joined (lit (codes "[")) (blanks <> (N <> (blanks <> lit (codes "]")))) (codes "[") (digits k ++ codes "]") refl
      (joined blanks (N <> (blanks <> lit (codes "]"))) [] (digits k ++ codes "]") refl
      (joined N (blanks <> lit (codes "]")) (digits k) (codes "]") (omega (arith, fits.0), number_written k (omega (arith, fits.0)))
      (joined blanks (lit (codes "]")) [] (codes "]") refl refl))) in
      let inner = codes "(" ++ (source t ++ codes ")") in
      same (Spells (of.fixed_size_list t k n)) (codes "fixed_size_list" ++ (inner ++ (size ++ nullability_text n))) (source (of.fixed_size_list t k n)) (simp append_assoc refl)
      (joined (lit (codes "fixed_size_list")) (in_parentheses (Spells t) <> (Size <> mark n)) (codes "fixed_size_list") (inner ++ (size ++ nullability_text n)) refl
      (joined (in_parentheses (Spells t)) (Size <> mark n) inner (size ++ nullability_text n) (in_parentheses_written (Spells t) (source t) (type_written t texts fits.1))
      (joined Size (mark n) size (nullability_text n) sized refl)))
  type_written (of.struct fs n) texts fits =
      let L = SpellsItems false fs in
      let x = join_by (λ t. t) (codes ", ") (item_sources true fs) in
      joined (lit (codes "{")) (blanks <> (L <> (lit (codes "}") <> mark n))) (codes "{") (x ++ (codes "}" ++ nullability_text n)) refl
      (joined blanks (L <> (lit (codes "}") <> mark n)) [] (x ++ (codes "}" ++ nullability_text n)) refl
      (joined L (lit (codes "}") <> mark n) x (codes "}" ++ nullability_text n) (items_written {h = a_struct} true fs texts fits (field_tags fs))
      (joined (lit (codes "}")) (mark n) (codes "}") (nullability_text n) refl refl)))
  type_written (of.decimal d n) texts fits =
      let D = codes "(" ++ (digits d.precision ++ (codes "," ++ (signed_decimal d.scale ++ codes ")"))) in
      same (Spells (of.decimal d n)) (codes "decimal" ++ (D ++ nullability_text n)) (source (of.decimal d n)) (simp append_assoc refl)
      (joined (lit (codes "decimal")) (d_parts d.precision d.scale <> mark n) (codes "decimal") (D ++ nullability_text n) refl
      (joined (d_parts d.precision d.scale) (mark n) D (nullability_text n) (decimal_written d.precision d.scale fits) refl))
  type_written (of.map_of a b o n) texts fits =
      let S = sorted_part o in
      let sorted_ = codes ", " ++ (codes "keys_sorted" ++ (codes "=" ++ (bool_text o ++ codes ")"))) in
      let I = blanks <> (Spells a <> (spaced (codes ",") <> (Spells b <> S))) in
      let inner = codes "(" ++ (source a ++ (codes ", " ++ (source b ++ sorted_))) in
      let within_ : (lit (codes "(") <> I) inner = joined (lit (codes "(")) I (codes "(") (source a ++ (codes ", " ++ (source b ++ sorted_))) refl
      (joined blanks (Spells a <> (spaced (codes ",") <> (Spells b <> S))) [] (source a ++ (codes ", " ++ (source b ++ sorted_))) refl
      (joined (Spells a) (spaced (codes ",") <> (Spells b <> S)) (source a) (codes ", " ++ (source b ++ sorted_)) (type_written a texts.0 fits.1)
      (joined (spaced (codes ",")) (Spells b <> S) (codes ", ") (source b ++ sorted_) ([], codes ", ", refl, (codes ",", codes " ", refl, refl, refl), refl)
      (joined (Spells b) S (source b) sorted_ (type_written b texts.1 fits.2) (sorted_written o))))) in
      same (Spells (of.map_of a b o n)) (codes "map" ++ (inner ++ nullability_text n)) (source (of.map_of a b o n)) (simp append_assoc refl)
      (joined (lit (codes "map")) ((lit (codes "(") <> I) <> mark n) (codes "map") (inner ++ nullability_text n) refl
      (joined (lit (codes "(") <> I) (mark n) inner (nullability_text n) within_ refl))
  type_written (of.extension id b s) texts fits =
      let m = codes "[" ++ (hex_source b ++ codes "]") in
      let i = codes "(" ++ (source s ++ codes ")") in
      same (Spells (of.extension id b s)) (id_source id ++ (m ++ i)) (source (of.extension id b s)) (simp append_assoc refl)
      (joined (ident id) (metadata b <> in_parentheses (Spells s)) (id_source id) (m ++ i) (ident_written id texts.0)
      (joined (metadata b) (in_parentheses (Spells s)) m i (metadata_written b (recursion_from_All (λ c. c < 256) b fits.0)) (in_parentheses_written (Spells s) (source s) (type_written s texts.1 fits.1))))
  type_written (of.union vs n) texts fits =
      let U : Lang = λ y. SpellsItems true vs y ⊎ (AreConsecutive (variant_tags (triples vs)) × SpellsItems false vs y) in
      let c = are_consecutive (variant_tags (triples vs)) in
      let x = join_by (λ t. t) (codes ", ") (item_sources c vs) in
      let inner = codes "(" ++ (x ++ codes ")") in
      let either : U x = pick_tags vs x c refl (items_written {h = a_union} c vs texts fits.1 (union_tags vs fits.0)) in
      let within_ : (lit (codes "(") <> (blanks <> (U <> lit (codes ")")))) inner = joined (lit (codes "(")) (blanks <> (U <> lit (codes ")"))) (codes "(") (x ++ codes ")") refl
      (joined blanks (U <> lit (codes ")")) [] (x ++ codes ")") refl
      (joined U (lit (codes ")")) x (codes ")") either refl)) in
      same (Spells (of.union vs n)) (codes "union" ++ (inner ++ nullability_text n)) (source (of.union vs n)) (simp append_assoc refl)
      (joined (lit (codes "union")) ((lit (codes "(") <> (blanks <> (U <> lit (codes ")")))) <> mark n) (codes "union") (inner ++ nullability_text n) refl
      (joined (lit (codes "(") <> (blanks <> (U <> lit (codes ")")))) (mark n) inner (nullability_text n) within_ refl))

  items_written : {h : Holder} (c : Bool) (fs : Items h) → ItemsAreTexts fs → ValidItems fs → SmallTags fs → SpellsItems (not c) fs (join_by (λ t. t) (codes ", ") (item_sources c fs))
  items_written c no_items texts fits small = refl
  items_written {h} c (item n t g no_items) texts fits small =
      let X = name_source n ++ (item_source h c g ++ source t) in
      joined (an_item n (tag_part h (not c) g) (Spells t)) (blanks <> lit []) X [] (one_item h c n t g texts.0 small.0 (type_written t texts.1 fits.0)) ([], [], refl, refl, refl)
  items_written {h} c (item n t g (item m u k fs)) texts fits small =
      let rest : Items h = item m u k fs in
      let L = SpellsItems (not c) rest in
      let x = join_by (λ t. t) (codes ", ") (item_sources c rest) in
      let X = name_source n ++ (item_source h c g ++ source t) in
      let Q = blanks <> (lit (codes ",") <> (blanks <> L)) in
      let tail : Q (codes "," ++ (codes " " ++ x)) = joined blanks (lit (codes ",") <> (blanks <> L)) [] (codes "," ++ (codes " " ++ x)) refl (joined (lit (codes ",")) (blanks <> L) (codes ",") (codes " " ++ x) refl (joined blanks L (codes " ") x refl (items_written {h = h} c (item m u k fs) texts.2 fits.1 small.1))) in
      same (SpellsItems {h = h} (not c) (item n t g rest)) (X ++ (codes "," ++ (codes " " ++ x))) _ (simp append_assoc refl)
      (joined (an_item n (tag_part h (not c) g) (Spells t)) Q X (codes "," ++ (codes " " ++ x)) (one_item h c n t g texts.0 small.0 (type_written t texts.1 fits.0)) tail)

-- what is written stands for the type
pub written_stands : (t : Tree) → AreTexts t → Valid t → levels t ≤ 128 → Stands t (source t)
written_stands t texts fits shallow = record {
  spelled = ([], source t, refl, (source t, [], type_written t texts fits, ([], [], refl, tt, refl), sym (append-nil (source t))), refl);
  shallow = shallow;
  valid = fits;
}
