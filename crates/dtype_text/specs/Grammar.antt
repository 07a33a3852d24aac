-- SPDX-License-Identifier: Apache-2.0
-- SPDX-FileCopyrightText: Copyright the Vortex contributors

-- Which texts stand for which type. A language is a property of lists of bytes.
use Rattle.std.specs.Prelude.{◌≡◌, ◌⊎◌, ℕ, suc, ◌≤◌, ◌<◌, List, [], ◌∷◌, ◌++◌, ◌==◌, ◌&&◌, not, Bool, true, false, if◌then◌else◌, max, length, Some, codes, ℤ, pos, neg_ℤ, Result, Ok, Err}
use Rattle.std.specs.List.{list_all}
use Rattle.std.specs.Char.{is_ascii_digit}
use Rattle.std.specs.Str.{is_utf8}
use Rattle.std.specs.Str.Parse.{digits_value}
use Rattle.dtype_base.specs.Bytes.{Bytes}
use Rattle.dtype_base.specs.Decimals.{DecimalError, greatest_precision}
use Rattle.dtype_base.specs.declared.nullability.Nullability.{Nullability}
use Rattle.dtype_base.specs.declared.vortex_error.VortexError.{VortexError}
use Rattle.dtype_base.specs.declared.vortex_error.VortexError.TheVariants.{MapKeyNullable, UnionTooMany}
use Rattle.dtype_types.specs.texts.Text.{bool_text}
use Rattle.dtype_base.specs.Nullability.{nullability_text}
use Rattle.dtype_base.specs.Primitives.{ptype_row}
use Rattle.dtype_types.specs.tree.Tree.{Tree, Items, Holder, a_struct, a_union, no_items, item, null, bool, primitive, decimal, utf8, binary, list, fixed_size_list, map_of, struct, union, variant, extension}
use Rattle.dtype_types.specs.tree.Tree.{Tag, Variants, triples}
use Rattle.dtype_types.specs.tree.TreeOf.{tree}
use Rattle.dtype_types.specs.tree.Valid.{Valid}
use Rattle.dtype_types.specs.nullability.Nullable.{IsNullable}
use Rattle.dtype_types.specs.parts.Lookups.{variant_names, variant_tags}
use Rattle.dtype_types.specs.parts.Unions.{AreConsecutive, UnionError}
use Rattle.dtype_types.specs.declared.dtype.DType.{DType}
use Rattle.dtype_text.specs.Bare.{is_bare_name, is_bare_id}
use Rattle.dtype_text.specs.Leaves.{is_blank, is_in_line, unit_at, hex_byte_at}
use Rattle.dtype_text.specs.declared.text_error.TextError.{TextError}
use Rattle.dtype_text.specs.declared.text_error.TextError.TheVariants.{OutOfMemory, Refused, TooDeep, Misread}

abbrev pub Lang : Type 1
Lang = List ℕ → Type 0

-- a text, and one text after another
abbrev pub lit : List ℕ → Lang
lit w x = x ≡ w

infixr 20 ◌<>◌
abbrev pub ◌<>◌ : Lang → Lang → Lang
(P <> Q) z = (x : List ℕ) × (y : List ℕ) × P x × Q y × (z ≡ x ++ y)

-- Spaces, tabs, ends of lines and comments, if any. A comment begins with # and ends with its line. The first argument
-- tells whether the text begins inside a comment.
abbrev pub is_gap : Bool → List ℕ → Bool
is_gap in_comment [] = not in_comment
is_gap true (b ∷ x) = is_gap (not (b == 10)) x
is_gap false (b ∷ x) = if is_blank b then is_gap false x else (b == 35 && is_gap true x)

abbrev pub blanks : Lang
blanks x = is_gap false x ≡ true

-- a text with blanks around it
abbrev pub spaced : List ℕ → Lang
spaced w = blanks <> (lit w <> blanks)

-- a number in decimal digits; zeros may lead it
abbrev pub numeral : ℕ → Lang
numeral n x = (x ≡ [] → ⊥) × (list_all is_ascii_digit x ≡ true) × (digits_value 10 x ≡ n)

-- a number up to most
abbrev pub number : ℕ → ℕ → Lang
number most n x = (n ≤ most) × numeral n x

-- a mark of nullability
abbrev pub mark : Nullability → Lang
mark n = lit (nullability_text n)

-- bytes in quotes, each as it is or as an escape
abbrev pub units : List ℕ → Lang
units [] = lit []
units (b ∷ bytes) = (λ u. (unit_at u ≡ Some (b, [])) × (u ≡ 34 ∷ [] → ⊥)) <> units bytes

abbrev pub in_quotes : List ℕ → Lang
in_quotes n = lit (codes "\"") <> (units n <> lit (codes "\""))

-- a name: bare if it can be, or in quotes
abbrev pub named : List ℕ → Lang
named n x = (is_utf8 n ≡ true) × (((is_bare_name n ≡ true) × (x ≡ n)) ⊎ in_quotes n x)

-- the id of an extension: bare if it can be, or in quotes
abbrev pub ident : List ℕ → Lang
ident n x = (is_utf8 n ≡ true) × (((is_bare_id n ≡ true) × (x ≡ n)) ⊎ in_quotes n x)

-- a number that may be negative
abbrev pub signed : ℤ → Lang
signed z x = (n : ℕ) × (((numeral n x) × (z ≡ pos n) × (n ≤ 127)) ⊎ ((lit (codes "-") <> numeral n) x × (z ≡ neg_ℤ (pos n)) × (n ≤ 128)))

-- bytes, each as two hexadecimal digits
abbrev pub hexes : List ℕ → Lang
hexes [] = lit []
hexes (b ∷ bytes) = (λ u. hex_byte_at u ≡ Some (b, [])) <> hexes bytes

abbrev pub metadata : List ℕ → Lang
metadata b = lit (codes "[") <> (blanks <> (lit (codes "0") <> (lit (codes "x") <> (hexes b <> (blanks <> lit (codes "]"))))))

abbrev pub decimal_parts : ℕ → ℤ → Lang
decimal_parts p z = lit (codes "(") <> (blanks <> (number 255 p <> (spaced (codes ",") <> (signed z <> (blanks <> lit (codes ")"))))))

abbrev pub sorted_part : Bool → Lang
sorted_part o = spaced (codes ",") <> (lit (codes "keys_sorted") <> (spaced (codes "=") <> (lit (bool_text o) <> (blanks <> lit (codes ")")))))

abbrev pub in_parentheses : Lang → Lang
in_parentheses L = lit (codes "(") <> (blanks <> (L <> (blanks <> lit (codes ")"))))

-- what stands between the name of an item and the equals sign: of a variant its tag, if tags are written
abbrev pub tag_part : (h : Holder) → (tags : Bool) → Tag h → Lang
tag_part a_struct tags g = lit []
tag_part a_union false g = lit []
tag_part a_union true g = lit (codes "@") <> number 255 g

-- a field or a variant
abbrev pub an_item : List ℕ → Lang → Lang → Lang
an_item n tag type = named n <> (tag <> (spaced (codes "=") <> type))

-- the items after one, behind a comma, if there are any
abbrev pub and_more : {h : Holder} → Items h → Lang → Lang
and_more no_items L = lit []
and_more (item n t g rest) L = lit (codes ",") <> (blanks <> L)

abbrev mutual
  -- the texts of a type
  pub Spells : Tree → Lang
  Spells null = lit (codes "null")
  Spells (bool n) = lit (codes "bool") <> mark n
  Spells (primitive p n) = lit (ptype_row p).text <> mark n
  Spells (utf8 n) = lit (codes "utf8") <> mark n
  Spells (binary n) = lit (codes "binary") <> mark n
  Spells (variant n) = lit (codes "variant") <> mark n
  Spells (list t n) = lit (codes "list") <> (in_parentheses (Spells t) <> mark n)
  Spells (fixed_size_list t k n) = lit (codes "fixed_size_list") <> (in_parentheses (Spells t) <> ((lit (codes "[") <> (blanks <> (number 4294967295 k <> (blanks <> lit (codes "]"))))) <> mark n))
  Spells (struct fs n) = lit (codes "{") <> (blanks <> (SpellsItems false fs <> (lit (codes "}") <> mark n)))
  -- each variant has its tag, or, if the tags are 0, 1, 2 and so on, none has
  Spells (union vs n) = lit (codes "union") <> ((lit (codes "(") <> (blanks <> ((λ x. SpellsItems true vs x ⊎ (AreConsecutive (variant_tags (triples vs)) × SpellsItems false vs x)) <> lit (codes ")")))) <> mark n)
  Spells (decimal d n) = lit (codes "decimal") <> (decimal_parts d.precision d.scale <> mark n)
  Spells (map_of k v o n) = lit (codes "map") <> ((lit (codes "(") <> (blanks <> (Spells k <> (spaced (codes ",") <> (Spells v <> sorted_part o))))) <> mark n)
  Spells (extension id b s) = ident id <> (metadata b <> in_parentheses (Spells s))

  -- the texts of items, each with the blanks behind it
  pub SpellsItems : {h : Holder} → (tags : Bool) → Items h → Lang
  SpellsItems tags no_items = lit []
  SpellsItems {h} tags (item n t g rest) = an_item n (tag_part h tags g) (Spells t) <> (blanks <> and_more rest (SpellsItems tags rest))

-- how deep a type is
abbrev mutual
  pub levels : Tree → ℕ
  levels (list t n) = suc (levels t)
  levels (fixed_size_list t k n) = suc (levels t)
  levels (map_of k v o n) = max (suc (levels k)) (suc (levels v))
  levels (struct fs n) = levels_of_items fs
  levels (union vs n) = levels_of_items vs
  levels (extension id b s) = suc (levels s)
  levels _ = 0

  pub levels_of_items : {h : Holder} → Items h → ℕ
  levels_of_items no_items = 0
  levels_of_items (item n t g rest) = max (suc (levels t)) (levels_of_items rest)

-- the names and the ids are UTF-8
abbrev mutual
  pub AreTexts : Tree → Type 0
  AreTexts (list t n) = AreTexts t
  AreTexts (fixed_size_list t k n) = AreTexts t
  AreTexts (struct fs n) = ItemsAreTexts fs
  AreTexts (map_of a b o n) = AreTexts a × AreTexts b
  AreTexts (union vs n) = ItemsAreTexts vs
  AreTexts (extension id b s) = (is_utf8 id ≡ true) × AreTexts s
  AreTexts _ = Unit {0}

  pub ItemsAreTexts : {h : Holder} → Items h → Type 0
  ItemsAreTexts no_items = Unit {0}
  ItemsAreTexts (item n t g rest) = (is_utf8 n ≡ true) × AreTexts t × ItemsAreTexts rest

-- nothing, or a comment that nothing follows
abbrev pub comment : Lang
comment [] = Unit {0}
comment (b ∷ bytes) = (b ≡ 35) × (list_all is_in_line bytes ≡ true)

-- the text is one of the type, with blanks and comments around it
abbrev pub IsSpelled : Tree → Lang
IsSpelled t = blanks <> (Spells t <> (blanks <> comment))

-- The text stands for the type: it is spelled so, and the type is valid and has at most 128 levels.
pub record Stands (t : Tree) (text : List ℕ) : Type 0 where
  pub spelled : IsSpelled t text
  pub shallow : levels t ≤ 128
  pub valid : Valid t

-- The library makes no union of these variants, and this is its error. If no tags are written, they are 0, 1, 2 and so on,
-- so that of more than 256 variants the last have tags that are no bytes.
abbrev pub RefusesVariants : Variants → VortexError → Type 0
RefusesVariants vs e =
    (Bytes (variant_tags (triples vs)) × UnionError (variant_names (triples vs)) (length (triples vs)) (variant_tags (triples vs)) e)
    ⊎ ((¬ Bytes (variant_tags (triples vs))) × (e ≡ UnionTooMany))

-- The library refuses the type or a part of it with this error. For example, it refuses `{a=decimal(0,0)}` with
-- `PrecisionZero 76`.
abbrev mutual
  pub Refuses : Tree → VortexError → Type 0
  Refuses (decimal d n) e = DecimalError greatest_precision d.precision d.scale e
  Refuses (list t n) e = Refuses t e
  Refuses (fixed_size_list t k n) e = Refuses t e
  Refuses (struct fs n) e = RefusesItem fs e
  Refuses (map_of k v o n) e = Refuses k e ⊎ Refuses v e ⊎ ((e ≡ MapKeyNullable) × IsNullable k)
  Refuses (union vs n) e = RefusesItem vs e ⊎ RefusesVariants vs e
  Refuses (extension id b s) e = Refuses s e
  Refuses _ e = ⊥

  -- the same of the type of an item
  pub RefusesItem : {h : Holder} → Items h → VortexError → Type 0
  RefusesItem no_items e = ⊥
  RefusesItem (item n t g rest) e = Refuses t e ⊎ RefusesItem rest e

-- What is returned for a text that spells the type: the type, if it is valid and has at most 128 levels. Only a type that
-- isn't valid is refused, with an error of its own or of a part, and only one that has more levels is too deep.
abbrev pub IsReadAs : Tree → Result DType TextError → Type 0
IsReadAs t (Ok d) = (tree d ≡ t) × Valid t × (levels t ≤ 128)
IsReadAs t (Err OutOfMemory) = Unit {0}
IsReadAs t (Err (Refused e)) = (Valid t → ⊥) × Refuses t e
IsReadAs t (Err (TooDeep position)) = 128 < levels t
IsReadAs t (Err (Misread position expected found)) = ⊥
