-- SPDX-License-Identifier: Apache-2.0
-- SPDX-FileCopyrightText: Copyright the Vortex contributors

-- Where a text that isn't read has its fault: behind types that are begun in front of it.
use Rattle.std.specs.Prelude.{◌≡◌, ℕ, suc, List, [], ◌∷◌, ◌++◌, Option, Some, None, codes, length}
use Rattle.dtype_base.specs.declared.vortex_error.VortexError.{VortexError}
use Rattle.dtype_types.specs.tree.Tree.{Tree}
use Rattle.dtype_text.specs.Grammar.{Lang, lit, ◌<>◌, blanks, spaced, number, named, ident, metadata, an_item, Spells, Refuses}
use Rattle.dtype_text.specs.Errors.{IsPositionIn}
use Rattle.dtype_text.specs.declared.text_error.TextError.{TextError}
use Rattle.dtype_text.specs.declared.text_error.TextError.TheVariants.{OutOfMemory, Refused, TooDeep, Misread}

-- A type that is begun, up to the place where a type within it begins.
pub data Begun : Type 0 where
  -- a list, up to the type of its elements
  in_list : Begun
  in_fixed_size_list : Begun
  -- an extension with this id and this metadata, up to its storage type
  in_extension : List ℕ → List ℕ → Begun
  -- a map, up to the type of its keys, or, behind this one, up to the type of its values
  in_key : Begun
  in_value : Tree → Begun
  -- a struct with these fields, up to the type of one more field of this name
  in_field : List (List ℕ × Tree) → List ℕ → Begun
  -- a union with these variants, up to the type of one more of this name, with its tag if that is written
  in_variant : List (List ℕ × (Tree × Option ℕ)) → List ℕ → Option ℕ → Begun

-- items, each with a comma behind it
abbrev pub each : {A : Type 0} → (A → Lang) → List A → Lang
each L [] = lit []
each L (x ∷ xs) = L x <> (spaced (codes ",") <> each L xs)

-- the tag of a variant, if it is written
abbrev pub tag_text : Option ℕ → Lang
tag_text None = lit []
tag_text (Some g) = lit (codes "@") <> number 255 g

-- a field, and a variant
abbrev pub field_text : List ℕ × Tree → Lang
field_text f = an_item f.0 (lit []) (Spells f.1)

abbrev pub variant_text : List ℕ × (Tree × Option ℕ) → Lang
variant_text v = an_item v.0 (tag_text v.1.1) (Spells v.1.0)

-- an opening parenthesis
abbrev pub opened : Lang
opened = lit (codes "(") <> blanks

-- the texts of a type that is begun
abbrev pub Begins : Begun → Lang
Begins in_list = lit (codes "list") <> opened
Begins in_fixed_size_list = lit (codes "fixed_size_list") <> opened
Begins (in_extension id b) = ident id <> (metadata b <> opened)
Begins in_key = lit (codes "map") <> opened
Begins (in_value k) = lit (codes "map") <> (opened <> (Spells k <> spaced (codes ",")))
Begins (in_field fs n) = lit (codes "{") <> (blanks <> (each field_text fs <> (named n <> spaced (codes "="))))
Begins (in_variant vs n g) = lit (codes "union") <> (opened <> (each variant_text vs <> (named n <> (tag_text g <> spaced (codes "=")))))

-- types that are begun, each within the one before it
abbrev pub AreBegun : List Begun → Lang
AreBegun [] = lit []
AreBegun (b ∷ bs) = Begins b <> AreBegun bs

-- Behind types that are begun the text spells a type that the library refuses with this error. For example,
-- `{a=list(decimal(0,0)), b` does with `PrecisionZero 76`: a struct and a list are begun in front of `decimal(0,0)`.
pub record HasRefused (e : VortexError) (text : List ℕ) : Type 0 where
  pub begun : List Begun
  pub part : Tree
  pub rest : List ℕ
  pub spelled : (blanks <> (AreBegun begun <> (Spells part <> lit rest))) text
  pub refuses : Refuses part e

-- In front of this position of the text, which counts bytes from 1, more than 128 types are begun.
pub record IsDeepAt (position : ℕ) (text : List ℕ) : Type 0 where
  pub begun : List Begun
  pub front : List ℕ
  pub rest : List ℕ
  pub all : text ≡ front ++ rest
  pub spelled : (blanks <> AreBegun begun) front
  pub many : length begun ≡ 129
  pub place : position ≡ suc (length front)

-- What an error says of a text, whether it spells a type or not: a type that is refused stands in the text; or one with too
-- many levels begins at the position; or the position is one of the text.
abbrev pub IsFaultOf : List ℕ → TextError → Type 0
IsFaultOf text OutOfMemory = Unit {0}
IsFaultOf text (Refused e) = HasRefused e text
IsFaultOf text (TooDeep position) = IsDeepAt position text
IsFaultOf text (Misread position expected found) = IsPositionIn text position
