-- SPDX-License-Identifier: Apache-2.0
-- SPDX-FileCopyrightText: Copyright the Vortex contributors

-- The messages of faults.
use Rattle.std.specs.Prelude.{ℕ, List, [], ◌∷◌, ◌++◌, Bool, true, false, nat_lt, if◌then◌else◌, length, take, codes}
use Rattle.std.specs.Fmt.{decimal}
use Rattle.std.specs.Str.Lossy.{utf8_lossy}
use Rattle.dtype_base.specs.Escapes.{escaped}
use Rattle.c_arrow.specs.Faults.{names_in}
use Rattle.c_arrow.specs.declared.fault.Problem.{Problem}
use Rattle.c_arrow.specs.declared.fault.Problem.TheVariants as p
use Rattle.c_arrow.specs.declared.fault.Refusal.{Refusal}

-- what is wrong with a field
unfoldable pub phrase : Problem → List ℕ
phrase p.Released = codes "the schema was released"
phrase p.NoFormat = codes "the format is NULL"
phrase p.NoChild = codes "a child, or the array of children, is NULL"
phrase p.Count = codes "a count or a length is negative or too large"
phrase p.Nested = codes "more than 300 fields are inside one another"
phrase p.Many = codes "there are more than 16777216 fields"
phrase p.Format = codes "has no type here"
phrase p.NoChildren = codes "takes no children"
phrase p.OneChild = codes "needs exactly one child"
phrase p.TwoChildren = codes "needs exactly two children"
phrase p.Entries = codes "needs a struct of a key and a value as its child"
phrase p.Dictionary = codes "is no integer type, so it can't have a dictionary"
phrase p.Name = codes "the name isn't UTF-8"
phrase p.Id = codes "the extension name isn't UTF-8"
phrase p.Zone = codes "the time zone isn't UTF-8, or is longer than 65535 bytes"
phrase p.Metadata = codes "the metadata isn't in Arrow's form, or has an extension key twice"
phrase p.Variant = codes "a variant has no Arrow type"
phrase p.Extension = codes "an extension type over another extension type has no Arrow type"
phrase p.Tag = codes "a tag above 127 is no type id of Arrow"
phrase p.Size = codes "a fixed-size list in Arrow has at most 2147483647 elements"
phrase p.Length = codes "an extension in Arrow has at most 2147483647 bytes of metadata"
phrase p.Nul = codes "a name, an id or a time zone with a NUL byte can't be written"

-- the phrase goes on behind the format, as `has no type here` does
abbrev pub is_about_format : Problem → Bool
is_about_format p.Format = true
is_about_format p.NoChildren = true
is_about_format p.OneChild = true
is_about_format p.TwoChildren = true
is_about_format p.Entries = true
is_about_format p.Dictionary = true
is_about_format _ = false

-- how many bytes a text has, if it isn't shown as a whole
abbrev pub length_told : Bool → ℕ → List ℕ
length_told false n = []
length_told true n = codes ".. (" ++ (decimal n ++ codes " bytes)")

-- the bytes of a text that are shown: at most 64
abbrev pub front : List ℕ → List ℕ
front text = if nat_lt 64 (length text) then take 64 text else text

-- A name or a format in a message. Bytes that aren't UTF-8 are replaced, and backslashes, double quotes and control characters are
-- escaped, as `Display` of a name does. Of a text with more than 64 bytes, the first 64 are shown, and how many it has. For example,
-- it is `a\"b` of the name `a"b`.
unfoldable pub shown_text : List ℕ → List ℕ
shown_text text = escaped (utf8_lossy (front text)) ++ length_told (nat_lt 64 (length text)) (length text)

-- names, the last first, each with a dot behind it
abbrev pub outer : List (List ℕ) → List ℕ
outer [] = []
outer (n ∷ ns) = outer ns ++ (shown_text n ++ codes ".")

-- The beginning of the message about a field that isn't the root, whose names are these from itself outwards. For example, it is
-- `column "a.item": ` of the names `item` and `a`.
abbrev pub column : List (List ℕ) → List ℕ
column [] = []
column (n ∷ ns) = codes "column \"" ++ (outer ns ++ (shown_text n ++ codes "\": "))

-- The message that says a text about the field with these names. For example, it is `column "a": nested more than 128 levels deep`.
abbrev pub message_about : List (List ℕ) → List ℕ → List ℕ
message_about names text = column names ++ text

abbrev pub problem_of : Refusal → Problem
problem_of r = r.problem

-- what is before the phrase, and behind it
abbrev pub before : Bool → List ℕ → List ℕ
before true format = codes "the Arrow format \"" ++ (shown_text format ++ codes "\" ")
before false format = []

abbrev pub behind : Bool → List ℕ → List ℕ
behind true format = []
behind false [] = []
behind false (b ∷ format) = codes ", at the Arrow format \"" ++ (shown_text (b ∷ format) ++ codes "\"")

-- The message about the field with these names, which are those of the fields from this one outwards, and this format. For
-- example, it is `column "a.item": the Arrow format "tdX" has no type here` of the names `item` and `a`, the format `tdX` and the
-- problem `Format`.
unfoldable pub message_from : List (List ℕ) → List ℕ → Problem → List ℕ
message_from names format problem =
    let about = is_about_format problem in
    ((column names ++ before about format) ++ phrase problem) ++ behind about format

-- the message of a refusal
abbrev pub message_of : Refusal → List ℕ
message_of r = message_from (names_in r.column) r.format.items r.problem
