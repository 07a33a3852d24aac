-- SPDX-License-Identifier: Apache-2.0
-- SPDX-FileCopyrightText: Copyright the Vortex contributors

-- The metadata of a field: a count of pairs, and of each pair the key and the value, each with its length before it. The count
-- and the lengths are four bytes, the lowest first.
use Rattle.std.specs.Prelude.{ℕ, zero, suc, ◌^◌, List, [], ◌∷◌, ◌++◌, nat_lt, Bool, false, Option, Some, None, if◌then◌else◌, take, drop, length, codes}
use Rattle.std.specs.Int.{from_le_bytes, to_le_bytes, w32}
use Rattle.dtype_text.specs.Read.{◌>>=◌}
use Rattle.dtype_text.specs.TypeParts.{is_text}

-- what metadata says of an extension: the values of its two keys, if they are there
pub record Said : Type 0 where
  pub name : Option (List ℕ)
  pub metadata : Option (List ℕ)

abbrev pub nothing_said : Said
nothing_said = record { name = None; metadata = None }

abbrev pub name_key : List ℕ
name_key = codes "ARROW:extension:name"

abbrev pub metadata_key : List ℕ
metadata_key = codes "ARROW:extension:metadata"

-- A count or a length: a signed number that isn't negative, so its highest byte is below 128. For example, 20, 0, 0, 0 is 20.
unfoldable pub count_at : List ℕ → Option (ℕ × List ℕ)
count_at (a ∷ b ∷ c ∷ d ∷ rest) = if nat_lt d 128 then Some (from_le_bytes w32 (a ∷ b ∷ c ∷ d ∷ []), rest) else None
count_at _ = None

-- a text with its length before it, and the bytes behind the text
unfoldable pub text_at : List ℕ → Option (List ℕ × List ℕ)
text_at bytes = do
  n ← count_at bytes
  if nat_lt (length n.1) n.0 then None else Some (take n.0 n.1, drop n.0 n.1)

-- the value of a key, if it wasn't there before
abbrev pub once : Option (List ℕ) → List ℕ → Option (List ℕ)
once None value = Some value
once (Some before) value = None

-- what is said with one more pair: each of the two keys may be there once, and other keys are ignored
unfoldable pub with_pair : Said → List ℕ → List ℕ → Option Said
with_pair said key value =
    if is_text key name_key then (once said.name value >>= λ v. Some (record { name = Some v; metadata = said.metadata }))
    else if is_text key metadata_key then (once said.metadata value >>= λ v. Some (record { name = said.name; metadata = Some v }))
    else Some said

-- what is said with so many more pairs, which are all that is there
abbrev pub said_with : Said → ℕ → List ℕ → Option Said
said_with said zero [] = Some said
said_with said zero (b ∷ bytes) = None
said_with said (suc n) bytes = text_at bytes >>= λ key. text_at key.1 >>= λ value. with_pair said key.0 value.0 >>= λ more. said_with more n value.1

-- What metadata says. No bytes say nothing, and there is none of bytes in another form, or if one of the two keys is there
-- twice. For example, the count 1, the length 20, `ARROW:extension:name`, the length 4 and `uuid` say the name `uuid`.
unfoldable pub said_in : List ℕ → Option Said
said_in [] = Some nothing_said
said_in (b ∷ bytes) = count_at (b ∷ bytes) >>= λ n. said_with nothing_said n.0 n.1

abbrev pub names_tensor : Option (List ℕ) → Bool
names_tensor None = false
names_tensor (Some id) = is_text id (codes "arrow.fixed_shape_tensor")

abbrev pub tells_tensor : Option Said → Bool
tells_tensor None = false
tells_tensor (Some said) = names_tensor said.name

-- Whether metadata names the extension `arrow.fixed_shape_tensor`, whose storage type is a fixed-size list in Arrow, also if its
-- elements are bytes.
unfoldable pub is_tensor : List ℕ → Bool
is_tensor metadata = tells_tensor (said_in metadata)

-- ---- what is written

-- a text with its length before it
abbrev pub sized : List ℕ → List ℕ
sized text = to_le_bytes w32 (length text) ++ text

-- the same, if the text is at most 2^31 - 1 bytes long
unfoldable pub short_text : List ℕ → Option (List ℕ)
short_text text = if nat_lt (length text) (2 ^ 31) then Some (sized text) else None

-- The metadata with both keys of an extension, if the id and the bytes are at most 2^31 - 1 bytes long. For example, that of the
-- id `uuid` and no bytes is the count 2, the length 20, `ARROW:extension:name`, the length 4, `uuid`, the length 24,
-- `ARROW:extension:metadata` and the length 0.
unfoldable pub extension_metadata : List ℕ → List ℕ → Option (List ℕ)
extension_metadata id bytes = do
  name ← short_text id
  metadata ← short_text bytes
  Some (to_le_bytes w32 2 ++ (sized name_key ++ (name ++ (sized metadata_key ++ metadata))))
