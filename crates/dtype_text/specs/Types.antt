-- SPDX-License-Identifier: Apache-2.0
-- SPDX-FileCopyrightText: Copyright the Vortex contributors

-- What is read of types. `part` reads a type within another.
use Rattle.std.specs.Prelude.{ℕ, zero, suc, List, [], ◌∷◌, ◌==◌, Bool, true, false, Option, Some, None, if◌then◌else◌, length, is_some}
use Rattle.dtype_base.specs.declared.nullability.Nullability.{Nullability}
use Rattle.dtype_base.specs.declared.vortex_error.VortexError.TheVariants.{MapKeyNullable}
use Rattle.dtype_types.specs.nullability.Nullable.{nullability}
use Rattle.dtype_types.specs.tree.Tree as of
use Rattle.dtype_types.specs.tree.Tree.{Tree, fields}
use Rattle.dtype_text.specs.declared.keyword.Keyword.{Keyword}
use Rattle.dtype_text.specs.declared.keyword.Keyword.TheVariants as k
use Rattle.dtype_text.specs.Bare.{is_id_byte, is_bare_id}
use Rattle.dtype_text.specs.Read.{byte_at}
use Rattle.dtype_text.specs.Outcome.{Outcome, got, misspelled, refused, too_deep, said, ◌>>=◌}
use Rattle.dtype_text.specs.Leaves.{front, past, skipped, text_at, nullability_at, name_at, equals_at, comma_at, tag_at, metadata_at, quoted_at}
use Rattle.dtype_text.specs.TypeParts.{keyword_at, size_at, end_at, decimal_parts, is_decimal, decimal_error, a_decimal, is_nonnullable, keys_sorted_at, is_end}
use Rattle.dtype_text.specs.Unions.{union_at}

-- what reads a type, or a value that contains types
abbrev pub Reader : Type 0 → Type 0
Reader A = List ℕ → Outcome (A × List ℕ)

-- a type with a mark of nullability behind it
unfoldable pub marked : (Nullability → Tree) → Reader Tree
marked t bytes = let n = nullability_at bytes in got (t n.0, n.1)

-- null, which no mark may follow
abbrev pub null_unless : Option (List ℕ) → Reader Tree
null_unless (Some rest) bytes = misspelled
null_unless None bytes = got (of.null, bytes)

unfoldable pub null_at : Reader Tree
null_at bytes = null_unless (byte_at 63 bytes) bytes

-- a type in parentheses
unfoldable pub wrapped_by : Reader Tree → Reader Tree
wrapped_by part bytes = do
  inner ← said (byte_at 40 bytes)
  t ← part (skipped inner)
  rest ← said (byte_at 41 (skipped t.1))
  got (t.0, rest)

unfoldable pub list_by : Reader Tree → Reader Tree
list_by part bytes = do
  t ← wrapped_by part bytes
  marked (λ n. of.list t.0 n) t.1

unfoldable pub fixed_by : Reader Tree → Reader Tree
fixed_by part bytes = do
  t ← wrapped_by part bytes
  n ← said (size_at t.1)
  marked (λ m. of.fixed_size_list t.0 n.0 m) n.1

-- the items after one, if it wasn't the last
abbrev pub go_on : {A : Type 0} → Reader (List A) → A → Bool × List ℕ → Outcome (List A × List ℕ)
go_on rest x (true, bytes) = got (x ∷ [], bytes)
go_on rest x (false, bytes) = rest bytes >>= λ xs. got (x ∷ xs.0, xs.1)

-- items with commas between them up to a closing byte, at least one and at most so many
abbrev pub separated : {A : Type 0} → ℕ → Reader A → ℕ → Reader (List A)
separated close item zero bytes = misspelled
separated close item (suc n) bytes = item bytes >>= λ x. said (end_at close x.1) >>= λ e. go_on (separated close item n) x.0 e

-- the same, or no item
abbrev pub items_or : {A : Type 0} → Option (List ℕ) → Outcome (List A × List ℕ) → Outcome (List A × List ℕ)
items_or (Some rest) read = got ([], rest)
items_or None read = read

unfoldable pub items_by : {A : Type 0} → ℕ → Reader A → Reader (List A)
items_by close item bytes = items_or (byte_at close bytes) (separated close item (length bytes) bytes)

-- a field
unfoldable pub field_by : Reader Tree → Reader (List ℕ × Tree)
field_by part bytes = do
  n ← said (name_at bytes)
  inner ← said (equals_at n.1)
  t ← part inner
  got ((n.0, t.0), t.1)

unfoldable pub struct_by : Reader Tree → Reader Tree
struct_by part bytes = do
  fs ← items_by 125 (field_by part) (skipped bytes)
  marked (λ n. of.struct (fields fs.0) n) fs.1

-- a variant, with its tag if that is written
unfoldable pub variant_by : Reader Tree → Reader (List ℕ × (Tree × Option ℕ))
variant_by part bytes = do
  n ← said (name_at bytes)
  g ← said (tag_at n.1)
  inner ← said (equals_at g.1)
  t ← part inner
  got ((n.0, (t.0, g.0)), t.1)

unfoldable pub union_by : Reader Tree → Reader Tree
union_by part bytes = do
  inner ← said (byte_at 40 bytes)
  vs ← items_by 41 (variant_by part) (skipped inner)
  made ← union_at vs.0
  marked (λ n. of.union made n) vs.1

unfoldable pub decimal_at : Reader Tree
decimal_at bytes = do
  d ← said (decimal_parts bytes)
  if is_decimal d.0.0 d.0.1 then marked (λ n. of.decimal (a_decimal d.0.0 d.0.1) n) d.1 else refused (decimal_error d.0.0 d.0.1)

unfoldable pub map_by : Reader Tree → Reader Tree
map_by part bytes = do
  inner ← said (byte_at 40 bytes)
  key ← part (skipped inner)
  behind ← said (comma_at key.1)
  value ← part behind
  sorted ← said (keys_sorted_at value.1)
  if is_nonnullable (nullability key.0) then marked (λ n. of.map_of key.0 value.0 sorted.0 n) sorted.1 else refused MapKeyNullable

-- what is behind the id of an extension
unfoldable pub extension_by : Reader Tree → List ℕ → Reader Tree
extension_by part id bytes = do
  m ← said (metadata_at bytes)
  t ← wrapped_by part m.1
  got (of.extension id m.0 t.0, t.1)

-- an extension whose id is a bare word
unfoldable pub bare_extension_by : Reader Tree → Reader Tree
bare_extension_by part bytes = do
  id ← said (text_at (front is_id_byte bytes))
  if is_bare_id id then extension_by part id (past is_id_byte bytes) else misspelled

unfoldable pub quoted_extension_by : Reader Tree → Reader Tree
quoted_extension_by part bytes = do
  id ← said (quoted_at bytes)
  extension_by part id.0 id.1

-- what is behind a keyword
unfoldable pub after_keyword : Reader Tree → Keyword → Reader Tree
after_keyword part k.Null bytes = null_at bytes
after_keyword part k.Bool bytes = marked of.bool bytes
after_keyword part k.Utf8 bytes = marked of.utf8 bytes
after_keyword part k.Binary bytes = marked of.binary bytes
after_keyword part k.Variant bytes = marked of.variant bytes
after_keyword part (k.Primitive t) bytes = marked (of.primitive t) bytes
after_keyword part k.List bytes = list_by part bytes
after_keyword part k.FixedSizeList bytes = fixed_by part bytes
after_keyword part k.Decimal bytes = decimal_at bytes
after_keyword part k.Map bytes = map_by part bytes
after_keyword part k.Union bytes = union_by part bytes

-- a type that begins with a keyword
unfoldable pub keyword_by : Reader Tree → Reader Tree
keyword_by part bytes = do
  k ← said (keyword_at bytes)
  after_keyword part k.0 k.1

-- a type that begins with a word, which is an id if a bracket is behind it
unfoldable pub word_by : Reader Tree → Reader Tree
word_by part bytes = if is_some (byte_at 91 (past is_id_byte bytes)) then bare_extension_by part bytes else keyword_by part bytes

-- a type
unfoldable pub type_by : Reader Tree → Reader Tree
type_by part [] = word_by part []
type_by part (b ∷ bytes) =
    if b == 123 then struct_by part bytes
    else if b == 34 then quoted_extension_by part bytes
    else word_by part (b ∷ bytes)

-- a type within so many others
abbrev pub part_at : ℕ → Reader Tree
part_at zero bytes = too_deep (length bytes)
part_at (suc levels) bytes = type_by (part_at levels) bytes

-- a whole text
unfoldable pub whole_at : List ℕ → Outcome Tree
whole_at bytes = do
  t ← type_by (part_at 128) (skipped bytes)
  if is_end (skipped t.1) then got t.0 else misspelled
