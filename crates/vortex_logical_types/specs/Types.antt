-- SPDX-License-Identifier: Apache-2.0
-- SPDX-FileCopyrightText: Copyright the Vortex contributors

-- What single calls for types do: outcomes, and what they find in a type.
use Rattle.std.specs.Prelude.{◌≡◌, ◌⊎◌, ◌++◌, ◌∷◌, ◌<◌, ◌≤◌, ◌==◌, if◌then◌else◌, ℕ, ℤ, Bool, List, [], Option, Some, None, Result, Ok, Err, fold, length, remove}
use Rattle.std.specs.Hash.DefaultHasher as sip
use Rattle.std.specs.List.{insert, range_with_len, zip}
use Rattle.dtype_base.specs.Decimals.{Decimal, DecimalError, IsDecimalWithin, greatest_precision}
use Rattle.dtype_base.specs.Distinct.{Distinct}
use Rattle.dtype_base.specs.FieldNames.{SelectionError}
use Rattle.dtype_base.specs.declared.nullability.Nullability.{Nullability}
use Rattle.dtype_base.specs.declared.nullability.Nullability.TheVariants.{NonNullable}
use Rattle.dtype_base.specs.declared.ptype.PType.{PType}
use Rattle.dtype_base.specs.declared.ptype.PType.TheVariants.{U8, U16, U32, U64, I8, I16, I32, I64, F16, F32, F64}
use Rattle.dtype_base.specs.declared.vortex_error.VortexError.{VortexError}
use Rattle.dtype_base.specs.declared.vortex_error.VortexError.TheVariants.{DuplicateNames, IndexOutOfBounds, MapKeyNullable, OutOfMemory, UnionTooMany, WidthOverflow}
use Rattle.dtype_types.specs.equality.Hashes.{hash_writes, hash_writes_ignoring_nullability}
use Rattle.dtype_types.specs.declared.dtype.DType.{DType as Logical}
use Rattle.dtype_types.specs.nullability.Nullable.{IsNullable, nullability}
use Rattle.dtype_types.specs.parts.Lookups.{Projects, field_names}
use Rattle.dtype_types.specs.parts.Unions.{MakesUnion, UnionError}
use Rattle.dtype_types.specs.tree.Tree.{Tree, decimal, fields, fixed_size_list, map_of, struct, union, variants}
use Rattle.dtype_types.specs.tree.TreeOf.{tree}
use Rattle.dtype_types.specs.tree.Width.{Fixed, HasWidePart, width}
use Rattle.vortex_logical_types.specs.Vocabulary.{Outcome, checked, decided, either_of, fails, fails_with, gives, gives_some, refuses}

-- the primitive type of a number, from 0 to 10
abbrev pub ptype_numbered : ℕ → Option PType
ptype_numbered n =
    if n == 0 then Some U8 else (if n == 1 then Some U16 else (if n == 2 then Some U32 else (if n == 3 then Some U64 else
    (if n == 4 then Some I8 else (if n == 5 then Some I16 else (if n == 6 then Some I32 else (if n == 7 then Some I64 else
    (if n == 8 then Some F16 else (if n == 9 then Some F32 else (if n == 10 then Some F64 else None))))))))))

-- the size of a fixed-size list
abbrev pub fixed_size_of : Tree → Option ℕ
fixed_size_of (fixed_size_list t size n) = Some size
fixed_size_of _ = None

-- the precision and the scale of a decimal
abbrev pub digits_of : Decimal → ℕ × ℤ
digits_of d = (d.precision, d.scale)

-- the hash of a type by std's hasher, with its nullabilities and without them
abbrev pub hash_of_type : Tree → ℕ
hash_of_type t = sip.finish (fold sip.write sip.initial (hash_writes t))

abbrev pub hash_ignoring_nullability : Tree → ℕ
hash_ignoring_nullability t = sip.finish (fold sip.write sip.initial (hash_writes_ignoring_nullability t))

-- The decimal type of a precision and a scale, or the error for the rule that they break. For example, of the precision 0 it is
-- `PrecisionZero` with the maximum 76.
abbrev pub makes_decimal : ℕ → ℤ → Nullability → Outcome Tree
makes_decimal precision scale n =
    checked (IsDecimalWithin greatest_precision precision scale) (DecimalError greatest_precision precision scale)
    (gives (decimal (record { precision = precision; scale = scale }) n))

-- The width of the values of a type in bytes; 1 if it is variable, and `WidthOverflow` if a part is too wide. A list of size 0 has
-- width 0, and there is also `WidthOverflow` if its element is too wide.
abbrev pub width_of : Tree → Outcome ℕ
width_of t = decided (Fixed t) (decided (HasWidePart t) (fails_with WidthOverflow) (gives (width t))) (refuses 1)

-- the map of a key type and a value type, or `MapKeyNullable` if the key type is nullable
abbrev pub makes_map : Tree → Tree → Bool → Nullability → Outcome Tree
makes_map k v sorted n = decided (nullability k ≡ NonNullable) (gives (map_of k v sorted n)) (fails_with MapKeyNullable)

-- The union of names, types and tags, or the error for the first rule that they break. For example, of no names it is
-- `UnionEmpty`.
abbrev pub makes_union : List ℕ → Nullability → List (List ℕ) → List Tree → Outcome Tree
makes_union tags n ns ts =
    checked (MakesUnion ns (length ts) tags) (UnionError ns (length ts) tags) (gives (union (variants (zip ns (zip ts tags))) n))

-- the same with the tags 0, 1, 2 and so on; `UnionTooMany` if there are more than 256 names
abbrev pub makes_consecutive : Nullability → List (List ℕ) → List Tree → Outcome Tree
makes_consecutive n ns ts No Why Yes =
    ((length ns ≤ 256) × makes_union (range_with_len 0 (length ns)) n ns ts No Why Yes) ⊎ ((256 < length ns) × fails_with UnionTooMany No Why Yes)

-- The struct without the field at a position. If there is no such field, `IndexOutOfBounds` with the position and the number of
-- fields.
abbrev pub removes_field : List (List ℕ × Tree) → Nullability → ℕ → Outcome Tree
removes_field fs n index No Why Yes =
    ((index < length fs) × gives (struct (fields (remove fs index)) n) No Why Yes)
    ⊎ ((length fs ≤ index) × fails_with (IndexOutOfBounds index (length fs)) No Why Yes)

-- the fields, and one more behind them
unfoldable pub with_last : List (List ℕ × Tree) → List ℕ × Tree → List (List ℕ × Tree)
with_last fs f = fs ++ (f ∷ [])

-- The struct with one more field at a position. If the position is above the number of fields, `IndexOutOfBounds` with the
-- position and the number of fields. For example, the field `c` of type `u8` at 1 in `{a=i32, b=utf8}` makes
-- `{a=i32, c=u8, b=utf8}`.
abbrev pub inserts_field : List (List ℕ × Tree) → Nullability → ℕ → List ℕ × Tree → Outcome Tree
inserts_field fs n index f No Why Yes =
    ((index ≤ length fs) × gives (struct (fields (insert fs index f)) n) No Why Yes)
    ⊎ ((length fs < index) × fails_with (IndexOutOfBounds index (length fs)) No Why Yes)

-- the struct of the fields of two structs, or `DuplicateNames` if a name occurs twice
abbrev pub joins_fields : List (List ℕ × Tree) → List (List ℕ × Tree) → Nullability → Outcome Tree
joins_fields fs gs n = decided (Distinct (field_names (fs ++ gs))) (gives (struct (fields (fs ++ gs)) n)) (fails_with DuplicateNames)

-- The struct of the first fields with these names. If no field has one of the names, `FieldNotFound` with the position of the
-- first such name among the names.
abbrev pub projects : List (List ℕ × Tree) → Nullability → List (List ℕ) → Outcome Tree
projects fs n ns =
    either_of (gives_some (λ u. (gs : List (List ℕ × Tree)) × Projects fs ns gs × (u ≡ struct (fields gs) n)))
    (fails (SelectionError (field_names fs) ns))

-- what `DType::map` returns
abbrev pub MakesMap : Tree → Tree → Bool → Nullability → Result Logical VortexError → Type 0
MakesMap k v sorted n (Ok d) = (nullability k ≡ NonNullable) × (tree d ≡ map_of k v sorted n)
MakesMap k v sorted n (Err e) = (e ≡ OutOfMemory) ⊎ ((e ≡ MapKeyNullable) × IsNullable k)
