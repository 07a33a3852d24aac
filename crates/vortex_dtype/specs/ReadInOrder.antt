-- SPDX-License-Identifier: Apache-2.0
-- SPDX-FileCopyrightText: Copyright the Vortex contributors

-- Reading as a function on message trees. It returns the type, or the first fault with its values. The faults of a
-- child come before the faults for which the parent tests the child. From the documentation of the errors. The
-- relations of `Reads` specify no order. The law `read_is_what_reads` states how `read` and these relations are
-- connected.
use Rattle.std.specs.Prelude.{◌≡◌, ℕ, ℤ, pos, Bool, false, List, [], ◌∷◌, length, Option, Some, None, Result, Ok, Err, if◌then◌else◌, ◌==◌, ◌||◌, nat_eq, nat_lt, int_lt, bytes_eq}
use Rattle.std.specs.List.{zip, list_any}
use Rattle.dtype_base.specs.declared.nullability.Nullability.{Nullability}
use Rattle.dtype_base.specs.declared.nullability.Nullability.TheVariants.{NonNullable, Nullable}
use Rattle.dtype_base.specs.declared.vortex_error.VortexError.{VortexError}
use Rattle.dtype_base.specs.declared.vortex_error.VortexError.TheVariants.{OutOfMemory, PrecisionZero, PrecisionTooLarge, ScaleTooLarge, ScaleAbovePrecision, MapKeyNullable, UnionTypesLength, UnionTagsLength, UnionEmpty, UnionTagsRepeat, UnionNamesRepeat, Message as Faulty}
use Rattle.dtype_base.specs.declared.vortex_error.MessageFault.{MessageFault}
use Rattle.dtype_base.specs.declared.vortex_error.MessageFault.TheVariants.{TypeMissing, PrimitiveNumber, PrecisionRange, ScaleRange, ListElementMissing, FixedElementMissing, MapKeyMissing, MapValueMissing, StructLengths, TypeIdRange, StorageMissing}
use Rattle.dtype_base.specs.Nullability.{nullability_of}
use Rattle.dtype_base.specs.Decimals.{Decimal, greatest_precision}
use Rattle.dtype_types.specs.tree.Tree as of
use Rattle.dtype_types.specs.tree.Tree.{Tree, fields, variants}
use Rattle.dtype_types.specs.nullability.Nullable.{nullability}
use Rattle.dtype_messages.specs.Message.{Message, Child, Messages, missing, null, bool, primitive, decimal, utf8, binary, list, fixed_size_list, map_of, struct, union, variant, extension, absent, present, no_message, more}
use Rattle.vortex_dtype.specs.Meaning.{Meaning, keeps, unkept_error}
use Rattle.dtype_messages.specs.PTypeNumbers.{ptype_at}
use Rattle.vortex_dtype.specs.Numbers.{integer_byte, signed_byte, natural_byte}

-- what comes after, or the first error
infixl 10 ◌>>=◌
abbrev pub ◌>>=◌ : {A B : Type 0} → Result A VortexError → (A → Result B VortexError) → Result B VortexError
(Ok x) >>= f = f x
(Err e) >>= f = Err e

-- the value, or this error if there is none
abbrev pub or_fault : {A : Type 0} → VortexError → Option A → Result A VortexError
or_fault k None = Err k
or_fault k (Some x) = Ok x

-- missing metadata is empty
abbrev pub or_empty : Option (List ℕ) → List ℕ
or_empty None = []
or_empty (Some b) = b

-- the type of each kind, from its parts
unfoldable pub primitive_read : ℤ → Nullability → Result Tree VortexError
primitive_read k n = or_fault (Faulty PrimitiveNumber) (ptype_at k) >>= λ p. Ok (of.primitive p n)

-- the decimal of a precision and a scale, or the first of its errors
unfoldable pub decimal_made : ℕ → ℤ → Result Decimal VortexError
decimal_made p k =
    if nat_eq p 0 then Err (PrecisionZero greatest_precision) else (if nat_lt greatest_precision p then Err (PrecisionTooLarge p greatest_precision) else (if int_lt (pos greatest_precision) k then Err (ScaleTooLarge k (pos greatest_precision)) else (if int_lt (pos p) k then Err (ScaleAbovePrecision k p) else
    Ok (record { precision = p; scale = k }))))

unfoldable pub decimal_read : ℕ → ℤ → Nullability → Result Tree VortexError
decimal_read p k n = or_fault (Faulty PrecisionRange) (natural_byte p) >>= λ q. (or_fault (Faulty ScaleRange) (signed_byte k) >>= λ c. (decimal_made q c >>= λ d. Ok (of.decimal d n)))

-- the type t if the key is non-nullable, and otherwise the error `MapKeyNullable`
abbrev pub when_required : Nullability → Tree → Result Tree VortexError
when_required NonNullable t = Ok t
when_required Nullable t = Err MapKeyNullable

unfoldable pub map_read : Tree → Tree → Bool → Nullability → Result Tree VortexError
map_read x y o n = when_required (nullability x) (of.map_of x y o n)

-- the struct of these names and types, or an error if there aren't as many names as types
unfoldable pub struct_read : List (List ℕ) → List Tree → Nullability → Result Tree VortexError
struct_read ns ts n = if length ns == length ts then Ok (of.struct (fields (zip ns ts)) n) else Err (Faulty StructLengths)

-- the tags if each of them is a byte, or the first fault
unfoldable pub read_tags : List ℤ → Result (List ℕ) VortexError
read_tags [] = Ok []
read_tags (t ∷ ts) = or_fault (Faulty TypeIdRange) (integer_byte t) >>= λ x. (read_tags ts >>= λ xs. Ok (x ∷ xs))

-- an item is repeated
abbrev pub repeats : {X : Type 0} → (X → X → Bool) → List X → Bool
repeats eq [] = false
repeats eq (x ∷ xs) = list_any (eq x) xs || repeats eq xs

-- the union of names, types and tags, or the first of its errors
unfoldable pub union_made : List (List ℕ) → List Tree → List ℕ → Nullability → Result Tree VortexError
union_made ns ts gs n =
    if length ns == length ts then (if length ns == length gs then (if nat_eq (length ns) 0 then Err UnionEmpty else (if repeats nat_eq gs then Err UnionTagsRepeat else (if repeats bytes_eq ns then Err UnionNamesRepeat else
    Ok (of.union (variants (zip ns (zip ts gs))) n)))) else Err UnionTagsLength) else Err UnionTypesLength

unfoldable pub union_read : List (List ℕ) → List Tree → List ℤ → Nullability → Result Tree VortexError
union_read ns ts gs n = read_tags gs >>= λ tags. union_made ns ts tags n

unfoldable pub extension_read : Meaning → List ℕ → List ℕ → Tree → Result Tree VortexError
extension_read s id b x = or_fault (unkept_error s id) (keeps s id b x) >>= λ c. Ok (of.extension id c x)

-- The type that a message reads as, or its first fault. The parts of the message are read in order, and then the type
-- is made of them.
unfoldable mutual
  pub read : Meaning → Message → Result Tree VortexError
  read s missing = Err (Faulty TypeMissing)
  read s null = Ok of.null
  read s (bool f) = Ok (of.bool (nullability_of f))
  read s (primitive k f) = primitive_read k (nullability_of f)
  read s (decimal p k f) = decimal_read p k (nullability_of f)
  read s (utf8 f) = Ok (of.utf8 (nullability_of f))
  read s (binary f) = Ok (of.binary (nullability_of f))
  read s (list c f) = read_child s ListElementMissing c >>= λ x. Ok (of.list x (nullability_of f))
  read s (fixed_size_list c k f) = read_child s FixedElementMissing c >>= λ x. Ok (of.fixed_size_list x k (nullability_of f))
  read s (map_of c v o f) = read_child s MapKeyMissing c >>= λ x. (read_child s MapValueMissing v >>= λ y. map_read x y o (nullability_of f))
  read s (struct ns ms f) = read_all s ms >>= λ ts. struct_read ns ts (nullability_of f)
  read s (union ns ms gs f) = read_all s ms >>= λ ts. union_read ns ts gs (nullability_of f)
  read s (variant f) = Ok (of.variant (nullability_of f))
  read s (extension id c b) = read_child s StorageMissing c >>= λ x. extension_read s id (or_empty b) x

  pub read_child : Meaning → MessageFault → Child → Result Tree VortexError
  read_child s j absent = Err (Faulty j)
  read_child s j (present m) = read s m

  pub read_all : Meaning → Messages → Result (List Tree) VortexError
  read_all s no_message = Ok []
  read_all s (more m ms) = read s m >>= λ x. (read_all s ms >>= λ xs. Ok (x ∷ xs))

-- the result is this error. If the error is `OutOfMemory`, this requires nothing, because any call may return it.
abbrev pub Fails : {Y : Type 0} → VortexError → Result Y VortexError → Type 0
Fails OutOfMemory r = Unit {0}
Fails e r = r ≡ Err e

-- the result of a call is what `read` returns, if `view` is applied to the value
abbrev pub Gives : {X Y : Type 0} → (X → Y) → Result X VortexError → Result Y VortexError → Type 0
Gives view (Ok x) r = r ≡ Ok (view x)
Gives view (Err e) r = Fails e r
