-- SPDX-License-Identifier: Apache-2.0
-- SPDX-FileCopyrightText: Copyright the Vortex contributors

-- Values as finite trees, and which of them are values of which type. From the documentation of `DType`: null is a
-- value of exactly the nullable types, and every other value is of one kind, which its type must have too. For example,
-- a list is never equal to a fixed-size list, a map, a struct or a union value. These definitions don't refer to how
-- values are stored.
use Rattle.std.specs.Prelude.{◌≡◌, ◌⊎◌, ◌↔◌, ℕ, suc, ◌-◌, ◌^◌, ℤ, pos, negsuc, neg_ℤ, ◌≤ℤ◌, List, Bool, IsUtf8}
use Rattle.dtype_base.specs.Bytes.{Bytes}
use Rattle.dtype_base.specs.Primitives.{ptype_row, NumberKind, HoldsUnsigned, HoldsSigned, IsFloat}
use Rattle.dtype_base.specs.Primitives.NumberKind.{Unsigned, Signed, Floating}
use Rattle.dtype_base.specs.declared.ptype.PType.{PType}
use Rattle.dtype_types.specs.nullability.Nullable.{IsNullable}
use Rattle.dtype_types.specs.tree.Tree.{Tree, Fields, no_items, Variants, item, bool, primitive, decimal, utf8, binary, list, fixed_size_list, map_of, struct, union, variant, extension}

mutual
  -- a value: null, or one of twelve kinds
  pub data Value : Type 0 where
    null_value : Value
    truth : Bool → Value
    -- an integer
    number : ℤ → Value
    -- a float's bit pattern
    float_bits : ℕ → Value
    -- a decimal, without its point
    digits : ℤ → Value
    text : List ℕ → Value
    bytes : List ℕ → Value
    -- of a variant type
    opaque : List ℕ → Value
    -- of a list
    items : Values → Value
    -- of a fixed-size list
    fixed_items : Values → Value
    -- of a map
    entries : Entries → Value
    -- of a struct
    record_of : Named → Value
    -- of a union: the variant's tag, and a value of its type
    tagged : ℕ → Value → Value

  -- the elements of a list
  pub data Values : Type 0 where
    no_values : Values
    value : Value → Values → Values

  -- the entries of a map, each with a key and a value
  pub data Entries : Type 0 where
    no_entries : Entries
    entry : Value → Value → Entries → Entries

  -- the fields of a struct, each with a name and a value
  pub data Named : Type 0 where
    no_named : Named
    named : List ℕ → Value → Named → Named

-- the integer is in the range of the primitive type `p`, which is of this kind
abbrev pub InRange : NumberKind → PType → ℤ → Type 0
InRange Unsigned p (pos n) = HoldsUnsigned n p
InRange Unsigned p (negsuc n) = ⊥
InRange Signed p z = HoldsSigned z p
InRange Floating p z = ⊥

-- the integer is in the range of the primitive type
abbrev pub IntegerOf : PType → ℤ → Type 0
IntegerOf p z = InRange (ptype_row p).kind p z

-- `p` is a floating-point type, and `k` is a bit pattern of its width, so it is below 2 ^ 16, 2 ^ 32 or 2 ^ 64
abbrev pub FloatBitsOf : PType → ℕ → Type 0
FloatBitsOf p k = IsFloat p × HoldsUnsigned k p

-- the integer has at most `p` decimal digits: it is from -(10 ^ p - 1) to 10 ^ p - 1
abbrev pub HasDigits : ℕ → ℤ → Type 0
HasDigits p z = (neg_ℤ (pos (10 ^ p - 1)) ≤ℤ z) × (z ≤ℤ pos (10 ^ p - 1))

-- `P` is true of each element
abbrev pub Each : (Value → Type 0) → Values → Type 0
Each P no_values = Unit {0}
Each P (value v vs) = P v × Each P vs

-- `P` is true of each key, and `Q` of each value
abbrev pub EachEntry : (Value → Type 0) → (Value → Type 0) → Entries → Type 0
EachEntry P Q no_entries = Unit {0}
EachEntry P Q (entry k v es) = P k × Q v × EachEntry P Q es

-- the number of elements
abbrev pub value_count : Values → ℕ
value_count no_values = 0
value_count (value v vs) = suc (value_count vs)

-- the value is a value of the type; an extension has exactly the values of its storage type
abbrev mutual
  pub Of : Value → Tree → Type 0
  Of v (extension id b s) = Of v s
  Of null_value t = IsNullable t
  Of (truth x) (bool n) = Unit {0}
  Of (number z) (primitive p n) = IntegerOf p z
  Of (float_bits k) (primitive p n) = FloatBitsOf p k
  Of (digits z) (decimal d n) = HasDigits d.precision z
  Of (text bs) (utf8 n) = IsUtf8 bs
  Of (bytes bs) (binary n) = Bytes bs
  Of (opaque bs) (variant n) = Bytes bs
  Of (items vs) (list t n) = Each (λ v. Of v t) vs
  Of (fixed_items vs) (fixed_size_list t k n) = (value_count vs ≡ k) × Each (λ v. Of v t) vs
  Of (entries es) (map_of t u s n) = EachEntry (λ k. Of k t) (λ v. Of v u) es
  Of (record_of nvs) (struct fs n) = NamedOf nvs fs
  Of (tagged g v) (union vs n) = VariantOf g v vs
  Of _ _ = ⊥

  -- the names are those of the fields, in the same order, and each value is a value of the type of its field
  pub NamedOf : Named → Fields → Type 0
  NamedOf no_named no_items = Unit {0}
  NamedOf (named m v rest) (item n t _ fs) = (m ≡ n) × Of v t × NamedOf rest fs
  NamedOf _ _ = ⊥

  -- some variant has the tag, and the value is a value of its type
  pub VariantOf : ℕ → Value → Variants → Type 0
  VariantOf g v no_items = ⊥
  VariantOf g v (item n t h rest) = ((g ≡ h) × Of v t) ⊎ VariantOf g v rest

-- each value of a is a value of b
abbrev pub IncludedIn : Tree → Tree → Type 0
IncludedIn a b = (v : Value) → Of v a → Of v b

-- the values of `u` are the values of `t` and null
abbrev pub AddsNull : Tree → Tree → Type 0
AddsNull t u = (v : Value) → Of v u ↔ (Of v t ⊎ (v ≡ null_value))
