-- SPDX-License-Identifier: Apache-2.0
-- SPDX-FileCopyrightText: Copyright the Vortex contributors

-- A sample is a value of its type.
use Rattle.std.specs.Prelude.{◌≡◌, ◌<◌, ℕ, zero, suc, pos, [], refl}
use Rattle.std.specs.Int.Signed.{le_z_yes, lt_z_yes}
use Rattle.std.proofs.lemmas.Int.{ints}
use Rattle.std.proofs.Common.{ap, arith, inl, lit<}
use Rattle.std.proofs.lemmas.Str.{IsUtf8-nil}
use Rattle.std.proofs.lemmas.List.Elements.{All-nil}
use Rattle.dtype_base.specs.Bytes.{Bytes}
use Rattle.dtype_base.specs.declared.nullability.Nullability.TheVariants.{NonNullable}
use Rattle.dtype_base.specs.Primitives.{ptype_row}
use Rattle.dtype_base.specs.declared.ptype.PType.{PType}
use Rattle.dtype_base.specs.declared.ptype.PType.TheVariants.{U8, U16, U32, U64, F16, F32, F64}
use Rattle.dtype_types.specs.tree.Tree.{Tree, Fields, no_items, item, bool, primitive, decimal, utf8, binary, list, fixed_size_list, map_of, struct, union, variant, extension}
use Rattle.dtype_types.specs.tree.Valid.{Valid, ValidItems}
use Rattle.dtype_types.proofs.lemmas.ValidLists.{variants_are}
use Rattle.dtype_types.specs.values.Value.{Value, Of, NamedOf, Each, value_count, HasDigits}
use Rattle.dtype_types.specs.values.Sample.{sample, samples, copies, zero_of}

pub value_count-copies : (k : ℕ) (v : Value) → value_count (copies k v) ≡ k
value_count-copies zero v = refl
value_count-copies (suc k) v = ap suc (value_count-copies k v)

pub each_copy : (P : Value → Type 0) (k : ℕ) (v : Value) → P v → Each P (copies k v)
each_copy P zero v h = tt
each_copy P (suc k) v h = (h, each_copy P k v h)

-- a list of one length shows a member, if it has any
pub copies_hold : (P : Value → Type 0) (k : ℕ) (v : Value) → 0 < k → Each P (copies k v) → P v
copies_hold P zero v h e = absurd (omega arith)
copies_hold P (suc k) v h e = e.0

zero-of : (p : PType) → Of (zero_of (ptype_row p).kind) (primitive p NonNullable)
zero-of U8 = lit< tt
zero-of U16 = lit< tt
zero-of U32 = lit< tt
zero-of U64 = lit< tt
zero-of F16 = (refl, lit< tt)
zero-of F32 = (refl, lit< tt)
zero-of F64 = (refl, lit< tt)
zero-of _ = (le_z_yes tt, lt_z_yes tt)

zero_digits : (p : ℕ) → HasDigits p (pos 0)
zero_digits p = (omega (arith, ints), omega (arith, ints))

no_bytes : Bytes []
no_bytes = All-nil (λ x. x < 256)

mutual
  pub sample_of : (t : Tree) → Valid t → Of (sample t) t
  sample_of (bool NonNullable) h = tt
  sample_of (primitive p NonNullable) h = zero-of p
  sample_of (decimal d NonNullable) h = zero_digits d.precision
  sample_of (utf8 NonNullable) h = IsUtf8-nil
  sample_of (binary NonNullable) h = no_bytes
  sample_of (list t NonNullable) h = tt
  sample_of (fixed_size_list t k NonNullable) h = (value_count-copies k (sample t), each_copy (λ v. Of v t) k (sample t) (sample_of t h.1))
  sample_of (map_of t u s NonNullable) h = tt
  sample_of (struct fs NonNullable) h = samples_of fs h
  sample_of (union no_items NonNullable) h = absurd ((variants_are no_items h.0).0.0.2 refl)
  sample_of (union (item n t g rest) NonNullable) h = inl (refl, sample_of t h.1.0)
  sample_of (variant NonNullable) h = no_bytes
  sample_of (extension id b s) h = sample_of s h.1
  sample_of _ h = refl

  pub samples_of : (fs : Fields) → ValidItems fs → NamedOf (samples fs) fs
  samples_of no_items h = tt
  samples_of (item n t _ fs) h = (refl, sample_of t h.0, samples_of fs h.1)
