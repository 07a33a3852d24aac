-- SPDX-License-Identifier: Apache-2.0
-- SPDX-FileCopyrightText: Copyright the Vortex contributors

-- Types whose parts aren't merged one by one: types of two kinds, and types without parts that aren't types of numbers.
use Rattle.std.proofs.Common.{◌≡◌, ◌≢◌, Bool, true, false, refl}
use Rattle.std.proofs.lemmas.Bool.{false≢true}
use Rattle.dtype_types.specs.declared.dtype.kinds.Kind.{Kind}
use Rattle.dtype_types.specs.declared.dtype.kinds.Kind.TheVariants as variants
use Rattle.dtype_types.specs.tree.Kinds.{kind}
use Rattle.dtype_types.specs.tree.Tree.{Tree, primitive, decimal, list, fixed_size_list, map_of, struct, union, extension}
use Rattle.dtype_merging.specs.MergedColumns.{columns_merged, others_merged}
use Rattle.dtype_merging.specs.declared.widening.Widening.{Widening}
use Rattle.dtype_merging.proofs.lemmas.Order.{plain_kind}

pub others_apart : (wide : Widening) (t u : Tree) → kind t ≢ kind u → columns_merged wide t u ≡ others_merged t u
others_apart wide (primitive p m) (primitive q n) ne = absurd (ne refl)
others_apart wide (decimal d m) (decimal e n) ne = absurd (ne refl)
others_apart wide (list t m) (list u n) ne = absurd (ne refl)
others_apart wide (fixed_size_list t j m) (fixed_size_list u k n) ne = absurd (ne refl)
others_apart wide (map_of t v x m) (map_of u w y n) ne = absurd (ne refl)
others_apart wide (struct fs m) (struct gs n) ne = absurd (ne refl)
others_apart wide (union vs m) (union ws n) ne = absurd (ne refl)
others_apart wide (extension i a t) (extension j b u) ne = absurd (ne refl)
others_apart wide t u ne = refl

-- whether the types of a kind have no parts, and aren't types of numbers
abbrev pub other_kind : Kind → Bool
other_kind variants.Primitive = false
other_kind variants.Decimal = false
other_kind k = plain_kind k

pub plain_others : (wide : Widening) (t u : Tree) → other_kind (kind t) ≡ true → columns_merged wide t u ≡ others_merged t u
plain_others wide (primitive q m) u p = absurd (false≢true p)
plain_others wide (decimal d m) u p = absurd (false≢true p)
plain_others wide (list t m) u p = absurd (false≢true p)
plain_others wide (fixed_size_list t j m) u p = absurd (false≢true p)
plain_others wide (map_of t v x m) u p = absurd (false≢true p)
plain_others wide (struct fs m) u p = absurd (false≢true p)
plain_others wide (union vs m) u p = absurd (false≢true p)
plain_others wide (extension i a t) u p = absurd (false≢true p)
plain_others wide t u p = refl
