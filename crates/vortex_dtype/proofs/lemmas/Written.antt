-- SPDX-License-Identifier: Apache-2.0
-- SPDX-FileCopyrightText: Copyright the Vortex contributors

-- Types of which the messages are equal are equal.
use Rattle.std.proofs.Common.{arith, ◌≡◌, refl, sym, ap, ◌∙◌}
use Rattle.dtype_base.specs.declared.nullability.Nullability.{Nullability}
use Rattle.dtype_base.specs.declared.nullability.Nullability.TheVariants.{NonNullable, Nullable}
use Rattle.dtype_base.specs.Nullability.{nullability_of}
use Rattle.dtype_types.specs.tree.Tree.{Tree, Fields, no_items, Variants, item, null, bool, primitive, decimal, utf8, binary, list, fixed_size_list, map_of, struct, union, variant, extension}
use Rattle.vortex_dtype.specs.Written.{is_nullable, written, written_names, written_items, written_variant_names, written_tags}
use Rattle.vortex_dtype.proofs.lemmas.InOrder.{ptype_at-number}

pub nullability_of-is : (n : Nullability) → nullability_of (is_nullable n) ≡ n
nullability_of-is Nullable = refl
nullability_of-is NonNullable = refl

flag_once : (m n : Nullability) → is_nullable m ≡ is_nullable n → m ≡ n
flag_once m n e = sym (nullability_of-is m) ∙ ap nullability_of e ∙ nullability_of-is n

mutual
  pub written_is : (t u : Tree) → written t ≡ written u → t ≡ u
  written_is null null e = refl
  written_is (bool m) (bool n) e = cc (flag_once m n (cc))
  written_is (primitive p m) (primitive q n) e = cc (ptype_at-number p, ptype_at-number q, flag_once m n (cc))
  written_is (decimal c m) (decimal d n) e = grind (arith, e, flag_once m n)
  written_is (utf8 m) (utf8 n) e = cc (flag_once m n (cc))
  written_is (binary m) (binary n) e = cc (flag_once m n (cc))
  written_is (list x m) (list y n) e = cc (written_is x y (cc), flag_once m n (cc))
  written_is (fixed_size_list x k m) (fixed_size_list y l n) e = cc (written_is x y (cc), flag_once m n (cc))
  written_is (map_of x v o m) (map_of y w p n) e = cc (written_is x y (cc), written_is v w (cc), flag_once m n (cc))
  written_is (struct fs m) (struct gs n) e = cc (written_fields_injective fs gs (cc) (cc), flag_once m n (cc))
  written_is (union vs m) (union ws n) e = cc (variants_is vs ws (cc) (cc) (cc), flag_once m n (cc))
  written_is (variant m) (variant n) e = cc (flag_once m n (cc))
  written_is (extension i b x) (extension j c y) e = cc (written_is x y (cc))
  written_is _ _ e = cc

  written_fields_injective : (fs gs : Fields) → written_names fs ≡ written_names gs → written_items fs ≡ written_items gs → fs ≡ gs
  written_fields_injective no_items no_items e f = refl
  written_fields_injective (item n x k rest) (item o y l others) e f = let none : k ≡ l = refl in cc (written_is x y (cc), written_fields_injective rest others (cc) (cc), none)
  written_fields_injective _ _ e f = cc

  variants_is : (vs ws : Variants) → written_variant_names vs ≡ written_variant_names ws → written_items vs ≡ written_items ws → written_tags vs ≡ written_tags ws → vs ≡ ws
  variants_is no_items no_items e f g = refl
  variants_is (item n x k rest) (item o y l others) e f g = cc (written_is x y (cc), variants_is rest others (cc) (cc) (cc))
  variants_is _ _ e f g = cc
