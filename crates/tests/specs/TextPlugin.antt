-- SPDX-License-Identifier: Apache-2.0
-- SPDX-FileCopyrightText: Copyright the Vortex contributors

-- The plugin under the id `x.text`, which accepts `utf8` of either nullability without metadata.
use Rattle.std.specs.Prelude.{◌≡◌, ℕ, List, [], ◌∷◌, Option, Some, None, Bool, true, false, if◌then◌else◌, option_and_then, refl}
use Rattle.std.proofs.Common.{ap, subst}
use Rattle.std.proofs.lemmas.Option.{same_Some}
use Rattle.dtype_base.specs.declared.nullability.Nullability.{Nullability}
use Rattle.dtype_base.specs.declared.nullability.Nullability.TheVariants.{NonNullable, Nullable}
use Rattle.dtype_types.specs.tree.Tree.{Tree, null, bool, primitive, decimal, utf8, binary, list, fixed_size_list, map_of, struct, union, variant, extension}
use Rattle.dtype_types.specs.nullability.Nullable.{set_null, SetNull}
use Rattle.vortex_dtype.specs.Meaning.{Rewrites, Lawful, Bytes}

-- no bytes
abbrev pub only_empty : List ℕ → Option (List ℕ)
only_empty [] = Some []
only_empty (x ∷ xs) = None

-- texts, of either nullability
abbrev pub is_text : Tree → Bool
is_text (utf8 n) = true
is_text _ = false

-- no bytes, over texts
abbrev pub text_only : Rewrites
text_only b s = if is_text s then only_empty b else None

empty_again : (b c : List ℕ) → Bytes b → only_empty b ≡ Some c → Bytes c × (only_empty c ≡ Some c)
empty_again [] c bs e = let p : [] ≡ c = same_Some [] c e in (subst Bytes p bs, subst (λ (x : List ℕ). only_empty x ≡ Some x) p refl)
empty_again (x ∷ xs) c bs e = cc

again : (f : Bool) (b c : List ℕ) → Bytes b → (if f then only_empty b else None) ≡ Some c → Bytes c × ((if f then only_empty c else None) ≡ Some c)
again true b c bs e = empty_again b c bs e
again false b c bs e = cc

is_some : {X : Type 0} (a b : X) → Some a ≡ Some b → b ≡ a
is_some a b e = cc

same : (u t : Tree) → Some u ≡ Some t → is_text t ≡ is_text u
same u t e = ap is_text (is_some u t e)

outer : (s t : Tree) (n : Nullability) → SetNull s n t → is_text t ≡ is_text s
outer null t NonNullable e = cc
outer null t Nullable e = same null t e
outer (bool m) t n e = same (bool n) t e
outer (primitive p m) t n e = same (primitive p n) t e
outer (decimal d m) t n e = same (decimal d n) t e
outer (utf8 m) t n e = same (utf8 n) t e
outer (binary m) t n e = same (binary n) t e
outer (list x m) t n e = same (list x n) t e
outer (fixed_size_list x k m) t n e = same (fixed_size_list x k n) t e
outer (map_of k v o m) t n e = same (map_of k v o n) t e
outer (struct fs m) t n e = same (struct fs n) t e
outer (union vs m) t n e = same (union vs n) t e
outer (variant m) t n e = same (variant n) t e
outer (extension i m s) t n e = go (set_null s n) e
  where
    go : (o : Option Tree) → option_and_then (λ x. Some (extension i m x)) o ≡ Some t → is_text t ≡ false
    go None e' = cc
    go (Some x) e' = same (extension i m x) t e'

pub text_laws : Lawful text_only
text_laws = record {
  again = λ b c s bs v e. again (is_text s) b c bs e;
  outer = λ b s t n bs v e. ap (λ (f : Bool). if f then only_empty b else None) (outer s t n e);
}
