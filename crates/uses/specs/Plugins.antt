-- SPDX-License-Identifier: Apache-2.0
-- SPDX-FileCopyrightText: Copyright the Vortex contributors

-- The plugin `x.tags`: over lists, without metadata.
use Rattle.std.specs.Prelude.{◌≡◌, ℕ, List, [], ◌∷◌, Option, Some, None, refl}
use Rattle.std.proofs.Common.{ap, subst}
use Rattle.std.proofs.lemmas.Option.{same_Some}
use Rattle.dtype_types.specs.tree.Kinds.{list_element}
use Rattle.dtype_types.specs.tree.Tree.{Tree}
use Rattle.vortex_dtype.specs.Meaning.{Bytes, Lawful, Rewrites}
use Rattle.vortex_dtype.proofs.lemmas.StorageKinds.{list_kept}

-- no bytes, where the storage has an element
abbrev pub without_bytes : Option Tree → List ℕ → Option (List ℕ)
without_bytes None b = None
without_bytes (Some t) [] = Some []
without_bytes (Some t) (x ∷ b) = None

abbrev pub over_lists : Rewrites
over_lists b s = without_bytes (list_element s) b

again : (o : Option Tree) (b c : List ℕ) → Bytes b → without_bytes o b ≡ Some c → Bytes c × (without_bytes o c ≡ Some c)
again None b c bs e = cc
again (Some t) [] c bs e = let p : [] ≡ c = same_Some [] c e in (subst Bytes p bs, subst (λ (x : List ℕ). without_bytes (Some t) x ≡ Some x) p refl)
again (Some t) (x ∷ b) c bs e = cc

-- the second law is that setting a nullability keeps what a list holds
pub over_lists_laws : Lawful over_lists
over_lists_laws = record {
  again = λ b c s bs v e. again (list_element s) b c bs e;
  outer = λ b s t n bs v e. ap (λ o. without_bytes o b) (list_kept s t n e);
}
