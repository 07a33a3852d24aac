-- SPDX-License-Identifier: Apache-2.0
-- SPDX-FileCopyrightText: Copyright the Vortex contributors

-- Extensions without a plugin: all bytes are accepted, and written unchanged, over every storage.
use Rattle.std.specs.Prelude.{ℕ, List, Some, true, refl}
use Rattle.std.proofs.Common.{sym, ap, ◌∙◌, subst}
use Rattle.std.proofs.lemmas.Option.{same_Some}
use Rattle.vortex_dtype.specs.Meaning.{Bytes}
use Rattle.vortex_dtype.specs.Typed.{Typed}

pub foreign_typed : Typed {M = List ℕ} (λ b. Some b) (λ m. Some m) (λ m s. true)
foreign_typed = record {
  read_back = λ m c e. ap Some (sym (same_Some m c e));
  as_bytes = λ b m c bs e w. subst Bytes (same_Some b m e ∙ same_Some m c w) bs;
  outer = λ m s t n v e. refl;
}
