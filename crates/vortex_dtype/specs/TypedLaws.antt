-- SPDX-License-Identifier: Apache-2.0
-- SPDX-FileCopyrightText: Copyright the Vortex contributors

-- Every vtable of a typed extension is a lawful plugin.
use Rattle.std.specs.Prelude.{ℕ, List, Option, Bool}
use Rattle.std.proofs.Common.{arith}
use Rattle.dtype_types.specs.tree.Tree.{Tree}
use Rattle.vortex_dtype.specs.Meaning.{Lawful}
use Rattle.vortex_dtype.specs.Typed.{Typed, rewritten}

module _ {M : Type 0} (reads : List ℕ → Option M) (writes : M → Option (List ℕ)) (fits : M → Tree → Bool) (laws : Typed reads writes fits) where
  pub typed_laws : Lawful (rewritten reads writes fits)
  typed_laws = record {
    again = λ b c s bs v e. let is_read = λ (m : M). laws.read_back m c in let is_bytes = λ (m : M). laws.as_bytes b m c bs in grind (arith, is_read, is_bytes, e);
    outer = λ b s t n bs v e. let same = λ (m : M). laws.outer m s t n v e in simp same;
  }
