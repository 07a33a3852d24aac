-- SPDX-License-Identifier: Apache-2.0
-- SPDX-FileCopyrightText: Copyright the Vortex contributors

-- What is read of the schema that is written of a type, and of its nodes and texts.
use Rattle.std.proofs.Common.{◌≡◌, Result, Ok, Err, refl, ◌∙◌}
use Rattle.std.specs.Prelude.{IfOk}
use Rattle.dtype_text.specs.Grammar.{AreTexts}
use Rattle.dtype_types.specs.tree.Tree.{Tree}
use Rattle.dtype_types.specs.tree.Valid.{Valid}
use Rattle.c_arrow.specs.Faults.{Fault, ◌>>=◌}
use Rattle.c_arrow.specs.FromArrow.{from_arrow}
use Rattle.c_arrow.specs.Read.{read_flat}
use Rattle.c_arrow.specs.Schema.{Schema, flat}
use Rattle.c_arrow.specs.Write.{to_arrow, nodes_and_texts}
use Rattle.c_arrow.proofs.Law.{read_is_made}
use Rattle.c_arrow.proofs.TypesAgain.{round_trip}

pub schema_again : (t : Tree) → Valid t → AreTexts t → IfOk (to_arrow t) (λ s. from_arrow s ≡ Ok t)
schema_again t valid utf8 = go (to_arrow t) refl
  where
    go : (r : Result Schema Fault) → to_arrow t ≡ r → IfOk r (λ s. from_arrow s ≡ Ok t)
    go (Ok s) made = round_trip t s valid utf8 made
    go (Err f) made = tt

pub nodes_again : (t : Tree) → Valid t → AreTexts t → IfOk (nodes_and_texts t) (λ f. read_flat f.0 f.1 ≡ Ok t)
nodes_again t valid utf8 = go (to_arrow t) (schema_again t valid utf8)
  where
    go : (r : Result Schema Fault) → IfOk r (λ s. from_arrow s ≡ Ok t) → IfOk (r >>= λ s. Ok (flat s)) (λ f. read_flat f.0 f.1 ≡ Ok t)
    go (Ok s) again = read_is_made s ∙ again
    go (Err f) again = tt
