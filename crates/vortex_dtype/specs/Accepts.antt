-- SPDX-License-Identifier: Apache-2.0
-- SPDX-FileCopyrightText: Copyright the Vortex contributors

-- A session accepts a message m as a type t if m reads as t, t is valid, and the session admits t.
use Rattle.dtype_types.specs.tree.Tree.{Tree}
use Rattle.dtype_types.specs.tree.Valid.{Valid}
use Rattle.vortex_dtype.specs.Meaning.{Meaning, Admits}
use Rattle.dtype_messages.specs.Message.{Message}
use Rattle.vortex_dtype.specs.Reads.{Reads}

pub record Accepts (s : Meaning) (m : Message) (t : Tree) : Type 0 where
  pub reads : Reads s m t
  pub valid : Valid t
  pub admitted : Admits s t
