-- SPDX-License-Identifier: Apache-2.0
-- SPDX-FileCopyrightText: Copyright the Vortex contributors

-- What a vtable of a typed extension does, and its laws. From the documentation of `ExtVTable`: it reads metadata from
-- bytes, writes it as bytes, and determines which storage types it accepts.
use Rattle.std.specs.Prelude.{◌≡◌, ℕ, List, Option, Some, None, Bool, if◌then◌else◌, option_and_then}
use Rattle.dtype_base.specs.declared.nullability.Nullability.{Nullability}
use Rattle.dtype_types.specs.tree.Tree.{Tree}
use Rattle.dtype_types.specs.tree.Valid.{Valid}
use Rattle.dtype_types.specs.nullability.Nullable.{SetNull}
use Rattle.vortex_dtype.specs.Meaning.{Rewrites, Bytes}

-- The three laws. Written metadata is read back as the same metadata. What is written of metadata that was read from
-- bytes consists of bytes. Whether metadata fits a storage type doesn't depend on the outer nullability of the storage
-- type
pub record Typed {M : Type 0} (reads : List ℕ → Option M) (writes : M → Option (List ℕ)) (fits : M → Tree → Bool) : Type 0 where
  pub read_back : (m : M) (c : List ℕ) → writes m ≡ Some c → reads c ≡ Some m
  pub as_bytes : (b : List ℕ) (m : M) (c : List ℕ) → Bytes b → reads b ≡ Some m → writes m ≡ Some c → Bytes c
  pub outer : (m : M) (s t : Tree) (n : Nullability) → Valid s → SetNull s n t → fits m t ≡ fits m s

-- what a vtable does as a plugin: it reads the bytes, tests whether the metadata fits the storage, and writes the
-- metadata
abbrev pub rewritten : {M : Type 0} → (List ℕ → Option M) → (M → Option (List ℕ)) → (M → Tree → Bool) → Rewrites
rewritten reads writes fits = λ b s. option_and_then (λ m. if fits m s then writes m else None) (reads b)
