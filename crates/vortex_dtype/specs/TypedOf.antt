-- SPDX-License-Identifier: Apache-2.0
-- SPDX-FileCopyrightText: Copyright the Vortex contributors

-- What a typed extension shows: its vtable, its metadata, and the tree of its storage.
use Rattle.dtype_types.specs.tree.Tree.{Tree}
use Rattle.dtype_types.specs.tree.TreeOf.{tree}
use Rattle.vortex_dtype.specs.declared.ext_dtype.ExtDType.{ExtDType}

module _ {V M : Type 0} where
  abbrev pub vtable_of : ExtDType V M → V
  vtable_of x = x.vtable

  abbrev pub metadata_of : ExtDType V M → M
  metadata_of x = x.metadata

  abbrev pub storage_of : ExtDType V M → Tree
  storage_of x = tree x.storage
