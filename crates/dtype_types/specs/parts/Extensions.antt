-- SPDX-License-Identifier: Apache-2.0
-- SPDX-FileCopyrightText: Copyright the Vortex contributors

-- The parts of an extension. From the documentation of `DType::as_extension_opt`.
use Rattle.dtype_types.specs.declared.extension.ExtDTypeRef.{ExtDTypeRef}
use Rattle.dtype_types.specs.tree.TreeOf.{ExtensionParts, extension_id, extension_metadata, storage_tree}

-- the id of an extension, its metadata and the tree of its storage type
abbrev pub extension_shown : ExtDTypeRef → ExtensionParts
extension_shown e = (extension_id e, extension_metadata e, storage_tree e)
