-- SPDX-License-Identifier: Apache-2.0
-- SPDX-FileCopyrightText: Copyright the Vortex contributors

-- The types of the crates below that clauses name, each with its variants in `TheVariants`.
pub use Rattle.dtype_base.specs.declared.decimal.DecimalType
pub use Rattle.dtype_base.specs.declared.nullability.Nullability
pub use Rattle.dtype_base.specs.declared.ptype.PType
pub use Rattle.dtype_base.specs.declared.vortex_error.MessageFault
pub use Rattle.dtype_base.specs.declared.vortex_error.VortexError
pub use Rattle.dtype_edits.specs.declared.difference.Ignoring
pub use Rattle.dtype_merging.specs.declared.widening.Widening
pub use Rattle.dtype_messages.specs.declared.pb.FieldPath
pub use Rattle.dtype_paths.specs.declared.field.Field
pub use Rattle.dtype_paths.specs.declared.field_mask.FieldMask
pub use Rattle.dtype_paths.specs.declared.field_path_cursor.FieldPathCursor
pub use Rattle.dtype_types.specs.declared.dtype.kinds.Kind
