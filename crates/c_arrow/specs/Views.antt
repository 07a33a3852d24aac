-- SPDX-License-Identifier: Apache-2.0
-- SPDX-FileCopyrightText: Copyright the Vortex contributors

-- What is read of metadata, and what is written of a map and of an extension, as plain data.
use Rattle.std.specs.Prelude.{ℕ, List, Option, Result}
use Rattle.dtype_base.specs.declared.nullability.Nullability.{Nullability}
use Rattle.dtype_text.specs.Read.{shown}
use Rattle.dtype_types.specs.declared.extension.ExtDTypeRef.{ExtDTypeRef}
use Rattle.dtype_types.specs.declared.map.MapDType.{MapDType}
use Rattle.dtype_types.specs.tree.Tree.{Tree, map_of}
use Rattle.dtype_types.specs.tree.TreeOf.{extension_id, extension_metadata, map_shown, storage_tree}
use Rattle.c_arrow.specs.Faults.{Fault}
use Rattle.c_arrow.specs.Keys.{Said}
use Rattle.c_arrow.specs.Schema.{Schema}
use Rattle.c_arrow.specs.Temporal.{Written}
use Rattle.c_arrow.specs.Write as write
use Rattle.c_arrow.specs.declared.keys.Keys.{Keys}
use Rattle.c_arrow.specs.declared.temporal.Temporal.{Temporal}

abbrev pub said : Keys → Said
said k = record { name = shown (λ t. t.now) k.name; metadata = shown (λ t. t.now) k.metadata }

abbrev pub written : Temporal → Written
written t = record { letters = t.letters.now; zone = t.zone.now; nullability = t.nullability; is_list = t.is_list }

-- the type of a map with its nullability
abbrev pub map_tree : MapDType → Nullability → Tree
map_tree m n = map_of (map_shown m).0 (map_shown m).1 (map_shown m).2 n

-- an extension that is no other's storage type; Arrow has a format for it, such as one of dates, if t is there
abbrev pub outer_of : ℕ → List ℕ → Option Written → ExtDTypeRef → Result Schema Fault
outer_of levels name t e = write.outer_extension levels name t (write.metadata_for (extension_id e) (extension_metadata e)) (λ below l. write.field_of below l (storage_tree e))
