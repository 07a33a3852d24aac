-- SPDX-License-Identifier: Apache-2.0
-- SPDX-FileCopyrightText: Copyright the Vortex contributors

-- Each part of a path message has a kind exactly where each of its names is there.
use Rattle.std.proofs.Common.{◌↔◌, All, Option, Some, None, option_map, IsSome, refl, subst, arith}
use Rattle.std.proofs.lemmas.List.{get_or-map, length-map}
use Rattle.std.proofs.lemmas.List.Elements.{All-map}
use Rattle.dtype_messages.specs.PathNames.{name_of, part_name, part_names}
use Rattle.dtype_messages.specs.declared.pb.FieldPath.{FieldPath}
use Rattle.dtype_messages.specs.declared.pb.FieldType.{FieldType}

named : (o : Option FieldType) → IsSome o ↔ IsSome (option_map name_of o)
named None = (λ h. h, λ h. h)
named (Some x) = (λ h. refl, λ h. refl)

pub parts_named : (p : FieldPath) → All (λ part. IsSome part.field_type) p.path.items → All IsSome (part_names p)
parts_named p h = All-map IsSome part_name p.path.items (λ k d l. (named _).0 (h k d l))

pub named_parts : (p : FieldPath) → All IsSome (part_names p) → All (λ part. IsSome part.field_type) p.path.items
named_parts p h =
    let parts = p.path.items in
    λ k d l. (named _).1 (subst IsSome (get_or-map part_name parts k d (part_name d) l) (h k (part_name d) (omega (arith, l, length-map parts part_name))))

pub ruleset names = (parts_named, named_parts)
