-- SPDX-License-Identifier: Apache-2.0
-- SPDX-FileCopyrightText: Copyright the Vortex contributors

-- The path that a path message describes: for each part the step to the field with its name, or `None` if the part has
-- no kind. From the documentation of the protobuf message `FieldPath`.
use Rattle.std.specs.Prelude.{ℕ, List, [], ◌∷◌, map, Option, Some, None, option_map}
use Rattle.dtype_paths.specs.declared.field.Field.{Field as Step}
use Rattle.dtype_paths.specs.declared.field.Field.TheVariants.{Name}
use Rattle.dtype_messages.specs.declared.pb.Field.{Field}
use Rattle.dtype_messages.specs.declared.pb.FieldPath.{FieldPath}
use Rattle.dtype_messages.specs.PathNames.{part_name}

-- the step that a part describes
abbrev pub step_of : Field → Option Step
step_of part = option_map Name (part_name part)

-- the steps of all parts, in order
abbrev pub steps_of : FieldPath → List (Option Step)
steps_of p = map step_of p.path.items

-- the path of parts that contain these names, in order, or `None` if a part has no kind
abbrev pub path_of : List (Option (List ℕ)) → Option (List Step)
path_of [] = Some []
path_of (None ∷ parts) = None
path_of (Some name ∷ parts) = option_map (λ path. Name name ∷ path) (path_of parts)
