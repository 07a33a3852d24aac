-- SPDX-License-Identifier: Apache-2.0
-- SPDX-FileCopyrightText: Copyright the Vortex contributors

-- Whether a path exists in one of several types, for callers that merge the types of many files. A choice of this project.
use Rattle.std.specs.Prelude.{◌⊎◌, List, [], ◌∷◌}
use Rattle.dtype_paths.specs.At.{ExistsIn}
use Rattle.dtype_paths.specs.declared.field.Field.{Field}
use Rattle.dtype_types.specs.tree.Tree.{Tree}

-- The path exists in one of the types. It is no abbreviation, so that a caller's search takes it as one word.
unfoldable pub ExistsInOne : List Tree → List Field → Type 0
ExistsInOne [] p = ⊥
ExistsInOne (t ∷ ts) p = ExistsIn t p ⊎ ExistsInOne ts p
