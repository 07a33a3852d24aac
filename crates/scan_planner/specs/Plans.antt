-- SPDX-License-Identifier: Apache-2.0
-- SPDX-FileCopyrightText: Copyright the Vortex contributors

-- What is true of the plan of each file, for the set `s` of the paths that the query needs. These are no abbreviations, so
-- that a caller's search takes each of them as one word.
use Rattle.std.specs.Prelude.{◌≡◌, ◌↔◌, List}
use Rattle.std.specs.FinSet as set
use Rattle.std.specs.List.{AllByRecursion}
use Rattle.std.specs.Option.{option_map}
use Rattle.dtype_types.specs.tree.TreeOf.{tree}
use Rattle.vortex_dtype.specs.PathOrder.{PathSet, set_of}
use Rattle.vortex_dtype.specs.Projected.{projected}
use Rattle.vortex_dtype.specs.Tree.{Tree}
use Rattle.vortex_dtype.specs.Unresolved.{unresolved}
use Rattle.scan_planner.specs.Needs.{Opens, OpensOnce}
use Rattle.scan_planner.specs.declared.files.FilePlan.{FilePlan}
use Rattle.scan_planner.specs.declared.files.HowToRead.{HowToRead}

-- a file is read as it is exactly if its type is `t`, the type of the table
unfoldable pub AllHow : Tree → List FilePlan → Type 0
AllHow t fs = AllByRecursion (λ f. f.how ≡ HowToRead.AsItIs ↔ tree f.file.now ≡ t) fs

-- the columns that are opened are those of the file that a path needs
unfoldable pub AllOpen : PathSet → List FilePlan → Type 0
AllOpen s fs = AllByRecursion (λ f. Opens s (tree f.file.now) f.columns) fs

-- no column is opened twice
unfoldable pub AllOpenOnce : PathSet → List FilePlan → Type 0
AllOpenOnce s fs = AllByRecursion (λ f. OpensOnce s (tree f.file.now) f.columns) fs

-- what is read is the projection of the file's type
unfoldable pub AllRead : PathSet → List FilePlan → Type 0
AllRead s fs = AllByRecursion (λ f. option_map tree f.read ≡ projected (tree f.file.now) (set.contains s)) fs

-- the missing paths are those that don't exist in the file
unfoldable pub AllLack : PathSet → List FilePlan → Type 0
AllLack s fs = AllByRecursion (λ f. set_of f.missing.items ≡ unresolved s (tree f.file.now)) fs
