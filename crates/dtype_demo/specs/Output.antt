-- SPDX-License-Identifier: Apache-2.0
-- SPDX-FileCopyrightText: Copyright the Vortex contributors

-- What the program prints, from the documentation of the program (`src/main.rt`).
use Rattle.std.specs.Prelude.{◌≡◌, ℕ, List, [], ◌∷◌, ◌++◌, codes, map, Option, Some, None}
use Rattle.std.specs.Cmp.Lexicographic.{slice_cmp}
use Rattle.std.specs.Io.KnownBytes.{Appends}
use Rattle.std.specs.List.{flat_map}
use Rattle.std.specs.List.Sorted.{IsPermutation, IsSorted}
use Rattle.std.specs.Ordering.{nat_cmp}
use Rattle.vortex_dtype.specs.Distinct.{Distinct}
use Rattle.vortex_dtype.specs.TypeText.{text}
use Rattle.vortex_dtype.specs.Tree.{Tree}
use Rattle.vortex_dtype.specs.Along.{along}
use Rattle.vortex_dtype.specs.Covering.{least}
use Rattle.vortex_dtype.specs.PathOrder.{PathSet, set_of}
use Rattle.vortex_dtype.specs.PathTexts.{path_text}
use Rattle.vortex_dtype.specs.Types.Field.{Field}
use Rattle.dtype_demo.specs.Lines.{lines_of, parts_of}

-- the type found, or `none`
abbrev pub found_text : Option Tree → List ℕ
found_text None = codes "none"
found_text (Some u) = text u

-- the answer to one path, with its newline
abbrev pub answer_text : Tree → List Field → List ℕ
answer_text t p = path_text p ++ (codes " = " ++ (found_text (along t p) ++ 10 ∷ []))

-- the answers to these lines, in order
abbrev pub answers_to : Tree → List (List ℕ) → List ℕ
answers_to t = flat_map (λ line. answer_text t (parts_of line))

-- these are the texts of the least paths, those of which no other is a beginning, each once and in byte order
pub record IsCover (paths : PathSet) (texts : List (List ℕ)) : Type 0 where
  pub cover : List (List Field)
  pub least : set_of cover ≡ least paths
  pub once : Distinct cover
  pub printed : IsPermutation (map path_text cover) texts
  pub sorted : IsSorted (slice_cmp nat_cmp) texts

-- the last line, without its newline: each text after a space (byte 32)
abbrev pub cover_text : List (List ℕ) → List ℕ
cover_text texts = codes "cover:" ++ flat_map (λ bytes. 32 ∷ bytes) texts

-- the line of the cover of these paths is written
pub record WritesCover (paths : PathSet) (old new : Option (List ℕ)) : Type 0 where
  pub texts : List (List ℕ)
  pub cover : IsCover paths texts
  pub written : Appends old new (cover_text texts ++ 10 ∷ [])

-- the answers to the lines of the input are written, and after them the line of their cover
pub record WritesOutput (t : Tree) (bytes : List ℕ) (old new : Option (List ℕ)) : Type 0 where
  pub answered : Option (List ℕ)
  pub answers : Appends old answered (answers_to t (lines_of bytes))
  pub cover : WritesCover (set_of (map parts_of (lines_of bytes))) answered new
