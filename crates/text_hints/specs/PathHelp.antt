-- SPDX-License-Identifier: Apache-2.0
-- SPDX-FileCopyrightText: Copyright the Vortex contributors

-- What helps where a text can't be read on as a path. (A choice of ours: other languages write `a[0]` or `a/b`.)
use Rattle.std.specs.Prelude.{◌≡◌, ℕ, List, [], ◌++◌, ◌==◌, Option, Some, None, if◌then◌else◌, codes}

-- What helps if no path goes on with this byte, or with the end, for the end of a sentence that says so. For example, of the byte
-- 91, which is `[`, it is `; [] is a step of its own, for example in a.[].b`. Of most bytes it is nothing.
abbrev pub path_help : Option ℕ → List ℕ
path_help None = []
path_help (Some b) =
    if b == 91 then codes "; [] is a step of its own, for example in a.[].b"
    else if b == 47 then codes "; steps are joined by dots, for example a.[].b"
    else []

-- The text ends with this one. For example, `found it` ends with `it`.
pub record EndsWith (end text : List ℕ) : Type 0 where
  pub front : List ℕ
  pub whole : text ≡ front ++ end
