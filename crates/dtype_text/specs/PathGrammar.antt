-- SPDX-License-Identifier: Apache-2.0
-- SPDX-FileCopyrightText: Copyright the Vortex contributors

-- Which texts stand for which path, from the section of CONSOLE on texts.
use Rattle.std.specs.Prelude.{◌≡◌, ◌⊎◌, ℕ, List, [], ◌∷◌, ◌++◌, ◌==◌, Bool, true, false, codes}
use Rattle.dtype_paths.specs.declared.field.Field.{Field}
use Rattle.dtype_paths.specs.declared.field.Field.TheVariants.{Name, ElementType}
use Rattle.dtype_text.specs.Bare.{is_bare_byte}
use Rattle.dtype_text.specs.Grammar.{Lang, lit, ◌<>◌, blanks, comment, named}

-- `$`, which may stand before a name
abbrev pub dollar : Lang
dollar x = (x ≡ []) ⊎ (x ≡ codes "$")

-- a step: a name, or `[]` for the step to the element
abbrev pub SpellsStep : Field → Lang
SpellsStep (Name n) = dollar <> named n
SpellsStep ElementType = lit (codes "[]")

-- one step or more, joined by dots
abbrev pub SpellsSteps : Field → List Field → Lang
SpellsSteps f [] = SpellsStep f
SpellsSteps f (g ∷ p) = SpellsStep f <> (lit (codes ".") <> SpellsSteps g p)

-- a path: its steps, or a dot alone for the root
abbrev pub SpellsPath : List Field → Lang
SpellsPath [] = lit (codes ".")
SpellsPath (f ∷ p) = SpellsSteps f p

-- the last byte is one of a name without quotes
abbrev pub ends_bare : List ℕ → Bool
ends_bare [] = false
ends_bare (b ∷ []) = is_bare_byte b
ends_bare (b ∷ c ∷ x) = ends_bare (c ∷ x)

-- the first byte is this one
abbrev pub is_next : ℕ → List ℕ → Bool
is_next k [] = false
is_next k (b ∷ bytes) = b == k

-- The text stands for the path: blanks, the path, and blanks and a comment. No comment begins directly behind a name
-- without quotes, so that nobody takes `a#b` for a name.
pub record StandsForPath (p : List Field) (s : List ℕ) : Type 0 where
  pub before : List ℕ
  pub path : List ℕ
  pub behind : List ℕ
  pub whole : s ≡ before ++ (path ++ behind)
  pub begins : blanks before
  pub spelled : SpellsPath p path
  pub ends : (blanks <> comment) behind
  pub apart : ends_bare path ≡ true → is_next 35 behind ≡ false
