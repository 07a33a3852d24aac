-- SPDX-License-Identifier: Apache-2.0
-- SPDX-FileCopyrightText: Copyright the Vortex contributors

-- What is read at the front of bytes is spelled there, and what is spelled there is read.
use Rattle.std.proofs.Common.{◌≡◌, ℕ, ◌≤◌, true, false, List, [], ◌∷◌, ◌++◌, Some, refl, ap, ◌∙◌, arith}
use Rattle.std.specs.Prelude.{codes, ℤ}
use Rattle.std.specs.Str.{is_utf8}
use Rattle.dtype_paths.specs.declared.field.Field.{Field}
use Rattle.dtype_types.specs.tree.Tree.{Tree}
use Rattle.dtype_types.specs.tree.Valid.{Valid}
use Rattle.dtype_text.specs.Bare.{is_bare_byte}
use Rattle.dtype_text.specs.Fronts.{before, begins, goes_on}
use Rattle.dtype_text.specs.Grammar.{Lang, lit, ◌<>◌, Spells, Refuses, decimal_parts as decimal, in_quotes, units, levels, named}
use Rattle.dtype_text.specs.Leaves.{name_at, quoted_at}
use Rattle.dtype_text.specs.Outcome.{Outcome, got, misspelled, refused, too_deep, Answers}
use Rattle.dtype_text.specs.PathGrammar.{SpellsPath, SpellsStep, is_next}
use Rattle.dtype_text.specs.Paths.{path_by, step_at}
use Rattle.dtype_text.specs.TypeParts.{decimal_parts}
use Rattle.dtype_text.specs.Types.{part_at, type_by}
use Rattle.dtype_text.proofs.Words.{Takes}
use Rattle.dtype_text.proofs.LeavesSound.{name_takes, quoted_takes}
use Rattle.dtype_text.proofs.LeavesAgain.{byte_then, then_parts, named_again, quoted_again}
use Rattle.dtype_text.proofs.Sound.{part_sound, type_takes, decimal_parts_take}
use Rattle.dtype_text.proofs.Again.{part_complete, type_again, decimal_parts_again}
use Rattle.dtype_text.proofs.PathSteps.{step_takes, path_takes}
use Rattle.dtype_text.proofs.PathAgain.{step_again, path_again}

taken : (L : Lang) (bytes rest : List ℕ) → Takes L bytes rest → before L rest bytes
taken L bytes rest t = (t.text, rest, t.spelled, refl, t.parts)

-- the bytes are the text and what is behind it
parts_of : (L : Lang) (bytes rest : List ℕ) (h : before L rest bytes) → bytes ≡ h.0 ++ rest
parts_of L bytes rest h = h.4 ∙ ap (λ (y : List ℕ). h.0 ++ y) h.3

pub type_front : (t : Tree) (bytes rest : List ℕ) → type_by (part_at 128) bytes ≡ got (t, rest) → before (Spells t) rest bytes × (levels t ≤ 128) × Valid t
type_front t bytes rest e = let s = type_takes 128 (part_at 128) (part_sound 128) bytes (t, rest) e in (taken (Spells t) bytes rest s.0, s.1, s.2)

pub type_behind : (t : Tree) (bytes rest : List ℕ) → before (Spells t) rest bytes → begins goes_on rest ≡ false → Valid t → levels t ≤ 128 → type_by (part_at 128) bytes ≡ got (t, rest)
type_behind t bytes rest h none v le =
    ap (type_by (part_at 128)) (parts_of (Spells t) bytes rest h) ∙ known _ (type_again 128 (part_at 128) (part_complete 128) t h.0 rest h.2 none) where
      known : (r : Outcome (Tree × List ℕ)) → Answers (t, rest) (Valid t) (Refuses t) (levels t) 128 r → r ≡ got (t, rest)
      known (got u) a = ap (λ (x : Tree × List ℕ). got x) a.0
      known misspelled a = absurd a
      known (refused e) a = absurd (a.0 v)
      known (too_deep l) a = absurd (omega (arith, a, le))

pub path_front : (p : List Field) (bytes rest : List ℕ) → path_by bytes ≡ Some (p, rest) → before (SpellsPath p) rest bytes
path_front p bytes rest e = taken (SpellsPath p) bytes rest (path_takes bytes (p, rest) e).0

pub path_behind : (p : List Field) (bytes rest : List ℕ) → before (SpellsPath p) rest bytes → begins is_bare_byte rest ≡ false → is_next 46 rest ≡ false → is_next 35 rest ≡ false → path_by bytes ≡ Some (p, rest)
path_behind p bytes rest h none dot apart = ap path_by (parts_of (SpellsPath p) bytes rest h) ∙ path_again p h.0 rest h.2 none dot (λ bare. apart)

pub step_front : (f : Field) (bytes rest : List ℕ) → step_at bytes ≡ Some (f, rest) → before (SpellsStep f) rest bytes
step_front f bytes rest e = taken (SpellsStep f) bytes rest (step_takes bytes (f, rest) e).0

pub step_behind : (f : Field) (bytes rest : List ℕ) → before (SpellsStep f) rest bytes → begins is_bare_byte rest ≡ false → is_next 35 rest ≡ false → step_at bytes ≡ Some (f, rest)
step_behind f bytes rest h none apart = ap step_at (parts_of (SpellsStep f) bytes rest h) ∙ step_again f h.0 rest h.2 none (λ bare. apart)

pub name_front : (n bytes rest : List ℕ) → name_at bytes ≡ Some (n, rest) → before (named n) rest bytes
name_front n bytes rest e = taken (named n) bytes rest (name_takes bytes (n, rest) e)

pub name_behind : (n bytes rest : List ℕ) → before (named n) rest bytes → begins is_bare_byte rest ≡ false → name_at bytes ≡ Some (n, rest)
name_behind n bytes rest h none = ap name_at (parts_of (named n) bytes rest h) ∙ named_again n h.0 rest h.2 none

pub quoted_front : (n bytes rest : List ℕ) → quoted_at bytes ≡ Some (n, rest) → before (in_quotes n) rest (34 ∷ bytes) × (is_utf8 n ≡ true)
quoted_front n bytes rest e =
    let q = quoted_takes bytes (n, rest) e in
    ((34 ∷ q.0.text, rest, (34 ∷ [], q.0.text, refl, q.0.spelled, refl), refl, ap (λ (y : List ℕ). 34 ∷ y) q.0.parts), q.1)

pub quoted_behind : (n bytes rest : List ℕ) → is_utf8 n ≡ true → before (in_quotes n) rest (34 ∷ bytes) → quoted_at bytes ≡ Some (n, rest)
quoted_behind n bytes rest utf8 h =
    let q = byte_then 34 (units n <> lit (codes "\"")) h.0 h.2 in
    let v = then_parts (units n) (lit (codes "\"")) q.0 q.1 in
    let whole : 34 ∷ bytes ≡ 34 ∷ (q.0 ++ rest) = parts_of (in_quotes n) (34 ∷ bytes) rest h ∙ (q.2 rest).0 in
    let inner : bytes ≡ q.0 ++ rest = cc in
    let close : q.0 ++ rest ≡ v.0 ++ (34 ∷ rest) = v.4 rest ∙ ap (λ (a : List ℕ). v.0 ++ (a ++ rest)) v.3 in
    ap quoted_at (inner ∙ close) ∙ quoted_again n v.0 rest utf8 v.1

pub decimal_front : (p : ℕ) (s : ℤ) (bytes rest : List ℕ) → decimal_parts bytes ≡ Some ((p, s), rest) → before (decimal p s) rest bytes
decimal_front p s bytes rest e = taken (decimal p s) bytes rest (decimal_parts_take 128 (part_at 128) (part_sound 128) bytes ((p, s), rest) e)

pub decimal_behind : (p : ℕ) (s : ℤ) (bytes rest : List ℕ) → before (decimal p s) rest bytes → decimal_parts bytes ≡ Some ((p, s), rest)
decimal_behind p s bytes rest h = ap decimal_parts (parts_of (decimal p s) bytes rest h) ∙ decimal_parts_again 128 (part_at 128) (part_complete 128) p s h.0 rest h.2
