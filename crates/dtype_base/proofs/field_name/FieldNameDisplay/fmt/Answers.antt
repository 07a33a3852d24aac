-- SPDX-License-Identifier: Apache-2.0
-- SPDX-FileCopyrightText: Copyright the Vortex contributors

use Rattle.std.proofs.Common.{◌≡◌, ◌+◌, ◌-◌, ◌<◌, ◌++◌, ◌∷◌, [], IsOk, length, get_or, take, drop, sym, ap, subst, ◌∙◌, arith, rules, length-drop, take_all, encode_utf8}
use Rattle.std.proofs.Output.{has_written_append, has_written_of_eq}
use Rattle.std.proofs.lemmas.Grind.{put_three}
use Rattle.std.proofs.lemmas.Str.{IsCharBoundary-start, IsCharBoundary-after_ascii}
use Rattle.dtype_base.specs.Escapes.{escaped, escaped_byte}
use Rattle.dtype_base.proofs.EscapedChars.{escaped_encode_ascii, unchanged_none, run_none, run_more, run_written}
use Rattle.dtype_base.proofs.field_name.FieldNameDisplay.fmt.Goals as goal

pub loop-i-init : goal.loop-i-init
loop-i-init g c = record {
  behind = omega arith;
  boundary = IsCharBoundary-start c.as_str-text.result.now c.as_str-text.utf8;
  plain = run_none c.as_str-text.result.now 0;
  written = λ plain. has_written_of_eq _ _ _ _ _ (sym unchanged_none) (search rules);
}

pub loop-i-preserved-then-not-has_escape : goal.loop-i-preserved-then-not-has_escape
loop-i-preserved-then-not-has_escape g c =
    let inv = c.loop-i.invariant in
    let text = c.as_str-text.result.now in
    let i = c.loop-i.i in
    let within : i < length text = omega (arith, c.loop-i-test.true, c.as_bytes-bytes.ensures.len) in
    let printed = subst (λ bs. escaped_byte (get_or bs i 0) ≡ get_or bs i 0 ∷ []) c.as_bytes-bytes.ensures.value c.if-not-has_escape.ensures.plain in
    record { behind = omega (arith, inv.behind); boundary = inv.boundary; plain = run_more text c.loop-i.start i within inv.plain inv.behind printed; written = inv.written }

pub loop-i-preserved : goal.loop-i-preserved
loop-i-preserved g c =
    let inv = c.loop-i.invariant in
    let text = c.as_str-text.result.now in
    let i = c.loop-i.i in
    let start = c.loop-i.start in
    let within : i < length text = omega (arith, c.loop-i-test.true, c.as_bytes-bytes.ensures.len) in
    let small : get_or text i 0 < 128 = subst (λ bs. get_or bs i 0 < 128) c.as_bytes-bytes.ensures.value (c.has_escape.ensures.ascii c.if-not-has_escape.false) in
    let byte : c.from.result ≡ get_or text i 0 = c.from.ensures ∙ ap (λ bs. get_or bs i 0) c.as_bytes-bytes.ensures.value in
    let piece = ap (λ b. escaped (encode_utf8 b)) byte ∙ escaped_encode_ascii (get_or text i 0) small in
    let all = ap (λ run. escaped (take start text) ++ (run ++ escaped (encode_utf8 c.from.result))) c.range.ensures.value ∙ run_written text start i within inv.plain (escaped (encode_utf8 c.from.result)) piece in
    let first : IsOk c.write_str.result = search rules in
    let second : IsOk c.fmt.result = search rules in record {
      behind = omega arith;
      boundary = IsCharBoundary-after_ascii text i c.as_str-text.utf8 within small;
      plain = run_none text (i + 1);
      written = λ plain.
          let so_far = inv.written plain in
          let run = c.write_str.ensures.writes so_far.plain first in
          put_three _ _ _ _ _ _ _ _ _ so_far run (c.fmt.ensures.writes run.plain second) all;
    }

pub returns-clause-writes : goal.returns-clause-writes
returns-clause-writes g c plain ok =
    let inv = c.loop-i.invariant in
    let text = c.as_str-text.result.now in
    let i = c.loop-i.i in
    let start = c.loop-i.start in
    let whole : i ≡ length text = omega (arith, c.loop-i-test.false, c.loop-i.auto.i-end, c.as_bytes-bytes.ensures.len) in
    let last : drop start text ≡ take (i - start) (drop start text) = sym (take_all (i - start) (drop start text) (omega (arith, whole, length-drop start text))) in
    let so_far = inv.written plain in
    has_written_of_eq _ _ _ _ _
    (ap (λ run. escaped (take start text) ++ run) (c.range_from.ensures.value ∙ last) ∙ sym inv.plain ∙ ap escaped (take_all i text (omega (arith, whole)) ∙ c.as_str-text.ensures))
    (has_written_append _ _ _ _ _ _ so_far (c.write_str-2.ensures.writes so_far.plain ok))
