-- SPDX-License-Identifier: Apache-2.0
-- SPDX-FileCopyrightText: Copyright the Vortex contributors

use Rattle.std.proofs.Common.{◌≡◌, ◌<◌, get_or, [], length, take, Some, None, ap, sym, ◌∙◌, inr, arith}
use Rattle.std.proofs.lemmas.List.{get_or_default, get_or-map, get_or-take, length-map, length-take-le}
use Rattle.std.proofs.lemmas.Option.{get_or_from_slice_get, none-some, slice_get-get_or}
use Rattle.dtype_base.specs.FieldNames.{first_place}
use Rattle.dtype_base.proofs.indexed_names.look_up.Goals as goal

pub returns-in-None : goal.returns-in-None
returns-in-None c =
    let names = c.args.names.now in
    let asked = c.args.asked.now in
    let position = c.loop-position.position in
    let found = c.loop-position.found.items in
    let within : position < length asked = c.loop-position-test.true in
    let name = c.as_str.ensures ∙ c.index-asked-position.is ∙ get_or_default asked position _ [] within in
    let same = c.loop-position.invariant.found in
    let as_many : length found ≡ position = sym (length-map found Some) ∙ ap length same ∙ length-map (take position asked) (first_place names) ∙ length-take-le position asked (omega (arith, within)) in
    inr (record {
      absent = (get_or asked position [], slice_get-get_or asked position [] within, ap (first_place names) (sym name) ∙ ap (λ ns. first_place ns c.as_str.result.now) (sym c.new-counted.ensures.names) ∙ sym c.search.ensures.place ∙ c.in-None.is);
      there = λ k n below here absent.
          none-some (get_or found k 0) (
          sym absent
          ∙ ap (first_place names) (sym (get_or_from_slice_get asked k n [] here) ∙ sym (get_or-take position asked k [] below))
          ∙ sym (get_or-map (first_place names) (take position asked) k [] None (omega (arith, below, within, length-take-le position asked (omega (arith, within)))))
          ∙ sym (ap (λ xs. get_or xs k None) same)
          ∙ get_or-map Some found k 0 None (omega (arith, below, as_many))
          );
    })
