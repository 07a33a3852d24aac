-- SPDX-License-Identifier: Apache-2.0
-- SPDX-FileCopyrightText: Copyright the Vortex contributors

use Rattle.std.proofs.Common.{◌≡◌, ◌++◌, map, append-nil, sym, ap, ◌∙◌, arith}
use Rattle.std.specs.String.{string_bytes}
use Rattle.std.specs.Vec.Iter.{into_iter_items}
use Rattle.std.proofs.lemmas.List.{nil_from_length}
use Rattle.std.proofs.lemmas.List.Sorted.{IsPermutation-map}
use Rattle.vortex_dtype.specs.PathTexts.{path_text}
use Rattle.dtype_demo.proofs.Covers.{sorted_texts}
use Rattle.dtype_demo.proofs.cover.cover_texts.Goals as goal

pub returns-clause-cover : goal.returns-clause-cover
returns-clause-cover c =
    let none = nil_from_length (into_iter_items c.loop-path.path-iterator) (omega (arith, c.loop-path.path-iterator.rest.ok, c.in-None.ensures.steps)) in
    let given = into_iter_items c.in_ok-path-items.path-items in
    let texts = c.loop-path.texts.items in
    let all : map (λ s. string_bytes s) texts ≡ map path_text given =
    sym (append-nil (map (λ s. string_bytes s) texts)) ∙ sym (ap (λ ps. map (λ s. string_bytes s) texts ++ map path_text ps) none) ∙ c.loop-path.invariant ∙ ap (λ it. map path_text (into_iter_items it)) c.into_iter-path-iterator.ensures.into_iter_gives in
    record {
      cover = given;
      least = c.in_ok-path-items.ensures.ok;
      once = c.in_ok-path-items.ensures.once;
      printed = rw (← all) (IsPermutation-map (λ s. string_bytes s) texts c.sort.new.self.items c.sort.ensures.permutation);
      sorted = sorted_texts c.sort.new.self.items c.in_ok-sort.ensures.sorted;
    }
