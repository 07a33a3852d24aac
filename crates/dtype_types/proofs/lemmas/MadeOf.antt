-- SPDX-License-Identifier: Apache-2.0
-- SPDX-FileCopyrightText: Copyright the Vortex contributors

-- The names, the types and the tags of a struct's fields and of a union's variants that were made of lists of these, by
-- std's `zip`. The lists are of items of any type: in the goal of a caller the type of a `Vec`'s items only computes to the one
-- that a definition names, so a tactic finds a lemma there if these types are variables. For `shown` it takes `tree`.
use Rattle.std.proofs.Common.{◌≡◌, List, map, length, sym, arith}
use Rattle.std.proofs.lemmas.List.{length-map}
use Rattle.std.proofs.lemmas.Slice.Zip.{firsts-zip, seconds-zip}
use Rattle.std.specs.List.{zip}
use Rattle.std.specs.Map.{keys_of, values_of}
use Rattle.dtype_types.specs.parts.Lists.{types_of, tags_of}
use Rattle.dtype_types.proofs.Sides.{names_three, types_three, tags_three}

-- ---- fields

pub names_of_pairs : {N D T : Type 0} (shown : D → T) (ns : List N) (ds : List D) → length ns ≡ length ds → keys_of (zip ns (map shown ds)) ≡ ns
names_of_pairs shown ns ds e = firsts-zip ns (map shown ds) (omega (arith, length-map ds shown))

pub types_of_pairs : {N D T : Type 0} (shown : D → T) (ns : List N) (ds : List D) → length ns ≡ length ds → values_of (zip ns (map shown ds)) ≡ map shown ds
types_of_pairs shown ns ds e = seconds-zip ns (map shown ds) (omega (arith, length-map ds shown))

-- of names that are shown by references, as texts are
pub names_of_mapped : {M N D T : Type 0} (f : M → N) (shown : D → T) (ms : List M) (ds : List D) → length ms ≡ length ds → keys_of (zip (map f ms) (map shown ds)) ≡ map f ms
names_of_mapped f shown ms ds e = names_of_pairs shown (map f ms) ds (omega (arith, e, length-map ms f))

pub types_of_mapped : {M N D T : Type 0} (f : M → N) (shown : D → T) (ms : List M) (ds : List D) → length ms ≡ length ds → values_of (zip (map f ms) (map shown ds)) ≡ map shown ds
types_of_mapped f shown ms ds e = types_of_pairs shown (map f ms) ds (omega (arith, e, length-map ms f))

-- ---- variants

pub names_of_triples : {N D T G : Type 0} (shown : D → T) (ns : List N) (ds : List D) (gs : List G) → length ns ≡ length ds → length ns ≡ length gs → keys_of (zip ns (zip (map shown ds) gs)) ≡ ns
names_of_triples shown ns ds gs e f = names_three ns (map shown ds) gs (omega (arith, length-map ds shown)) (sym f)

pub types_of_triples : {N D T G : Type 0} (shown : D → T) (ns : List N) (ds : List D) (gs : List G) → length ns ≡ length ds → length ns ≡ length gs → types_of (zip ns (zip (map shown ds) gs)) ≡ map shown ds
types_of_triples shown ns ds gs e f = types_three ns (map shown ds) gs (omega (arith, length-map ds shown)) (sym f)

pub tags_of_triples : {N D T G : Type 0} (shown : D → T) (ns : List N) (ds : List D) (gs : List G) → length ns ≡ length ds → length ns ≡ length gs → tags_of (zip ns (zip (map shown ds) gs)) ≡ gs
tags_of_triples shown ns ds gs e f = tags_three ns (map shown ds) gs (omega (arith, length-map ds shown)) (sym f)

pub ruleset made_of = (names_of_pairs, types_of_pairs, names_of_mapped, types_of_mapped, names_of_triples, types_of_triples, tags_of_triples)
