-- SPDX-License-Identifier: Apache-2.0
-- SPDX-FileCopyrightText: Copyright the Vortex contributors

-- The components of pairs and triples that `zip` makes of lists of one length.
use Rattle.std.proofs.Common.{◌≡◌, List, [], ◌∷◌, length, refl, ap, sym, ◌∙◌, arith}
use Rattle.std.specs.List.{zip}
use Rattle.std.proofs.lemmas.Slice.Zip.{firsts-zip, seconds-zip}
use Rattle.std.proofs.lemmas.Simd.{map-map}
use Rattle.std.specs.Map.{keys_of, values_of}
use Rattle.dtype_types.specs.parts.Lists.{types_of, tags_of}

pub zip_count : {X Y : Type 0} (xs : List X) (ys : List Y) → length ys ≡ length xs → length (zip xs ys) ≡ length xs
zip_count [] ys e = refl
zip_count (x ∷ xs) [] e = absurd (omega arith)
zip_count (x ∷ xs) (y ∷ ys) e = omega (arith, zip_count xs ys (omega arith))

-- zipping the components of pairs gives the pairs
pub zip_sides : {X Y : Type 0} (ps : List (X × Y)) (xs : List X) (ys : List Y) → xs ≡ keys_of ps → ys ≡ values_of ps → zip xs ys ≡ ps
zip_sides ps xs ys e f = ap (λ ls. zip ls ys) e ∙ ap (zip (keys_of ps)) f ∙ whole ps
  where
    whole : {X Y : Type 0} (ps : List (X × Y)) → zip (keys_of ps) (values_of ps) ≡ ps
    whole [] = refl
    whole (p ∷ ps) = ap (λ qs. p ∷ qs) (whole ps)

pub ruleset pairs = (firsts-zip, seconds-zip, zip_count)

module _ {N T G : Type 0} where
  as_many : (ns : List N) (ts : List T) (gs : List G) → length ts ≡ length ns → length gs ≡ length ns → length (zip ts gs) ≡ length ns
  as_many ns ts gs e f = zip_count ts gs (f ∙ sym e) ∙ e

  pub names_three : (ns : List N) (ts : List T) (gs : List G) → length ts ≡ length ns → length gs ≡ length ns → keys_of (zip ns (zip ts gs)) ≡ ns
  names_three ns ts gs e f = firsts-zip ns (zip ts gs) (as_many ns ts gs e f)

  pub types_three : (ns : List N) (ts : List T) (gs : List G) → length ts ≡ length ns → length gs ≡ length ns → types_of (zip ns (zip ts gs)) ≡ ts
  types_three ns ts gs e f =
      sym (map-map (λ p. p.0) (λ p. p.1) (zip ns (zip ts gs))) ∙ ap keys_of (seconds-zip ns (zip ts gs) (as_many ns ts gs e f)) ∙ firsts-zip ts gs (f ∙ sym e)

  pub tags_three : (ns : List N) (ts : List T) (gs : List G) → length ts ≡ length ns → length gs ≡ length ns → tags_of (zip ns (zip ts gs)) ≡ gs
  tags_three ns ts gs e f =
      sym (map-map (λ p. p.1) (λ p. p.1) (zip ns (zip ts gs))) ∙ ap values_of (seconds-zip ns (zip ts gs) (as_many ns ts gs e f)) ∙ seconds-zip ts gs (f ∙ sym e)

  pub count_three : (ns : List N) (ts : List T) (gs : List G) → length ts ≡ length ns → length gs ≡ length ns → length (zip ns (zip ts gs)) ≡ length ns
  count_three ns ts gs e f = zip_count ns (zip ts gs) (as_many ns ts gs e f)

  pub three_sides : (ps : List (N × (T × G))) (ns : List N) (ts : List T) (gs : List G) → ns ≡ keys_of ps → ts ≡ types_of ps → gs ≡ tags_of ps → zip ns (zip ts gs) ≡ ps
  three_sides ps ns ts gs e f h =
      ap (λ ms. zip ms (zip ts gs)) e ∙ ap (λ us. zip (keys_of ps) (zip us gs)) f ∙ ap (λ hs. zip (keys_of ps) (zip (types_of ps) hs)) h ∙ whole ps
    where
      whole : (ps : List (N × (T × G))) → zip (keys_of ps) (zip (types_of ps) (tags_of ps)) ≡ ps
      whole [] = refl
      whole (p ∷ ps) = ap (λ qs. p ∷ qs) (whole ps)

pub ruleset triples = (names_three, types_three, tags_three, count_three)
