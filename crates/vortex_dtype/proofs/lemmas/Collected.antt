-- SPDX-License-Identifier: Apache-2.0
-- SPDX-FileCopyrightText: Copyright the Vortex contributors

-- What is true of the list that a loop collects, once it has pushed one element more, in the form in which an invariant
-- says it. The lists are of items of any type, because in the goal of a caller the type of a `Vec`'s items only computes to
-- the one that a definition names. The search proves most of such steps by itself. It needs these lemmas if what is said
-- of the new element follows from another lemma, for example that a type that was made nullable is otherwise the same.
use Rattle.std.proofs.Common.{◌≡◌, ◌∙◌, ℕ, ◌+◌, ◌<◌, List, [], ◌∷◌, ◌++◌, map, length, get_or, take, ap, subst, sym}
use Rattle.std.specs.List.{AllByRecursion}
use Rattle.std.proofs.lemmas.List.{append_assoc, map_more as map_taken, map-append}

pushed : {D T : Type 0} (f : D → T) (xs ys : List D) (x : D) → ys ≡ xs ++ x ∷ [] → map f ys ≡ map f xs ++ f x ∷ []
pushed f xs ys x e = ap (map f) e ∙ map-append f xs (x ∷ [])

each_of_pushed : {D : Type 0} (P : D → Type 0) (xs : List D) (x : D) → AllByRecursion P xs → P x → AllByRecursion P (xs ++ x ∷ [])
each_of_pushed P [] x h p = (p, tt)
each_of_pushed P (y ∷ xs) x h p = (h.0, each_of_pushed P xs x h.1 p)

-- all elements have a property, and so has the one that is pushed
pub each_pushed : {D : Type 0} (P : D → Type 0) (xs ys : List D) (x : D) → ys ≡ xs ++ x ∷ [] → AllByRecursion P xs → P x → AllByRecursion P ys
each_pushed P xs ys x e h p = subst (AllByRecursion P) (sym e) (each_of_pushed P xs x h p)

-- in a loop over a slice: what is said of the elements so far comes from what was taken of the slice
pub more_taken : {D E T : Type 0} (f : D → T) (g : E → T) (xs ys : List D) (x : D) (es : List E) (i : ℕ) (e : E) → i < length es → ys ≡ xs ++ x ∷ [] → get_or es i e ≡ e → f x ≡ g e → map f xs ≡ map g (take i es) → map f ys ≡ map g (take (i + 1) es)
more_taken f g xs ys x es i e within is at same so_far =
    pushed f xs ys x is ∙ ap (λ ts. ts ++ f x ∷ []) so_far ∙ ap (λ t. map g (take i es) ++ t ∷ []) (same ∙ ap g (sym at)) ∙ sym (map_taken g es i e within)

-- in a loop over an iterator: what is said of the elements so far, and what comes of those that are left, are all
pub moved : {D E T : Type 0} (f : D → T) (g : E → T) (xs ys : List D) (x : D) (es rest : List E) (e : E) (all : List T) → ys ≡ xs ++ x ∷ [] → es ≡ e ∷ rest → f x ≡ g e → map f xs ++ map g es ≡ all → map f ys ++ map g rest ≡ all
moved f g xs ys x es rest e all is at same so_far =
    ap (λ ts. ts ++ map g rest) (pushed f xs ys x is) ∙ append_assoc (map f xs) (f x ∷ []) (map g rest) ∙ ap (λ t. map f xs ++ (t ∷ map g rest)) same ∙ ap (λ ts. map f xs ++ map g ts) (sym at) ∙ so_far

pub ruleset collected = (each_pushed, more_taken, moved)
