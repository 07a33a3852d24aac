-- SPDX-License-Identifier: Apache-2.0
-- SPDX-FileCopyrightText: Copyright the Vortex contributors

-- What is registered in a session, by the word `IsRegistered`, so that `all`, `any` and `find` over ids prove. Which ids a
-- session has is asked of the list that `registered` gives: a closure that captures the session gets no proof, since its
-- contract names the plugins' meaning by a table of its own.
use Rattle.std.proofs.Common.{◌≡◌, ◌∙◌, ℕ, List, [], ◌∷◌, true, map, refl, sym, ap, ◌||◌}
use Rattle.std.specs.Borrow.{Bor}
use Rattle.std.specs.List.{list_any}
use Rattle.std.specs.Option.{is_some}
use Rattle.std.specs.Prelude.{bytes_eq}
use Rattle.std.proofs.lemmas.Cmp.{nat_list_eq_equiv}
use Rattle.std.proofs.lemmas.Map.Views.{Contains-from_any, list_any-from_Contains}
use Rattle.std.proofs.lemmas.Slice.Eq.{bytes_eq-Decides}
use Rattle.vortex_dtype.specs.Meaning.{Meaning, ListsIds}
use Rattle.vortex_dtype.specs.Names.{IsAmong}
use Rattle.vortex_dtype.specs.Registered.{IsRegistered}

-- ---- whether a text is among borrowed texts, as `contains` of their slice tests it

tested : (id : List ℕ) (texts : List (Bor (List ℕ))) → list_any (λ t. bytes_eq t.now id) texts ≡ list_any (bytes_eq id) (map (λ t. t.now) texts)
tested id [] = refl
tested id (t ∷ texts) = ap (λ b. b || list_any (λ x. bytes_eq x.now id) texts) (nat_list_eq_equiv.symm t.now id) ∙ ap (λ b. bytes_eq id t.now || b) (tested id texts)

pub text_among : (texts : List (Bor (List ℕ))) (n : List ℕ) → list_any (λ t. bytes_eq t.now n) texts ≡ true → IsAmong (map (λ t. t.now) texts) n
unfolding IsAmong
text_among texts n h = Contains-from_any {eq = bytes_eq} (λ x y. (bytes_eq-Decides x y).0) n (map (λ t. t.now) texts) (sym (tested n texts) ∙ h)

pub among_texts : (texts : List (Bor (List ℕ))) (n : List ℕ) → IsAmong (map (λ t. t.now) texts) n → list_any (λ t. bytes_eq t.now n) texts ≡ true
unfolding IsAmong
among_texts texts n a = tested n texts ∙ list_any-from_Contains nat_list_eq_equiv n (map (λ t. t.now) texts) a

-- ---- whether an id is registered: by the ids that a session lists, and by what `registry` returns of one

pub listed_registered : (m : Meaning) (ids : List (List ℕ)) (id : List ℕ) → ListsIds m ids → IsAmong ids id → IsRegistered m id
unfolding IsRegistered IsAmong
listed_registered m ids id l a = (l.each id).0 a

pub registered_listed : (m : Meaning) (ids : List (List ℕ)) (id : List ℕ) → ListsIds m ids → IsRegistered m id → IsAmong ids id
unfolding IsRegistered IsAmong
registered_listed m ids id l r = (l.each id).1 r

pub found_registered : (m : Meaning) (id : List ℕ) → is_some (m.registered id) ≡ true → IsRegistered m id
unfolding IsRegistered
found_registered m id h = h

pub registered_found : (m : Meaning) (id : List ℕ) → IsRegistered m id → is_some (m.registered id) ≡ true
unfolding IsRegistered
registered_found m id r = r

pub ruleset each_registered = (text_among, among_texts, listed_registered, registered_listed, found_registered, registered_found)
