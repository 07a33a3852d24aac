-- SPDX-License-Identifier: Apache-2.0
-- SPDX-FileCopyrightText: Copyright the Vortex contributors

-- A list of nodes after a path is added to it.
use Rattle.std.proofs.Common.{ℕ, suc, zero, ◌+◌, ◌-◌, ◌<◌, length, take, drop, get_or, map, subst, ◌≡◌, ◌⊎◌, ◌==◌, cond, List, [], ◌∷◌, ◌++◌, Option, Some, None, option_and_then, inl, inr, refl, sym, ap, ◌∙◌, arith, ⊎_elim, length-append}
use Rattle.std.specs.FinSet as set
use Rattle.std.specs.List.{slice_get, cons_option, filter_map}
use Rattle.std.proofs.lemmas.Bool.{cases_lt, and_parts}
use Rattle.std.proofs.lemmas.Bool.Decides.{Decides-eqb}
use Rattle.std.proofs.lemmas.List.{length-map, take_more}
use Rattle.std.proofs.lemmas.Option.{same_Some, slice_get_past}
use Rattle.dtype_paths.proofs.lemmas.Cases.{by_bool}
use Rattle.dtype_paths.specs.private.Children.{child}
use Rattle.dtype_paths.specs.EqualityLaws.{same_field-Decides}
use Rattle.dtype_paths.specs.PathOrder.{set_of}
use Rattle.dtype_paths.specs.declared.field.Field.{Field}
use Rattle.dtype_paths.specs.declared.node.Node.{Node}
use Rattle.dtype_paths.specs.private.Trie.{chain, child_at, terminal_at, terminals, walk, reading, IsAlike, HasBranch, IsPrefixMatch, IsTrie, IsTrieBy}
use Rattle.dtype_paths.specs.declared.path_match.PrefixMatch.{PrefixMatch}
use Rattle.dtype_paths.proofs.NodeIndices.{gains, parted, read-left, read-right, read-within}
use Rattle.dtype_paths.proofs.TrieGrowth.{Ends, Grows, Leads, trie-grown, trie-finish, trie-root, trie-same}

-- ---- parts of a list

pub take-step : {A : Type 0} (xs : List A) (n : ℕ) (x : A) → n < length xs → x ≡ get_or xs n x → take (n + 1) xs ≡ take n xs ++ x ∷ []
take-step xs n x h e = take_more xs n x h ∙ ap (λ y. take n xs ++ y ∷ []) (sym e)

-- the same of a list that begins with a root
pub take-after : (root : Node) (xs old : List Node) (i : ℕ) (x : Node) → root ∷ xs ≡ old → i < length xs → x ≡ get_or xs i x → take (i + 1 + 1) old ≡ take (i + 1) old ++ x ∷ []
take-after root xs old i x is lt e = let one : i + 1 ≡ suc i = omega arith in rw (← is, one) (take-step (root ∷ xs) (suc i) x (omega (arith, lt)) e)

-- ---- a chain of nodes

length-chain : (path rest : List Field) (m : ℕ) → length (chain path m rest) ≡ length rest + 1
length-chain path [] m = refl
length-chain path (f ∷ rest) m = omega (arith, length-chain path rest (m + 1))

chain-last : (path rest : List Field) (m : ℕ) → terminal_at (chain path m rest) (length rest) ≡ Some path
chain-last path [] m = refl
chain-last path (f ∷ rest) m = chain-last path rest (m + 1)

-- no path ends in it but at its last node
chain-ends : (path rest : List Field) (m k : ℕ) (q : List Field) → terminal_at (chain path m rest) k ≡ Some q → (k ≡ length rest) × (q ≡ path)
chain-ends path [] m k q e = grind (arith, e)
chain-ends path (f ∷ rest) m zero q e = cc
chain-ends path (f ∷ rest) m (suc k) q e = grind (arith, e, chain-ends path rest (m + 1) k q)

chain-leads : (child : ℕ → Field → Option ℕ) (path rest : List Field) (m : ℕ)
    → ((i k : ℕ) (f : Field) → i ≡ m + k → child i f ≡ child_at (chain path m rest) k f) → Leads child m rest
unfolding Leads
chain-leads child path [] m h = λ f j e. let z : None ≡ Some j = sym (h m 0 f (omega arith)) ∙ e in cc
chain-leads child path (x ∷ rest) m h =
    let at = λ (f : Field). h m 0 f (omega arith) in (
      at x ∙ rw ((same_field-Decides x x).1 refl) refl,
      λ f j e. grind (arith, at f, e, (same_field-Decides f x).0),
      chain-leads child path rest (m + 1) (λ i k f is. h i (suc k) f (omega (arith, is))),
    )

-- ---- the list after a path of which a prefix was there

module _ (old ns new : List Node) (path parts : List Field) (m : PrefixMatch) (trie : IsTrie old) (view : old ≡ ns) (same : parts ≡ path)
    (given : IsPrefixMatch ns parts m) (g : HasBranch old m.here path m.len new) where
  prefix : IsPrefixMatch old path m
  prefix = rw (← view, same) at given

  abbrev here : ℕ
  here = m.here

  abbrev rest : List Field
  rest = drop (m.len + 1) path

  abbrev tail : List Node
  tail = chain path (length old) rest

  abbrev x : Field
  x = g.step

  stop : child_at old here g.step ≡ None
  stop = grind (arith, prefix, same_Some)

  led : (i : ℕ) (f : Field) → ((i ≡ here) × (f ≡ x) × (child_at new i f ≡ Some (length old))) ⊎ (child_at new i f ≡ child_at (old ++ tail) i f)
  led i f = grind (arith, by_bool, and_parts, Decides-eqb, same_field-Decides)

  grows : Grows (child_at old) (child_at new) (length old) here x rest
  grows = record {
    kept = λ i f j e.
        let same = read-left (λ n. child n.children f) old tail i (read-within (λ n. child n.children f) old i j e) in
        grind (arith, led i f, stop, e, same);
    joined = g.steps here x ∙ rw ((Decides-eqb here here).1 refl, (same_field-Decides x x).1 refl) refl;
    only = λ i f j below e. grind (arith, led i f, e, read-left (λ n. child n.children f) old tail i below);
    leads = chain-leads (child_at new) path rest (length old) (λ i k f is.
        ⊎_elim (λ a. absurd (omega (arith, is, a.0, prefix.inside))) (λ a. a ∙ read-right (λ n. child n.children f) old tail i k is) (led i f));
  }

  new_ends : Ends (terminal_at old) (terminal_at new) (length old + length rest) path
  new_ends =
      let read = λ (n : Node). n.terminal in
      record {
        kept = λ i q e. g.terminals i ∙ read-left read old tail i (read-within read old i q e) ∙ e;
        here = g.terminals (length old + length rest) ∙ read-right read old tail (length old + length rest) (length rest) refl ∙ chain-last path rest (length old);
        only = λ i q e.
            let f = sym (g.terminals i) ∙ e in
            ⊎_elim
            (λ below. inl (sym (read-left read old tail i below) ∙ f))
            (λ above.
            let w = chain-ends path rest (length old) (i - length old) q (sym (read-right read old tail i (i - length old) (omega (arith, above))) ∙ f) in
            inr (omega (arith, above, w.0), w.1))
            (cases_lt i (length old));
      }

  pub nodes_grown : IsTrie new
  nodes_grown =
      trie-grown (child_at old) (child_at new) (terminal_at old) (terminal_at new) (length old) here (take m.len path) x rest trie prefix.walked stop grows (length new)
      (omega (arith, g.long, length-append old tail, length-chain path rest (length old)))
      (subst (Ends (terminal_at old) (terminal_at new) (length old + length rest)) (parted path m.len x g.first) new_ends)

  pub grown_gains : set_of (terminals new) ≡ set.insert (set_of (terminals ns)) path
  grown_gains = rw (← view) (gains old new (length old + length rest) path new_ends)

-- ---- the root alone

pub root_alone : (nodes : List Node) → length nodes ≡ 1 → terminal_at nodes 0 ≡ None → ((f : Field) → child_at nodes 0 f ≡ None) → IsTrie nodes
root_alone nodes one terminal steps = subst (IsTrieBy (child_at nodes) (terminal_at nodes)) (sym one) (trie-root (child_at nodes) (terminal_at nodes) steps none)
  where
    none : (i : ℕ) → terminal_at nodes i ≡ None
    none zero = terminal
    none (suc i) = rw (slice_get_past nodes (suc i) (omega (arith, one))) refl

-- ---- a list with the same nodes as another

read-map : {A B C : Type 0} (g : A → B) (f : B → Option C) (xs : List A) (i : ℕ) → option_and_then (λ x. f (g x)) (slice_get xs i) ≡ option_and_then f (slice_get (map g xs) i)
read-map g f [] i = refl
read-map g f (x ∷ xs) zero = refl
read-map g f (x ∷ xs) (suc i) = read-map g f xs i

terminals-read : (ns : List Node) → terminals ns ≡ filter_map (λ r. r.0) (map reading ns)
terminals-read [] = refl
terminals-read (n ∷ ns) = ap (cons_option n.terminal) (terminals-read ns)

module _ (old new : List Node) (a : IsAlike old new) where
  read-same : {C : Type 0} (f : Option (List Field) × (Field → Option ℕ) → Option C) (i : ℕ)
      → option_and_then (λ n. f (reading n)) (slice_get new i) ≡ option_and_then (λ n. f (reading n)) (slice_get old i)
  read-same f i = read-map reading f new i ∙ ap (λ rs. option_and_then f (slice_get rs i)) a ∙ sym (read-map reading f old i)

  pub nodes_same : IsTrie old → IsTrie new
  nodes_same =
      trie-same (child_at old) (child_at new) (terminal_at old) (terminal_at new) (length old) (length new)
      (λ i f. read-same (λ r. r.1 f) i) (read-same (λ r. r.0)) (sym (length-map new reading) ∙ ap length a ∙ length-map old reading)

  pub terminals_same : (ns : List Node) → old ≡ ns → terminals new ≡ terminals ns
  terminals_same ns same = terminals-read new ∙ ap (filter_map (λ r. r.0)) a ∙ sym (terminals-read old) ∙ ap terminals same

-- ---- the list where the path ends in a node that is there

module _ (old ns new : List Node) (path parts : List Field) (here : ℕ) (trie : IsTrie old) (view : old ≡ ns) (same : parts ≡ path)
    (led_here : walk (child_at ns) 0 parts ≡ Some here) (long : length new ≡ length old)
    (steps : (i : ℕ) (f : Field) → child_at new i f ≡ child_at old i f)
    (finish : (i : ℕ) → terminal_at new i ≡ cond (i == here) (Some path) (terminal_at old i)) where
  walked : walk (child_at old) 0 path ≡ Some here
  walked = rw (← view, same) at led_here

  terminals-finished : Ends (terminal_at old) (terminal_at new) here path
  terminals-finished = record {
    kept = λ i q e. let led = trie.ends_where_it_leads i q e in grind (arith, finish i, e, (Decides-eqb i here).0, led, trie.once path q here walked);
    here = finish here ∙ rw ((Decides-eqb here here).1 refl) refl;
    only = λ i q e. grind (arith, finish i, e, (Decides-eqb i here).0);
  }

  pub nodes_finished : IsTrie new
  nodes_finished =
      trie-same (child_at old) (child_at new) (terminal_at new) (terminal_at new) (length old) (length new) steps (λ i. refl) long
      (trie-finish (child_at old) (terminal_at old) (terminal_at new) (length old) here path trie walked terminals-finished)

  pub finished_gains : set_of (terminals new) ≡ set.insert (set_of (terminals ns)) path
  finished_gains = rw (← view) (gains old new here path terminals-finished)
