-- SPDX-License-Identifier: Apache-2.0
-- SPDX-FileCopyrightText: Copyright the Vortex contributors

-- The plugins under the id `x.tag`: one lowers ASCII letters and doesn't accept an exclamation mark, the
-- other keeps all bytes.
use Rattle.std.specs.Prelude.{◌≡◌, ℕ, ◌+◌, ◌<◌, ◌≤◌, List, [], ◌∷◌, Option, Some, None, Bool, true, false, ◌&&◌, ◌||◌, nat_eq, nat_le, if◌then◌else◌, All, map, refl}
use Rattle.std.specs.List.{list_any}
use Rattle.std.proofs.Common.{arith, ap, sym, ◌∙◌, subst, rules, cond}
use Rattle.std.proofs.lemmas.Bool.Decides.{nat_tests}
use Rattle.std.proofs.lemmas.List.Elements.{All-map}
use Rattle.std.proofs.lemmas.Grind.{common_steps}
use Rattle.std.proofs.lemmas.Option.{same_Some}
use Rattle.dtype_types.specs.tree.Tree.{Tree}
use Rattle.vortex_dtype.specs.Meaning.{Bytes, Lawful}
use Rattle.vortex_dtype.specs.Typed.{Typed}

-- the letter in lower case, and any other byte
abbrev pub low : ℕ → ℕ
low x = if nat_le 65 x && nat_le x 90 then x + 32 else x

-- the bytes lowered, if there is no exclamation mark
abbrev pub lowered : List ℕ → Option (List ℕ)
lowered b = if list_any (λ x. nat_eq x 33) b then None else Some (map low b)

-- a byte that reading lowers or doesn't accept
abbrev pub is_changed : ℕ → Bool
is_changed x = nat_eq x 33 || (nat_le 65 x && nat_le x 90)

-- only what reading leaves as it is is written
abbrev pub if_unchanged : List ℕ → Option (List ℕ)
if_unchanged m = if list_any is_changed m then None else Some m

low_bounded : (x : ℕ) → x < 256 → low x < 256
low_bounded x h = grind (arith, nat_tests)

keeps_one : (x : ℕ) → is_changed x ≡ false → (low x ≡ x) × (nat_eq x 33 ≡ false)
keeps_one x h = (grind (arith, nat_tests), grind (arith, nat_tests))

or_false : (p q : Bool) → (p || q) ≡ false → (p ≡ false) × (q ≡ false)
or_false true q e = cc
or_false false q e = (refl, e)

keeps_all : (m : List ℕ) → list_any is_changed m ≡ false → (map low m ≡ m) × (list_any (λ x. nat_eq x 33) m ≡ false)
keeps_all [] e = (refl, refl)
keeps_all (x ∷ xs) e =
    let parts = or_false (is_changed x) (list_any is_changed xs) e in
    let one = keeps_one x parts.0 in
    let more = keeps_all xs parts.1 in
    (ap (λ y. y ∷ map low xs) one.0 ∙ ap (λ ys. x ∷ ys) more.0, ap (λ b. b || list_any (λ y. nat_eq y 33) xs) one.1 ∙ more.1)

chosen : (f : Bool) (b c : List ℕ) → (if f then None else Some b) ≡ Some c → (f ≡ false) × (b ≡ c)
chosen true b c e = cc
chosen false b c e = (refl, same_Some b c e)

reads_same : (m : List ℕ) → list_any is_changed m ≡ false → lowered m ≡ Some m
reads_same m e =
    let k = keeps_all m e in
    ap (λ b. if b then None else Some (map low m)) k.1 ∙ ap Some k.0

pub tag_typed : Typed {M = List ℕ} lowered if_unchanged (λ m s. true)
tag_typed = record {
  read_back = λ m c e. let k = chosen (list_any is_changed m) m c e in subst (λ (x : List ℕ). lowered x ≡ Some m) k.1 (reads_same m k.0);
  as_bytes = λ b m c bs e w.
      let k = chosen (list_any (λ x. nat_eq x 33) b) (map low b) m e in
      let l = chosen (list_any is_changed m) m c w in
      subst Bytes (k.1 ∙ l.1) (All-map (λ x. x < 256) low b (λ i d h. low_bounded _ (bs i d h)));
  outer = λ m s t n v e. refl;
}

-- all bytes are kept
pub all_kept_laws : Lawful (λ b s. Some b)
all_kept_laws = record {
  again = λ b c s bs v e. (subst Bytes (same_Some b c e) bs, refl);
  outer = λ b s t n bs v e. refl;
}
