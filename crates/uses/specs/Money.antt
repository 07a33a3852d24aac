-- SPDX-License-Identifier: Apache-2.0
-- SPDX-FileCopyrightText: Copyright the Vortex contributors

-- What `shop.money` takes as metadata, by the shop's own rule: the code of a currency, three bytes.
use Rattle.std.specs.Prelude.{◌≡◌, ℕ, List, length, Option, Some, None, Bool, true, false, if◌then◌else◌, nat_eq, refl}
use Rattle.std.proofs.Common.{subst, sym}
use Rattle.vortex_dtype.specs.Meaning.{Bytes}
use Rattle.vortex_dtype.specs.Typed.{Typed}

-- the bytes, if they are three
abbrev pub currency : List ℕ → Option (List ℕ)
currency b = if nat_eq (length b) 3 then Some b else None

-- what is accepted is kept unchanged
is_same : (f : Bool) (b c : List ℕ) → (if f then Some b else None) ≡ Some c → b ≡ c
is_same true b c e = cc
is_same false b c e = cc

pub money_typed : Typed {M = List ℕ} currency currency (λ c s. true)
money_typed = record {
  read_back = λ m c e. subst (λ (x : List ℕ). currency x ≡ Some m) (is_same (nat_eq (length m) 3) m c e) (subst (λ (x : List ℕ). currency m ≡ Some x) (sym (is_same (nat_eq (length m) 3) m c e)) e);
  as_bytes = λ b m c bytes read written. subst Bytes (is_same (nat_eq (length m) 3) m c written) (subst Bytes (is_same (nat_eq (length b) 3) b m read) bytes);
  outer = λ m s t n valid set. refl;
}
