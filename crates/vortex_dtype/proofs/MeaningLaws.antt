-- SPDX-License-Identifier: Apache-2.0
-- SPDX-FileCopyrightText: Copyright the Vortex contributors

-- Facts on the meanings of sessions.
use Rattle.std.proofs.Common.{arith, ◌≡◌, ℕ, List, Option, Some, Bool, ap, cond}
use Rattle.std.specs.Prelude.{option_map}
use Rattle.std.specs.declared.alloc.Global.{Global}
use Rattle.std.specs.declared.dyn_box.DynBox.{DynBox}
use Rattle.vortex_dtype.specs.Meaning.{Bytes, Rewrites, Meaning, Lawful, LawfulSession, keeps}
use Rattle.dtype_types.specs.tree.Tree.{Tree}
use Rattle.dtype_types.specs.tree.Valid.{Valid}
use Rattle.vortex_dtype.proofs.lemmas.Sessions.{keeps_again}
use Rattle.vortex_dtype.specs.Session.{meaning}
use Rattle.vortex_dtype.specs.declared.session.DTypeSession.{DTypeSession}

pub same_meaning : (f g : List ℕ → Option Rewrites) (u : Bool) → ((id : List ℕ) → f id ≡ g id) → ◌≡◌ {A = Meaning} (record { registered = f; unknown = u }) (record { registered = g; unknown = u })
same_meaning f g u h = ap (λ (k : List ℕ → Option Rewrites). let m : Meaning = record { registered = k; unknown = u } in m) (λ i id. h id i)

pub option_map-cond : {A B : Type 0} (r : A → B) (c : Bool) (x : A) (o p : Option A) → p ≡ cond c (Some x) o → option_map r p ≡ cond c (Some (r x)) (option_map r o)
option_map-cond r c x o p e = grind (arith, e)

pub lawful_found : {B : Type 0} (r : B → Rewrites) → ((b : B) → Lawful (r b)) → (o : Option B) (q : Rewrites) → option_map r o ≡ Some q → Lawful q
lawful_found r h o q e = grind (arith, h, e)

-- a session all of whose plugins are lawful
pub lawful_session : {X : Type 0} {F : X → Type 0} (r : DynBox X Global F → Rewrites) (s : DTypeSession X F) → ((b : DynBox X Global F) → Lawful (r b)) → LawfulSession (meaning r s)
unfolding meaning
lawful_session r s h = record { each = λ id q e. lawful_found r h _ q e }

-- what it keeps it keeps again
pub kept_by_lawful : {X : Type 0} {F : X → Type 0} (r : DynBox X Global F → Rewrites) (s : DTypeSession X F) → ((b : DynBox X Global F) → Lawful (r b)) → (id b c : List ℕ) (t : Tree) → Bytes b → Valid t → keeps (meaning r s) id b t ≡ Some c → keeps (meaning r s) id c t ≡ Some c
kept_by_lawful r s h id b c t bytes v e = (keeps_again (meaning r s) (lawful_session r s h) id b c t bytes v e).1
