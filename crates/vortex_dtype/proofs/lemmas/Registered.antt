-- SPDX-License-Identifier: Apache-2.0
-- SPDX-FileCopyrightText: Copyright the Vortex contributors

-- What a session keeps that a contract gives as a registration: of a plugin's meaning under an id, in a session of which
-- something is known.
use Rattle.std.specs.Prelude.{◌≡◌, ◌≢◌, ℕ, List, Option, Some, None, false}
use Rattle.std.proofs.Common.{arith, ap, refl}
use Rattle.dtype_types.specs.tree.Tree.{Tree}
use Rattle.vortex_dtype.specs.Meaning.{Rewrites, Meaning, kept, keeps, empty_meaning, register_in, allow_unknown_in}
use Rattle.vortex_dtype.proofs.lemmas.Sessions.{others_register_in, registered_allow_unknown_in, registered_register_in, unknown_kept_after_allowing, unknown_register_in}

-- under the id that was registered, what the plugin writes back
pub keeps_registered : (m n : Meaning) (id : List ℕ) (r : Rewrites) (b : List ℕ) (t : Tree) → n ≡ register_in id r m → keeps n id b t ≡ r b t
keeps_registered m n id r b t e = ap (λ (o : Option Rewrites). kept o n.unknown b t) (registered_register_in m n id r e)

-- under another id what was kept before
pub keeps_other : (m n : Meaning) (i id : List ℕ) (r : Rewrites) (b : List ℕ) (t : Tree) → n ≡ register_in i r m → i ≢ id → keeps n id b t ≡ keeps m id b t
keeps_other m n i id r b t e other = grind (arith, others_register_in m n i id r e other, unknown_register_in m n i r e)

-- a new session keeps nothing
pub keeps_nothing : (n : Meaning) (id b : List ℕ) (t : Tree) → n ≡ empty_meaning → keeps n id b t ≡ None
unfolding empty_meaning
keeps_nothing n id b t e = ap (λ (s : Meaning). keeps s id b t) e

-- where unknown ids are allowed, the bytes of an id that isn't registered
pub keeps_unknown : (m n : Meaning) (id b : List ℕ) (t : Tree) → n ≡ allow_unknown_in m → m.registered id ≡ None → keeps n id b t ≡ Some b
keeps_unknown m n id b t e none = grind (arith, registered_allow_unknown_in m n id e, none, unknown_kept_after_allowing m n e)

-- where unknown ids aren't allowed, nothing of an id that isn't registered
pub keeps_unless_unknown : (n : Meaning) (id b : List ℕ) (t : Tree) → n.registered id ≡ None → n.unknown ≡ false → keeps n id b t ≡ None
keeps_unless_unknown n id b t none strict = rw (none, strict) refl
