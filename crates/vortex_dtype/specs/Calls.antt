-- SPDX-License-Identifier: Apache-2.0
-- SPDX-FileCopyrightText: Copyright the Vortex contributors

-- A session after a list of calls, as it is determined by the list.
use Rattle.std.specs.Prelude.{◌≢◌, ℕ, List, [], ◌∷◌, Bool, true, false}
use Rattle.vortex_dtype.specs.Meaning.{Rewrites, Meaning, register_in, allow_unknown_in}

-- the calls that change a session
pub data Call : Type 0 where
  register : List ℕ → Rewrites → Call
  allow : Call

-- the session after these calls, made in the order of the list
abbrev pub after : List Call → Meaning → Meaning
after [] m = m
after (register i r ∷ calls) m = after calls (register_in i r m)
after (allow ∷ calls) m = after calls (allow_unknown_in m)

-- none of these calls registers a plugin under the id
abbrev pub LeavesAlone : List ℕ → List Call → Type 0
LeavesAlone id [] = Unit {0}
LeavesAlone id (register i r ∷ calls) = (i ≢ id) × LeavesAlone id calls
LeavesAlone id (allow ∷ calls) = LeavesAlone id calls

-- the call allows unknown ids
abbrev pub is_allow : Call → Bool
is_allow (register i r) = false
is_allow allow = true
