-- SPDX-License-Identifier: Apache-2.0
-- SPDX-FileCopyrightText: Copyright the Vortex contributors

-- What a session is in contracts: what its plugins do with metadata, by their ids, and its flag.
use Rattle.std.specs.Prelude.{List, Bool, option_map, bytes_eq, string_bytes}
use Rattle.std.specs.Map.{lookup}
use Rattle.std.specs.declared.string.String.{String}
use Rattle.std.specs.declared.alloc.Global.{Global}
use Rattle.std.specs.declared.dyn_box.DynBox.{DynBox}
use Rattle.vortex_dtype.specs.Meaning.{Rewrites, Meaning}
use Rattle.vortex_dtype.specs.declared.session.DTypeSession.{DTypeSession}

module _ {B : Type 0} (r : B → Rewrites) where
  -- what is registered under an id, in a list of plugins by their ids
  abbrev pub meaning_of : List (String Global × B) → Bool → Meaning
  meaning_of entries unknown = record { registered = λ id. option_map r (lookup (λ k. bytes_eq id (string_bytes k)) entries); unknown = unknown }

module _ {X : Type 0} {F : X → Type 0} where
  -- the session as a map from ids to what the plugins mean, by what each boxed plugin means; the clauses of the calls
  -- say how it changes, and name no field of a session
  unfoldable pub meaning : (DynBox X Global F → Rewrites) → DTypeSession X F → Meaning
  meaning r s = meaning_of r s.plugins.entries s.allow_unknown
