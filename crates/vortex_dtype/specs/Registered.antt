-- SPDX-License-Identifier: Apache-2.0
-- SPDX-FileCopyrightText: Copyright the Vortex contributors

-- Whether a plugin is registered under an id, for callers whose contracts require it of many ids. A choice of this
-- project.
use Rattle.std.specs.Prelude.{ℕ, List, IsSome}
use Rattle.vortex_dtype.specs.Meaning.{Meaning}

-- A session that does m has a plugin under the id. It is no abbreviation, so that `All (λ id. IsRegistered m id.now) ids`
-- proves by the ruleset `each_registered`: a search keeps the word, where it would take `IsSome` apart.
unfoldable pub IsRegistered : Meaning → List ℕ → Type 0
IsRegistered m id = IsSome (m.registered id)
