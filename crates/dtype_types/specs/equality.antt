-- SPDX-License-Identifier: Apache-2.0
-- SPDX-FileCopyrightText: Copyright the Vortex contributors

-- Equality of types as a test, and what types feed a hasher; and what the ghost members of the impls cite as proofs.
pub mod Equality
pub mod Hashes
pub mod EqualityLaws
pub mod HashLaws
