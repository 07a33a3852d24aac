-- SPDX-License-Identifier: Apache-2.0
-- SPDX-FileCopyrightText: Copyright the Vortex contributors

-- Definitions that only private contracts of this crate cite: the index by which names are looked up. No other crate
-- may cite them.
pub mod NameOrder
