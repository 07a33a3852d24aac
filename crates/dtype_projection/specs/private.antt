-- SPDX-License-Identifier: Apache-2.0
-- SPDX-FileCopyrightText: Copyright the Vortex contributors

-- How a projection is made. Only private contracts cite these definitions, and no other crate does.
pub mod Entered
