-- SPDX-License-Identifier: Apache-2.0
-- SPDX-FileCopyrightText: Copyright the Vortex contributors

pub mod Money
pub mod Orders
pub mod Loops
pub mod Plugins
pub mod Descending
