-- SPDX-License-Identifier: Apache-2.0
-- SPDX-FileCopyrightText: Copyright the Vortex contributors

pub mod Projected
pub mod IsPart
pub mod private
pub mod Restricted
