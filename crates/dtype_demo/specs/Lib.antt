-- SPDX-License-Identifier: Apache-2.0
-- SPDX-FileCopyrightText: Copyright the Vortex contributors

pub mod DemoTree
pub mod Faults
pub mod Input
pub mod Lines
pub mod Output
