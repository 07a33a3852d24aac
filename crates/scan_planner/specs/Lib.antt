-- SPDX-License-Identifier: Apache-2.0
-- SPDX-FileCopyrightText: Copyright the Vortex contributors

pub mod Needs
pub mod Plans
pub mod Tables
