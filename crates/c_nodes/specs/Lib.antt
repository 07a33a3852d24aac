-- SPDX-License-Identifier: Apache-2.0
-- SPDX-FileCopyrightText: Copyright the Vortex contributors

pub mod Depth
pub mod Flat
pub mod Greatest
pub mod Kinds
pub mod Read
pub mod Rests
pub mod Texts
pub mod Written
