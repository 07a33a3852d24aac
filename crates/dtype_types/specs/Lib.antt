-- SPDX-License-Identifier: Apache-2.0
-- SPDX-FileCopyrightText: Copyright the Vortex contributors

pub mod tree
pub mod parts
pub mod nullability
pub mod values
pub mod texts
pub mod equality
pub mod Laws
pub mod formers
