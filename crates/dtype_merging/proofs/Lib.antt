-- SPDX-License-Identifier: Apache-2.0
-- SPDX-FileCopyrightText: Copyright the Vortex contributors

pub mod lemmas
mod Apart
mod Collecting
mod Visiting
mod Ordered
mod Tagging
mod Testing
