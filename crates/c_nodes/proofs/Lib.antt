-- SPDX-License-Identifier: Apache-2.0
-- SPDX-FileCopyrightText: Copyright the Vortex contributors

pub mod Complete
pub mod Deep
pub mod Lists
pub mod NodeKinds
pub mod Reading
pub mod Sound
pub mod Whole
