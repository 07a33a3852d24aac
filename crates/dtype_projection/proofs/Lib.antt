-- SPDX-License-Identifier: Apache-2.0
-- SPDX-FileCopyrightText: Copyright the Vortex contributors

mod EnteredFields
mod KeptFields
pub mod lemmas
