-- SPDX-License-Identifier: Apache-2.0
-- SPDX-FileCopyrightText: Copyright the Vortex contributors

pub mod Sides
pub mod Parts
pub mod Walks
pub mod KindLaws
pub mod Alongside
pub mod SameParts
pub mod Texts
pub mod PutTogether
pub mod Widths
pub mod Selected
pub mod TellLaws
pub mod OwnTags
pub mod Untagged
pub mod MergedParts
pub mod lemmas
