-- SPDX-License-Identifier: Apache-2.0
-- SPDX-FileCopyrightText: Copyright the Vortex contributors

pub mod JoinedTexts
pub mod EscapedChars
pub mod ErrorEquality
pub mod NameSearch
pub mod NameHashes
pub mod IndexEntries
pub mod Buckets
pub mod lemmas
