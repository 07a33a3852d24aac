-- SPDX-License-Identifier: Apache-2.0
-- SPDX-FileCopyrightText: Copyright the Vortex contributors

-- What a type is: the tree that it means, and what holds of all trees.
pub mod Tree
pub mod TreeOf
pub mod Kinds
pub mod Valid
pub mod Erase
pub mod Width
