-- SPDX-License-Identifier: Apache-2.0
-- SPDX-FileCopyrightText: Copyright the Vortex contributors

-- Structs whose fields a contract names one after another, as the tree has them, where a call gives them as a list; and
-- a field more at the end.
use Rattle.std.proofs.Common.{arith, ◌≡◌, ◌∙◌, ℕ, List, [], ◌∷◌, ◌++◌, Some, ap, sym}
use Rattle.dtype_base.specs.declared.nullability.Nullability.{Nullability}
use Rattle.dtype_types.specs.tree.Kinds.{struct_fields}
use Rattle.dtype_types.specs.tree.Tree.{Tree, Fields, fields, pairs, struct}
use Rattle.dtype_types.specs.tree.TreeOf.{children, struct_pairs, fields_of, tree, with_trees}
use Rattle.dtype_types.specs.tree.Valid.{Valid, ValidItems}
use Rattle.dtype_types.specs.declared.struct_fields.StructFields.{StructFields}
use Rattle.dtype_types.specs.declared.dtype.DType.TheVariants.{Struct}
use Rattle.dtype_types.proofs.lemmas.TreeLaws.{pairs_of, tree_struct}
use Rattle.dtype_types.proofs.lemmas.Validity.{valid_joined}
use Rattle.dtype_types.proofs.lemmas.Structs.{fields_of_struct, same_pairs, struct_of_fields}
use Rattle.dtype_types.proofs.lemmas.ValidParts.{fields_of_pairs}

-- the fields of a type that is such a struct, as a list
pub pairs_listed : (t : Tree) (fs : Fields) (n : Nullability) → t ≡ struct fs n → struct_fields t ≡ Some (pairs fs)
pairs_listed t fs n e = ap struct_fields e

-- the fields of such a struct
pub children_listed : (s : StructFields) (fs : Fields) → fields_of s ≡ fs → children s ≡ pairs fs
children_listed s fs e = sym (pairs_of (children s)) ∙ ap pairs e

-- a struct that is made a type, and a copy of it, has its fields
pub has_fields : (s : StructFields) (n : Nullability) → struct_fields (tree (Struct s n)) ≡ Some (children s)
has_fields s n = ap struct_fields (tree_struct s n) ∙ ap Some (pairs_of (children s))

pub copy_has_fields : (s copy : StructFields) (n : Nullability) → struct_pairs copy ≡ struct_pairs s → struct_fields (tree (Struct copy n)) ≡ Some (children s)
copy_has_fields s copy n e = has_fields copy n ∙ ap (λ ps. Some (with_trees ps)) e

-- fields of which all are valid, and a valid field more
pub valid_one_appended : (ps : List (List ℕ × Tree)) (name : List ℕ) (u : Tree) → ValidItems (fields ps) → Valid u → ValidItems (fields (ps ++ (name, u) ∷ []))
valid_one_appended ps name u h g = valid_joined ps ((name, u) ∷ []) h (g, tt)

-- the fields of a valid type, and more
valid_listed : (t : Tree) (ps : List (List ℕ × Tree)) → struct_fields t ≡ Some ps → Valid t → ValidItems (fields ps)
valid_listed t ps e h = grind (arith, e, h, fields_of_pairs)

pub valid_more : (t : Tree) (ps qs : List (List ℕ × Tree)) → struct_fields t ≡ Some ps → Valid t → ValidItems (fields qs) → ValidItems (fields (ps ++ qs))
valid_more t ps qs e h g = valid_joined ps qs (valid_listed t ps e h) g

pub valid_one_more : (t u : Tree) (ps : List (List ℕ × Tree)) (name : List ℕ) → struct_fields t ≡ Some ps → Valid t → Valid u → ValidItems (fields (ps ++ (name, u) ∷ []))
valid_one_more t u ps name e h g = valid_more t ps ((name, u) ∷ []) e h (g, tt)

pub ruleset listed_fields = (pairs_listed, children_listed, has_fields, copy_has_fields, fields_of_pairs, struct_of_fields, fields_of_struct, same_pairs, pairs_of)

pub ruleset valid_fields = (valid_one_appended, valid_more, valid_one_more)
