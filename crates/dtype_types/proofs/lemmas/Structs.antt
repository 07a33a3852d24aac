-- SPDX-License-Identifier: Apache-2.0
-- SPDX-FileCopyrightText: Copyright the Vortex contributors

-- What a type with these fields is, and what a struct of these fields has. `structs` names it in one line,
--     #![tactic(auto, using(dtype_types::proofs::lemmas::Structs::structs))]
use Rattle.std.proofs.Common.{◌≡◌, ◌∙◌, ℕ, List, Some, ap, sym}
use Rattle.std.proofs.lemmas.Option.{same_Some}
use Rattle.dtype_base.specs.declared.nullability.Nullability.{Nullability}
use Rattle.dtype_types.specs.tree.Kinds.{struct_fields}
use Rattle.dtype_types.specs.nullability.Nullable.{nullability}
use Rattle.dtype_types.proofs.lemmas.TreeLaws.{pairs_of}
use Rattle.dtype_types.proofs.lemmas.ValidParts.{fields_of_pairs}
use Rattle.dtype_types.specs.tree.Tree.{Tree, fields, pairs, struct}

-- a type that has these fields is a struct of them
pub struct_of_fields : (t : Tree) (ps : List (List ℕ × Tree)) → struct_fields t ≡ Some ps → t ≡ struct (fields ps) (nullability t)
struct_of_fields (struct fs n) ps e = ap (λ gs. struct gs n) (sym (fields_of_pairs fs) ∙ ap fields (same_Some (pairs fs) ps e))
struct_of_fields _ ps e = cc

-- and a struct of them has them
pub fields_of_struct : (t : Tree) (ps : List (List ℕ × Tree)) (n : Nullability) → t ≡ struct (fields ps) n → struct_fields t ≡ Some ps
fields_of_struct t ps n e = ap struct_fields e ∙ ap Some (pairs_of ps)

-- structs that are equal have the same fields
pub same_pairs : (ps qs : List (List ℕ × Tree)) (m n : Nullability) → struct (fields ps) m ≡ struct (fields qs) n → ps ≡ qs
same_pairs ps qs m n e = let alike : fields ps ≡ fields qs = cc in sym (pairs_of ps) ∙ ap pairs alike ∙ pairs_of qs

pub ruleset structs = (struct_of_fields, fields_of_struct, same_pairs, pairs_of)
