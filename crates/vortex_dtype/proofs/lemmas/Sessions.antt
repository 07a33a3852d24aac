-- SPDX-License-Identifier: Apache-2.0
-- SPDX-FileCopyrightText: Copyright the Vortex contributors

-- Laws of sessions: what is registered after a list of calls, what is kept, and what is admitted.
use Rattle.std.specs.Prelude.{◌≡◌, ◌≢◌, ◌↔◌, ℕ, List, [], ◌∷◌, ◌++◌, Some, None, true, false, ◌||◌, refl}
use Rattle.std.specs.List.{list_any}
use Rattle.std.proofs.Common.{sym, ap, ◌∙◌, subst, arith}
use Rattle.std.proofs.lemmas.Slice.Eq.{bytes_eq-Decides}
use Rattle.dtype_base.specs.declared.nullability.Nullability.{Nullability}
use Rattle.dtype_base.specs.declared.vortex_error.VortexError.{VortexError}
use Rattle.dtype_types.specs.tree.Kinds.{struct_fields}
use Rattle.dtype_types.specs.tree.Tree.{Tree, fields, no_items, item, null, list, fixed_size_list, map_of, struct, union, extension, Holder, Items}
use Rattle.dtype_types.specs.tree.TreeOf.{tree, extension_tree, extension_metadata}
use Rattle.dtype_types.specs.tree.Valid.{Valid}
use Rattle.dtype_types.proofs.lemmas.TreeLaws.{tree_extension}
use Rattle.dtype_types.proofs.lemmas.ValidParts.{fields_of_pairs}
use Rattle.dtype_types.specs.parts.Lookups.{first_named}
use Rattle.dtype_types.specs.declared.dtype.DType.TheVariants.{Extension}
use Rattle.dtype_types.specs.declared.extension.ExtDTypeRef.{ExtDTypeRef}
use Rattle.dtype_types.specs.nullability.Nullable.{set_null}
use Rattle.vortex_dtype.specs.Meaning.{Rewrites, Meaning, LawfulSession, Bytes, keeps, empty_meaning, register_in, allow_unknown_in, Admits, AdmitsItems}
use Rattle.vortex_dtype.specs.Errors.{SessionError}
use Rattle.vortex_dtype.specs.Calls.{Call, register, allow, after, LeavesAlone, is_allow}

-- ---- lists of calls

-- a registration gives its id the plugin's meaning, and changes nothing for another id
pub registered_register_in : (m n : Meaning) (i : List ℕ) (r : Rewrites) → n ≡ register_in i r m → n.registered i ≡ Some r
unfolding register_in
registered_register_in m n i r e = grind (arith, e, (bytes_eq-Decides i i).1 refl)

-- the same of an id and of a plugin's meaning that a caller has in other words. (Each of the two is an equation, so that a
-- search takes the lemma at any id.)
pub registered_as : (m n : Meaning) (i id : List ℕ) (r q : Rewrites) → n ≡ register_in i r m → i ≡ id → r ≡ q → n.registered id ≡ Some q
registered_as m n i id r q e f g = subst (λ x. n.registered x ≡ Some q) f (registered_register_in m n i r e ∙ ap Some g)

pub others_register_in : (m n : Meaning) (i id : List ℕ) (r : Rewrites) → n ≡ register_in i r m → i ≢ id → n.registered id ≡ m.registered id
unfolding register_in
others_register_in m n i id r e other = grind (arith, e, other, bytes_eq-Decides i id)

-- calls that leave an id alone leave what is registered under it
pub after-left_alone : (calls : List Call) (m : Meaning) (id : List ℕ) → LeavesAlone id calls → (after calls m).registered id ≡ m.registered id
unfolding allow_unknown_in
after-left_alone [] m id h = refl
after-left_alone (register i r ∷ calls) m id h = after-left_alone calls (register_in i r m) id h.1 ∙ others_register_in m (register_in i r m) i id r refl h.0
after-left_alone (allow ∷ calls) m id h = after-left_alone calls (allow_unknown_in m) id h

pub after-last : (before rest : List Call) (m : Meaning) (id : List ℕ) (r : Rewrites) → LeavesAlone id rest
    → (after (before ++ register id r ∷ rest) m).registered id ≡ Some r
after-last [] rest m id r h = after-left_alone rest (register_in id r m) id h ∙ registered_register_in m (register_in id r m) id r refl
after-last (register i q ∷ before) rest m id r h = after-last before rest (register_in i q m) id r h
after-last (allow ∷ before) rest m id r h = after-last before rest (allow_unknown_in m) id r h

-- unknown ids are kept where they were before, or a call allows them
unknown-after : (calls : List Call) (m : Meaning) → (after calls m).unknown ≡ (m.unknown || list_any is_allow calls)
unfolding register_in allow_unknown_in
unknown-after [] m = grind arith
unknown-after (register i r ∷ calls) m = unknown-after calls (register_in i r m)
unknown-after (allow ∷ calls) m = grind (arith, unknown-after calls (allow_unknown_in m))

pub after-unknown : (calls : List Call) (m : Meaning) → m.unknown ≡ false → (after calls m).unknown ≡ list_any is_allow calls
after-unknown calls m e = grind (arith, unknown-after calls m, e)

-- ---- what is kept

-- what a session keeps it keeps again, and it is bytes
pub keeps_again : (m : Meaning) → LawfulSession m → (id b c : List ℕ) (s : Tree) → Bytes b → Valid s → keeps m id b s ≡ Some c → Bytes c × (keeps m id c s ≡ Some c)
keeps_again m h id b c s bs v e =
    let again : (r : Rewrites) → m.registered id ≡ Some r → r b s ≡ Some c → Bytes c × (r c s ≡ Some c) = λ r is. (h.each id r is).again b c s bs v in
    grind (arith, again, bs, e)

-- the storage's outer nullability makes no difference to what is kept
pub keeps_outer : (m : Meaning) → LawfulSession m → (id b : List ℕ) (s t : Tree) (n : Nullability) → Bytes b → Valid s → set_null s n ≡ Some t → keeps m id b t ≡ keeps m id b s
keeps_outer m h id b s t n bs v e =
    let outer : (r : Rewrites) → m.registered id ≡ Some r → r b t ≡ r b s = λ r is. (h.each id r is).outer b s t n bs v e in
    grind (arith, outer)

-- ---- what is admitted

-- a session admits a type with another outer nullability exactly where it admits the type
pub admits-set_null : (m : Meaning) → LawfulSession m → (t u : Tree) (n : Nullability) → Valid t → set_null t n ≡ Some u → Admits m t ↔ Admits m u
admits-set_null m h null u n v e = grind (arith, e)
admits-set_null m h (extension id b s) u n v e = grind (arith, λ (x : Tree). keeps_outer m h id b s x n v.0 v.1, λ (x : Tree). admits-set_null m h s x n v.1, e)
admits-set_null m h _ u n v e = grind (arith, e)

-- a session without plugins that keeps unknown ids keeps all metadata and admits every type
pub kept_allow_unknown_in : (n : Meaning) (id b : List ℕ) (t : Tree) → n ≡ allow_unknown_in empty_meaning → keeps n id b t ≡ Some b
unfolding allow_unknown_in empty_meaning
kept_allow_unknown_in n id b t e = ap (λ (s : Meaning). keeps s id b t) e

mutual
  pub admits_allow_unknown_in : (n : Meaning) (t : Tree) → n ≡ allow_unknown_in empty_meaning → Admits n t
  admits_allow_unknown_in n (list t k) e = admits_allow_unknown_in n t e
  admits_allow_unknown_in n (fixed_size_list t size k) e = admits_allow_unknown_in n t e
  admits_allow_unknown_in n (map_of t u o k) e = (admits_allow_unknown_in n t e, admits_allow_unknown_in n u e)
  admits_allow_unknown_in n (struct fs k) e = admits-items n fs e
  admits_allow_unknown_in n (union vs k) e = admits-items n vs e
  admits_allow_unknown_in n (extension id b s) e = (kept_allow_unknown_in n id b s e, admits_allow_unknown_in n s e)
  admits_allow_unknown_in n _ e = tt

  admits-items : (n : Meaning) {h : Holder} (xs : Items h) → n ≡ allow_unknown_in empty_meaning → AdmitsItems n xs
  admits-items n no_items e = tt
  admits-items n (item name t g rest) e = (admits_allow_unknown_in n t e, admits-items n rest e)

-- fields after those that are admitted
admits_joined : (m : Meaning) (ps qs : List (List ℕ × Tree)) → AdmitsItems m (fields ps) → AdmitsItems m (fields qs) → AdmitsItems m (fields (ps ++ qs))
admits_joined m [] qs a b = b
admits_joined m (p ∷ ps) qs a b = (a.0, admits_joined m ps qs a.1 b)

-- a struct with more fields after those of an admitted one
pub admits_more : (m : Meaning) (t : Tree) (ps qs : List (List ℕ × Tree)) (n k : Nullability) → struct_fields t ≡ Some ps → Admits m t → Admits m (struct (fields qs) k) → Admits m (struct (fields (ps ++ qs)) n)
admits_more m (struct fs k') ps qs n k e a b = grind (arith, e, a, b, admits_joined m ps qs, fields_of_pairs fs)
admits_more m t ps qs n k e a b = cc

pub admits_one_more : (m : Meaning) (t u : Tree) (ps : List (List ℕ × Tree)) (name : List ℕ) (n : Nullability) → struct_fields t ≡ Some ps → Admits m t → Admits m u → Admits m (struct (fields (ps ++ (name, u) ∷ [])) n)
admits_one_more m t u ps name n e a b = admits_more m t ps ((name, u) ∷ []) n n e a (b, tt)

-- the same of a list of fields
pub admits_fields_appended : (m : Meaning) (ps : List (List ℕ × Tree)) (name : List ℕ) (u : Tree) → AdmitsItems m (fields ps) → Admits m u → AdmitsItems m (fields (ps ++ (name, u) ∷ []))
admits_fields_appended m ps name u a b = admits_joined m ps ((name, u) ∷ []) a (b, tt)

-- a field of an admitted struct
pub admits_field : (m : Meaning) (ps : List (List ℕ × Tree)) (name : List ℕ) (t : Tree) → AdmitsItems m (fields ps) → first_named ps name ≡ Some t → Admits m t
admits_field m [] name t h e = cc
admits_field m (p ∷ ps) name t h e = grind (arith, admits_field m ps name t h.1, h, e)

-- an extension that a lawful session read over an admitted storage
pub admits_extension : (m : Meaning) (e : ExtDTypeRef) (id b : List ℕ) (s : Tree) → LawfulSession m → Bytes b → Valid s → extension_tree e ≡ extension id (extension_metadata e) s → keeps m id b s ≡ Some (extension_metadata e) → Admits m s → Admits m (tree (Extension e))
admits_extension m e id b s lawful bs v made same a = subst (Admits m) (sym (tree_extension e ∙ made)) ((keeps_again m lawful id b (extension_metadata e) s bs v same).1, a)

-- ---- what calls change, and what they leave alone

-- what was registered stays when another id is registered after it
pub registered_before : (l m n : Meaning) (i j : List ℕ) (r q : Rewrites) → m ≡ register_in i r l → n ≡ register_in j q m → j ≢ i → n.registered i ≡ Some r
registered_before l m n i j r q e f other = others_register_in m n j i q f other ∙ registered_register_in l m i r e

pub unknown_register_in : (m n : Meaning) (i : List ℕ) (r : Rewrites) → n ≡ register_in i r m → n.unknown ≡ m.unknown
unfolding register_in
unknown_register_in m n i r e = ap (λ (s : Meaning). s.unknown) e

pub unknown_kept_after_allowing : (m n : Meaning) → n ≡ allow_unknown_in m → n.unknown ≡ true
unfolding allow_unknown_in
unknown_kept_after_allowing m n e = ap (λ (s : Meaning). s.unknown) e

pub registered_allow_unknown_in : (m n : Meaning) (id : List ℕ) → n ≡ allow_unknown_in m → n.registered id ≡ m.registered id
unfolding allow_unknown_in
registered_allow_unknown_in m n id e = ap (λ (s : Meaning). s.registered id) e

pub registered_empty_meaning : (n : Meaning) (id : List ℕ) → n ≡ empty_meaning → n.registered id ≡ None
unfolding empty_meaning
registered_empty_meaning n id e = ap (λ (s : Meaning). s.registered id) e

-- a session without plugins that keeps unknown ids knows none
pub unregistered_allow_unknown_in : (n : Meaning) (id : List ℕ) → n ≡ allow_unknown_in empty_meaning → n.registered id ≡ None
unfolding allow_unknown_in empty_meaning
unregistered_allow_unknown_in n id e = ap (λ (s : Meaning). s.registered id) e

pub unknown_empty_meaning : (n : Meaning) → n ≡ empty_meaning → n.unknown ≡ false
unfolding empty_meaning
unknown_empty_meaning n e = ap (λ (s : Meaning). s.unknown) e

pub flag_register_in : (m : Meaning) (i : List ℕ) (r : Rewrites) → (register_in i r m).unknown ≡ m.unknown
flag_register_in m i r = unknown_register_in m (register_in i r m) i r refl

pub flag_allow_unknown_in : (m : Meaning) → (allow_unknown_in m).unknown ≡ true
flag_allow_unknown_in m = unknown_kept_after_allowing m (allow_unknown_in m) refl

-- a session without plugins that keeps unknown ids refuses nothing
pub unrefused : (m : Meaning) (id b : List ℕ) (s : Tree) (e : VortexError) → m ≡ allow_unknown_in empty_meaning → SessionError m id b s e → ⊥
unfolding allow_unknown_in empty_meaning
unrefused m id b s e is h = grind arith

-- What calls of a session change and leave alone, what it keeps and what it admits: for callers' proofs. It is all of the
-- topic, since what is kept follows from what is registered; the address of all rulesets has it by question too.
pub ruleset sessions = (registered_register_in, registered_as, others_register_in, registered_before, unknown_register_in, flag_register_in, registered_allow_unknown_in, unknown_kept_after_allowing, flag_allow_unknown_in, registered_empty_meaning, unregistered_allow_unknown_in, unknown_empty_meaning, admits_allow_unknown_in, kept_allow_unknown_in, admits_one_more, admits_more, admits_fields_appended, admits_field, admits_extension, keeps_again, keeps_outer, unrefused)

-- What is registered and allowed after any calls, and what is admitted whatever the outer nullability: for the laws.
pub ruleset session_laws = (after-last, after-left_alone, after-unknown, admits-set_null)
