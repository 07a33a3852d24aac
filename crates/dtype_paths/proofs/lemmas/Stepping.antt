-- SPDX-License-Identifier: Apache-2.0
-- SPDX-FileCopyrightText: Copyright the Vortex contributors

-- Lemmas on paths and on masks that are stepped into. For callers' proofs `stepping` names them in one line:
--     #![tactic(auto, using(dtype_paths::proofs::lemmas::Stepping::stepping))]
use Rattle.std.proofs.Common.{◌≡◌, ◌↔◌, ◌⊎◌, ◌≤◌, ◌∙◌, inl, inr, ℕ, List, [], ◌∷◌, ◌++◌, true, false, Some, None, IsTrue, length, refl, sym, ap, subst, arith}
use Rattle.std.proofs.lemmas.Option.{same_Some}
use Rattle.std.specs.Prelude.{bytes_eq}
use Rattle.std.specs.List.{starts_with}
use Rattle.dtype_base.specs.declared.nullability.Nullability.{Nullability}
use Rattle.dtype_types.specs.parts.Lookups.{first_named}
use Rattle.dtype_types.specs.tree.Kinds.{any_size_list_element, kind}
use Rattle.dtype_types.specs.tree.Tree.{Tree, Fields, no_items, field, pairs, list, fixed_size_list, struct, extension, item}
use Rattle.dtype_types.specs.tree.TreeOf.{children, fields_of}
use Rattle.dtype_types.specs.tree.Valid.{Valid, ValidItems}
use Rattle.dtype_types.specs.declared.dtype.kinds.Kind.TheVariants as kinds
use Rattle.dtype_types.specs.declared.struct_fields.StructFields.{StructFields}
use Rattle.dtype_types.proofs.lemmas.TreeLaws.{pairs_of}
use Rattle.dtype_paths.specs.Along.{along}
use Rattle.dtype_paths.specs.At.{At, ExistsIn}
use Rattle.dtype_paths.specs.Beginning.{Beginning}
use Rattle.dtype_paths.specs.Crosses.{CrossesNoExtension, CrossesNoSizeZero}
use Rattle.dtype_paths.specs.Equality.{same_field, same_path}
use Rattle.dtype_paths.specs.EqualityLaws.{same_field-Decides, same_path-Decides}
use Rattle.dtype_paths.specs.In.{In, first_part}
use Rattle.dtype_paths.proofs.lemmas.Beginnings.{begins_nil, root_begins, starts_with-Decides}
use Rattle.dtype_paths.proofs.lemmas.Cases.{by_bool}
use Rattle.dtype_paths.proofs.lemmas.MaskSteps.{first_contained}
use Rattle.dtype_paths.proofs.lemmas.Steps.{step_element, then_some}
use Rattle.dtype_paths.proofs.lemmas.Walks.{along-At, At-along, along_after, none_after, none_further, one_type_at}
use Rattle.dtype_paths.specs.declared.field.Field.{Field}
use Rattle.dtype_paths.specs.declared.field.Field.TheVariants.{Name, ElementType}
use Rattle.dtype_paths.specs.declared.field_mask.FieldMask.{FieldMask}
use Rattle.dtype_paths.specs.declared.field_mask.FieldMask.TheVariants.{All, Prefix, Exact}

At_split : (t u : Tree) (p q : List Field) → At t (p ++ q) u → (x : Tree) × At t p x × At x q u
At_split t u [] q a = (t, refl, a)
At_split t u (f ∷ p) q a = let r = At_split a.0 u p q a.2 in (r.0, (a.0, a.1, r.1), r.2)

pub at_append : (t u x : Tree) (p q : List Field) → At t p x → At x q u → At t (p ++ q) u
at_append t u x [] q a b = subst (λ z. At z q u) (sym a) b
at_append t u x (f ∷ p) q a b = (a.0, a.1, at_append a.0 u x p q a.2 b)

pub at_joined : (t u : Tree) (p q : List Field) → At t (p ++ q) u ↔ ((x : Tree) × At t p x × At x q u)
at_joined t u p q = (At_split t u p q, λ w. at_append t u w.0 p q w.1 w.2)

-- behind a path to a list are its elements
pub at_element : (t u : Tree) (p : List Field) → At t (p ++ ElementType ∷ []) u → (x : Tree) × At t p x × (any_size_list_element x ≡ Some u)
at_element t u p a = grind (arith, At_split, step_element)

pub beginning_exists : (t u : Tree) (p q : List Field) → Beginning p q → At t q u → (x : Tree) × At t p x
beginning_exists t u p q b a = let r = At_split t u p b.0 (subst (λ z. At t z u) b.1 a) in (r.0, r.1)

pub beginning_exists_in : (t : Tree) (p q : List Field) → Beginning p q → ExistsIn t q → ExistsIn t p
beginning_exists_in t p q b e = let r = beginning_exists t e.found p q b e.at in record { found = r.0; at = r.1 }

pub front_exists_in : (t : Tree) (p q : List Field) → ExistsIn t (p ++ q) → ExistsIn t p
front_exists_in t p q e = beginning_exists_in t p (p ++ q) (q, refl) e

pub root_leads : (p : List Field) (t : Tree) → p ≡ [] → At t p t
root_leads p t e = subst (λ r. At t r t) (sym e) refl

pub root_exists_in : (p : List Field) (t : Tree) → p ≡ [] → ExistsIn t p
root_exists_in p t e = record { found = t; at = root_leads p t e }

pub tested_fields : (f g : Field) → IsTrue (same_field f g) → f ≡ g
tested_fields f g e = (same_field-Decides f g).0 e

pub tested_paths : (p q : List Field) → IsTrue (same_path p q) → p ≡ q
tested_paths p q e = (same_path-Decides p q).0 e

-- a path of one name
pub column_along : (t : Tree) (fs : Fields) (n : Nullability) (m : List ℕ) → t ≡ struct fs n → along t (Name m ∷ []) ≡ first_named (pairs fs) m
column_along t fs n m e = ap (λ x. along x (Name m ∷ [])) e ∙ then_some (first_named (pairs fs) m)

-- in a struct it crosses no size 0, and no extension where nothing is along it
name_only : (p q : List Field) (g h : Field) (m : List ℕ) → p ≡ Name m ∷ [] → Beginning (g ∷ h ∷ q) p → ⊥
name_only p q g h m e b = let r : g ∷ h ∷ (q ++ b.0) ≡ Name m ∷ [] = sym b.1 ∙ e in cc

name_whole : (p : List Field) (g : Field) (m : List ℕ) → p ≡ Name m ∷ [] → Beginning (g ∷ []) p → g ∷ [] ≡ p
name_whole p g m e b = let r : g ∷ b.0 ≡ Name m ∷ [] = sym b.1 ∙ e in cc

pub name_no_size_zero : (t : Tree) (p : List Field) (m : List ℕ) → p ≡ Name m ∷ [] → kind t ≡ kinds.Struct → CrossesNoSizeZero t p
name_no_size_zero t p m e is [] x k n b ne a = let c : kinds.FixedSizeList ≡ kinds.Struct = ap kind (sym a) ∙ is in cc
name_no_size_zero t p m e is (g ∷ []) x k n b ne a = absurd (ne (name_whole p g m e b))
name_no_size_zero t p m e is (g ∷ h ∷ q) x k n b ne a = absurd (name_only p q g h m e b)

pub name_no_extension : (t : Tree) (p : List Field) (m : List ℕ) → p ≡ Name m ∷ [] → kind t ≡ kinds.Struct → None ≡ along t p → CrossesNoExtension t p
name_no_extension t p m e is none [] id b s begins a = let c : kinds.Extension ≡ kinds.Struct = ap kind (sym a) ∙ is in cc
name_no_extension t p m e is none (g ∷ []) id b s begins a =
    let x = At-along t p (extension id b s) (subst (λ q. At t q (extension id b s)) (name_whole p g m e begins) a) in cc
name_no_extension t p m e is none (g ∷ h ∷ q) id b s begins a = name_only p q g h m e begins

-- the fields of a struct, by its tree
pub fields_shown : (s : StructFields) → pairs (fields_of s) ≡ children s
fields_shown s = pairs_of (children s)

-- ---- what `resolve` gives

pub given_at : (t u : Tree) (p : List Field) → Some u ≡ along t p → At t p u
given_at t u p e = along-At t p u (sym e)

pub given_exists : (t u : Tree) (p : List Field) → Some u ≡ along t p → ExistsIn t p
given_exists t u p e = record { found = u; at = given_at t u p e }

pub none_at : (t u : Tree) (p : List Field) → None ≡ along t p → At t p u → ⊥
none_at t u p e a = let s = At-along t p u a in cc

pub none_exists : (t : Tree) (p : List Field) → None ≡ along t p → ExistsIn t p → ⊥
none_exists t p e x = none_at t x.found p e x.at

-- by whether a field is the first of a name, or comes before it
pub by_first : {P : Type 0} (n m : List ℕ) (t x : Tree) (fs : Fields) → first_named (pairs (field n t fs)) m ≡ Some x
    → (bytes_eq n m ≡ true → t ≡ x → P) → (bytes_eq n m ≡ false → first_named (pairs fs) m ≡ Some x → P) → P
by_first n m t x fs e here later = by_bool (bytes_eq n m) (λ y. here y (same_Some t x (rw y at e))) (λ y. later y (rw y at e))

pub valid_named : (fs : Fields) (m : List ℕ) (x : Tree) → ValidItems fs → first_named (pairs fs) m ≡ Some x → Valid x
valid_named no_items m x h e = cc
valid_named (item n t _ fs) m x h e = by_first n m t x fs e (λ y is. subst Valid is h.0) (λ y later. valid_named fs m x h.1 later)

pub valid_along : (t : Tree) (p : List Field) (u : Tree) → Valid t → At t p u → Valid u
valid_along t [] u h a = subst Valid a h
valid_along (struct fs n) (Name m ∷ p) u h a = valid_along a.0 p u (valid_named fs m a.0 h a.1) a.2
valid_along (list t n) (ElementType ∷ p) u h a = grind (arith, h, a, valid_along t p u)
valid_along (fixed_size_list t k n) (ElementType ∷ p) u h a = grind (arith, h, a, valid_along t p u)
valid_along _ (_ ∷ p) u h a = cc

pub given_valid : (t u : Tree) (p : List Field) → Some u ≡ along t p → Valid t → Valid u
given_valid t u p e h = valid_along t p u h (given_at t u p e)

-- ---- what a mask selects after a step

-- after a step other than the first of its path a mask selects nothing
other_first : (p q : List Field) (f g h : Field) → f ∷ p ≡ h ∷ q → Some g ≡ Some h → same_field g f ≡ false → ⊥
other_first p q f g h same first other = let e : same_field g f ≡ true = (same_field-Decides g f).1 (cc) in cc

pub other_uncontained : (m : FieldMask) (f g : Field) (q : List Field) → Some g ≡ first_part m → same_field g f ≡ false → In m (f ∷ q) → ⊥
other_uncontained (Prefix (h ∷ p)) f g q first other asked = other_first q (p ++ asked.0) f g h asked.1 first other
other_uncontained (Exact (h ∷ p)) f g q first other asked = other_first q p f g h asked first other
other_uncontained _ f g q first other asked = cc

-- nor does a mask whose path has no step, unless it selects everything
pub none_uncontained : (m : FieldMask) (f : Field) (q : List Field) → None ≡ first_part m → (((r : List Field) → In m r) → ⊥) → In m (f ∷ q) → ⊥
none_uncontained All f q first some asked = some (λ r. tt)
none_uncontained (Prefix []) f q first some asked = some (λ r. (r, refl))
none_uncontained _ f q first some asked = cc

-- a path of one step
pub one_part : (p : List Field) → length p ≡ 1 → (f : Field) × (p ≡ f ∷ [])
one_part (f ∷ []) e = (f, refl)
one_part _ e = absurd (omega (arith, e))

-- The root or one step, by the length. The first part says nothing: it shows a search the call to match.
pub short_path : (p : List Field) → (length p ≡ length p) × (length p ≤ 1 → (p ≡ []) ⊎ ((f : Field) × (p ≡ f ∷ [])))
short_path [] = (refl, λ l. inl refl)
short_path (f ∷ []) = (refl, λ l. inr (f, refl))
short_path (f ∷ g ∷ p) = (refl, λ l. absurd (omega (arith, l)))

pub one_begins : (p q : List Field) (f : Field) → p ≡ f ∷ [] → Beginning p (f ∷ q)
one_begins p q f e = (q, ap (λ r. r ++ q) (sym e))

-- what a slice's `starts_with` tests
pub tested_beginning : (p q : List Field) → IsTrue (starts_with same_field q p) → Beginning p q
tested_beginning p q e = (starts_with-Decides p q (starts_with same_field q p) refl).0 e

pub beginning_tested : (p q : List Field) → Beginning p q → IsTrue (starts_with same_field q p)
beginning_tested p q b = (starts_with-Decides p q (starts_with same_field q p) refl).1 b

-- a mask that selects the root, but not everything
pub root_alone : (m : FieldMask) → In m [] → (((q : List Field) → In m q) → ⊥) → m ≡ Exact []
root_alone All a some = absurd (some (λ q. tt))
root_alone (Prefix p) b some = absurd (some (λ q. root_begins p q (begins_nil p b)))
root_alone (Exact p) e some = ap Exact (sym e)

-- what a mask selects begins with its first step
pub first_begins : (m : FieldMask) (f : Field) (q : List Field) → Some f ≡ first_part m → In m q → Beginning (f ∷ []) q
first_begins (Prefix (h ∷ p)) f q e a = let same = same_Some f h e in (p ++ a.0, a.1 ∙ (λ i. sym same i ∷ (p ++ a.0)))
first_begins (Exact (h ∷ p)) f q e a = let same = same_Some f h e in (p, a ∙ (λ i. sym same i ∷ p))
first_begins _ f q e a = cc

-- all of the topic, where a file steps types and masks at once; by question below
pub ruleset stepping = (given_at, given_exists, fields_shown, given_valid, none_at, none_exists, column_along, name_no_size_zero, name_no_extension, at_append, at_element, beginning_exists_in, front_exists_in, root_begins, root_leads, root_exists_in, tested_fields, tested_paths, one_type_at, along_after, none_after, none_further, first_contained, other_uncontained, none_uncontained, one_part, one_begins, tested_beginning, beginning_tested, root_alone, first_begins)

-- ---- `stepping` by question: among fewer lemmas a search comes further

-- the type along a path, along one that goes on, and along a prefix
pub ruleset types_along = (given_at, given_exists, given_valid, none_at, none_exists, at_append, at_element, beginning_exists_in, front_exists_in, root_leads, root_exists_in, one_type_at, along_after, none_after, none_further)

-- a path of one name in a struct
pub ruleset one_column = (fields_shown, column_along, name_no_size_zero, name_no_extension)

-- paths that are prefixes of others, and what the tests of steps and paths say
pub ruleset beginnings = (root_begins, tested_fields, tested_paths, one_part, short_path, one_begins, tested_beginning, beginning_tested)

-- what a mask selects, after a step too
pub ruleset stepped_masks = (first_contained, other_uncontained, none_uncontained, root_begins, one_begins, tested_fields, tested_beginning, beginning_tested, root_alone, first_begins)
