-- SPDX-License-Identifier: Apache-2.0
-- SPDX-FileCopyrightText: Copyright the Vortex contributors

-- The test whether a type can be read as another, as the calls make it: kinds, structs, and what a loop has left.
use Rattle.std.proofs.Common.{◌≡◌, ◌≢◌, ◌∙◌, ◌&&◌, ◌||◌, ℕ, List, [], ◌∷◌, Bool, true, false, Option, if◌then◌else◌, refl, sym, ap}
use Rattle.std.specs.Option.{is_some}
use Rattle.std.specs.Prelude.{◌↔◌, IsTrue}
use Rattle.std.specs.Str.{bytes_eq}
use Rattle.std.proofs.lemmas.Bool.{false≢true}
use Rattle.std.proofs.lemmas.Bool.Decides.{same_from_decides}
use Rattle.std.proofs.lemmas.Slice.Eq.{bytes_eq-Decides}
use Rattle.dtype_base.specs.declared.nullability.Nullability.{Nullability}
use Rattle.dtype_types.specs.declared.dtype.DType.{DType, Struct, Union}
use Rattle.dtype_types.specs.declared.dtype.kinds.Kind.TheVariants as variants
use Rattle.dtype_types.specs.declared.struct_fields.StructFields.{StructFields}
use Rattle.dtype_types.specs.declared.union_variants.UnionVariants.{UnionVariants}
use Rattle.dtype_types.specs.nullability.Nullable.{IsNullable, nullability}
use Rattle.dtype_types.specs.nullability.Sub.{Sub}
use Rattle.dtype_types.specs.parts.Lookups.{field_names, field_types, first_named}
use Rattle.dtype_types.specs.tree.Kinds.{kind}
use Rattle.dtype_types.specs.tree.Tree.{Tree, Fields, fields, pairs, null, list, fixed_size_list, map_of, struct, union, extension}
use Rattle.dtype_types.specs.tree.TreeOf.{children, fields_of, tree, variants_of, with_trees}
use Rattle.dtype_types.proofs.lemmas.TreeLaws.{pairs_of, tree_struct, tree_union}
use Rattle.dtype_merging.specs.MergedColumns.{no_repeats, own_tags}
use Rattle.dtype_merging.specs.ReadsAs.{keyed}
use Rattle.dtype_merging.specs.declared.widening.Widening.{Widening}
use Rattle.dtype_merging.specs.private.Readable.{allowed, beside_readable, found_readable, further_nullable, is_and, is_null_allowed, is_subset, plain_readable, readable, structs_readable, tagged_readable, types_readable}
use Rattle.dtype_merging.proofs.Tagging.{Left, variants_left}
use Rattle.dtype_merging.proofs.lemmas.Deciding.{nulls-Decides, subset-Decides}
use Rattle.dtype_merging.proofs.lemmas.Finding.{Pairs, by_bool}
use Rattle.dtype_merging.proofs.lemmas.Merging.{pick_false, pick_true}

-- ---- types whose parts aren't read one by one

-- what a call tells of the nullability of a type
pub told_nullable : (r : Bool) (t : Tree) → IsTrue r ↔ IsNullable t → r ≡ is_null_allowed (nullability t)
told_nullable r t told = same_from_decides r (is_null_allowed (nullability t)) told (nulls-Decides (nullability t))

-- and whether a type is a subset of another
pub told_subset : (r : Bool) (t u : Tree) → IsTrue r ↔ Sub t u → r ≡ is_subset t u
told_subset r t u told = same_from_decides r (is_subset t u) told (subset-Decides t u)

pub plainly_null : (r : Bool) (t u : Tree) → kind t ≡ variants.Null → IsTrue r ↔ IsNullable u → r ≡ plain_readable t u
plainly_null r null u e told = told_nullable r u told
plainly_null r t u e told = cc

pub plainly_other : (r : Bool) (t u : Tree) → kind t ≢ variants.Null → IsTrue r ↔ Sub t u → r ≡ plain_readable t u
plainly_other r null u ne told = absurd (ne refl)
plainly_other r t u ne told = told_subset r t u told

pub ruleset plainly_testing = (plainly_null, plainly_other)

-- ---- structs

pub structs_tested : (wide : Widening) (d e : DType) (x y : StructFields) (m n : Nullability) → d ≡ Struct x m → e ≡ Struct y n → readable wide (tree d) (tree e) ≡ (allowed m n && structs_readable wide (children x) (children y))
structs_tested wide d e x y m n is_d is_e =
    ap (λ t. readable wide t (tree e)) (ap tree is_d ∙ tree_struct x m) ∙ ap (λ t. readable wide (struct (fields_of x) m) t) (ap tree is_e ∙ tree_struct y n)
    ∙ ap (λ ps. allowed m n && (if no_repeats ps && no_repeats (pairs (fields_of y)) then found_readable wide (fields_of x) (fields_of y) && further_nullable ps (pairs (fields_of y)) else beside_readable wide (fields_of x) (fields_of y))) (pairs_of (children x))
    ∙ ap (λ qs. allowed m n && (if no_repeats (children x) && no_repeats qs then found_readable wide (fields_of x) (fields_of y) && further_nullable (children x) qs else beside_readable wide (fields_of x) (fields_of y))) (pairs_of (children y))

-- ---- unions

pub unions_tested : (wide : Widening) (d e : DType) (x y : UnionVariants) (m n : Nullability) → d ≡ Union x m → e ≡ Union y n → (own_tags (variants_of x) && own_tags (variants_of y)) ≡ true
    → readable wide (tree d) (tree e) ≡ (allowed m n && tagged_readable wide (variants_of x) (keyed (variants_of y)))
unions_tested wide d e x y m n is_d is_e test =
    ap (λ t. readable wide t (tree e)) (ap tree is_d ∙ tree_union x m) ∙ ap (λ t. readable wide (union (variants_of x) m) t) (ap tree is_e ∙ tree_union y n)
    ∙ pick_true (own_tags (variants_of x) && own_tags (variants_of y)) (allowed m n && tagged_readable wide (variants_of x) (keyed (variants_of y))) (is_subset (union (variants_of x) m) (union (variants_of y) n)) test

pub unions_whole : (wide : Widening) (d e : DType) (x y : UnionVariants) (m n : Nullability) (r : Bool) → d ≡ Union x m → e ≡ Union y n → (own_tags (variants_of x) && own_tags (variants_of y)) ≡ false
    → IsTrue r ↔ Sub (tree d) (tree e) → r ≡ readable wide (tree d) (tree e)
unions_whole wide d e x y m n r is_d is_e test told =
    let left = ap tree is_d ∙ tree_union x m in
    let right = ap tree is_e ∙ tree_union y n in
    told_subset r (tree d) (tree e) told ∙ ap (λ t. is_subset t (tree e)) left ∙ ap (λ t. is_subset (union (variants_of x) m) t) right
    ∙ sym (ap (λ t. readable wide t (tree e)) left ∙ ap (λ t. readable wide (union (variants_of x) m) t) right
    ∙ pick_false (own_tags (variants_of x) && own_tags (variants_of y)) (allowed m n && tagged_readable wide (variants_of x) (keyed (variants_of y))) (is_subset (union (variants_of x) m) (union (variants_of y) n)) test)

-- ---- what a loop has left

-- the fields of a struct, each looked up in another
one_found : (wide : Widening) (ps : Pairs) (left rest : List (List ℕ × DType)) (n : List ℕ) (d : DType) (o : Option Tree) (r : Bool) → left ≡ (n, d) ∷ rest → o ≡ first_named ps n → r ≡ is_and (λ u. readable wide (tree d) u) o
    → found_readable wide (fields (with_trees left)) (fields ps) ≡ (r && found_readable wide (fields (with_trees rest)) (fields ps))
one_found wide ps left rest n d o r next found tested =
    ap (λ z. found_readable wide (fields (with_trees z)) (fields ps)) next
    ∙ ap (λ z. is_and (λ u. readable wide (tree d) u) z && found_readable wide (fields (with_trees rest)) (fields ps)) (ap (λ z. first_named z n) (pairs_of ps) ∙ sym found)
    ∙ ap (λ b. b && found_readable wide (fields (with_trees rest)) (fields ps)) (sym tested)

pub found_more : (wide : Widening) (ps : Pairs) (left rest : List (List ℕ × DType)) (n : List ℕ) (d : DType) (o : Option Tree) (r all : Bool) → found_readable wide (fields (with_trees left)) (fields ps) ≡ all
    → left ≡ (n, d) ∷ rest → o ≡ first_named ps n → r ≡ is_and (λ u. readable wide (tree d) u) o → r ≡ true → found_readable wide (fields (with_trees rest)) (fields ps) ≡ all
found_more wide ps left rest n d o r all so_far next found tested e = sym (ap (λ b. b && found_readable wide (fields (with_trees rest)) (fields ps)) e) ∙ sym (one_found wide ps left rest n d o r next found tested) ∙ so_far

pub found_stops : (wide : Widening) (ps : Pairs) (left rest : List (List ℕ × DType)) (n : List ℕ) (d : DType) (o : Option Tree) (r all : Bool) → found_readable wide (fields (with_trees left)) (fields ps) ≡ all
    → left ≡ (n, d) ∷ rest → o ≡ first_named ps n → r ≡ is_and (λ u. readable wide (tree d) u) o → r ≡ false → false ≡ all
found_stops wide ps left rest n d o r all so_far next found tested e = sym (ap (λ b. b && found_readable wide (fields (with_trees rest)) (fields ps)) e) ∙ sym (one_found wide ps left rest n d o r next found tested) ∙ so_far

-- the fields of the second struct
pub further_more : (ps : Pairs) (left rest : List (List ℕ × DType)) (n : List ℕ) (d : DType) (all : Bool) → further_nullable ps (with_trees left) ≡ all → left ≡ (n, d) ∷ rest
    → (is_some (first_named ps n) || is_null_allowed (nullability (tree d))) ≡ true → further_nullable ps (with_trees rest) ≡ all
further_more ps left rest n d all so_far next e = sym (ap (λ b. b && further_nullable ps (with_trees rest)) e) ∙ sym (ap (λ z. further_nullable ps (with_trees z)) next) ∙ so_far

pub further_stops : (ps : Pairs) (left rest : List (List ℕ × DType)) (n : List ℕ) (d : DType) (all : Bool) → further_nullable ps (with_trees left) ≡ all → left ≡ (n, d) ∷ rest
    → (is_some (first_named ps n) || is_null_allowed (nullability (tree d))) ≡ false → false ≡ all
further_stops ps left rest n d all so_far next e = sym (ap (λ b. b && further_nullable ps (with_trees rest)) e) ∙ sym (ap (λ z. further_nullable ps (with_trees z)) next) ∙ so_far

-- the variants of a union, each looked up in another
pub tagged_more : (wide : Widening) (gs : Fields) (left rest : Left) (n : List ℕ) (d : DType) (g : ℕ) (o : Option Tree) (r all : Bool) → tagged_readable wide (variants_left left) gs ≡ all
    → left ≡ (n, (d, g)) ∷ rest → o ≡ first_named (pairs gs) (g ∷ n) → r ≡ is_and (λ u. readable wide (tree d) u) o → r ≡ true → tagged_readable wide (variants_left rest) gs ≡ all
tagged_more wide gs left rest n d g o r all so_far next found tested e =
    sym (ap (λ b. b && tagged_readable wide (variants_left rest) gs) (ap (is_and (λ u. readable wide (tree d) u)) (sym found) ∙ sym tested ∙ e)) ∙ sym (ap (λ z. tagged_readable wide (variants_left z) gs) next) ∙ so_far

pub tagged_stops : (wide : Widening) (gs : Fields) (left rest : Left) (n : List ℕ) (d : DType) (g : ℕ) (o : Option Tree) (r all : Bool) → tagged_readable wide (variants_left left) gs ≡ all
    → left ≡ (n, (d, g)) ∷ rest → o ≡ first_named (pairs gs) (g ∷ n) → r ≡ is_and (λ u. readable wide (tree d) u) o → r ≡ false → false ≡ all
tagged_stops wide gs left rest n d g o r all so_far next found tested e =
    sym (ap (λ b. b && tagged_readable wide (variants_left rest) gs) (ap (is_and (λ u. readable wide (tree d) u)) (sym found) ∙ sym tested ∙ e)) ∙ sym (ap (λ z. tagged_readable wide (variants_left z) gs) next) ∙ so_far

-- ---- fields in order

pub types_done : (wide : Widening) (ts us : List Tree) (all : Bool) → ts ≡ [] → types_readable wide ts us ≡ all → true ≡ all
types_done wide ts us all e so_far = ap (λ z. types_readable wide z us) (sym e) ∙ so_far

pub types_done_too : (wide : Widening) (ts us : List Tree) (all : Bool) → us ≡ [] → types_readable wide ts us ≡ all → true ≡ all
types_done_too wide [] us all e so_far = so_far
types_done_too wide (t ∷ ts) us all e so_far = ap (λ z. types_readable wide (t ∷ ts) z) (sym e) ∙ so_far

pub names_alike : (wide : Widening) (ps qs : Pairs) → field_names ps ≡ field_names qs → beside_readable wide (fields ps) (fields qs) ≡ types_readable wide (field_types ps) (field_types qs)
names_alike wide [] [] e = refl
names_alike wide [] (q ∷ qs) e = cc
names_alike wide (p ∷ ps) [] e = cc
names_alike wide (p ∷ ps) (q ∷ qs) e =
    let name : p.0 ≡ q.0 = cc in
    let rest : field_names ps ≡ field_names qs = cc in
    ap (λ b. b && (readable wide p.1 q.1 && beside_readable wide (fields ps) (fields qs))) ((bytes_eq-Decides p.0 q.0).1 name) ∙ ap (λ b. readable wide p.1 q.1 && b) (names_alike wide ps qs rest)

and_false : (b : Bool) → (b && false) ≡ false
and_false true = refl
and_false false = refl

pub names_apart : (wide : Widening) (ps qs : Pairs) → field_names ps ≢ field_names qs → beside_readable wide (fields ps) (fields qs) ≡ false
names_apart wide [] [] ne = absurd (ne refl)
names_apart wide [] (q ∷ qs) ne = refl
names_apart wide (p ∷ ps) [] ne = refl
names_apart wide (p ∷ ps) (q ∷ qs) ne = by_bool (bytes_eq p.0 q.0)
    (λ same.
    let name = (bytes_eq-Decides p.0 q.0).0 same in
    let rest : field_names ps ≢ field_names qs = λ e. ne (ap (λ n. n ∷ field_names ps) name ∙ ap (λ ns. q.0 ∷ ns) e) in
    ap (λ b. b && (readable wide p.1 q.1 && beside_readable wide (fields ps) (fields qs))) same ∙ ap (λ b. readable wide p.1 q.1 && b) (names_apart wide ps qs rest) ∙ and_false (readable wide p.1 q.1))
    (λ other. ap (λ b. b && (readable wide p.1 q.1 && beside_readable wide (fields ps) (fields qs))) other)
