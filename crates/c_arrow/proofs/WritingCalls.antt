-- SPDX-License-Identifier: Apache-2.0
-- SPDX-FileCopyrightText: Copyright the Vortex contributors

-- What the writer's functions return, by what the functions return that they call.
use Rattle.std.proofs.Common.{◌≡◌, ℕ, Bool, true, false, List, [], ◌∷◌, length, codes, Option, None, Result, Ok, Err, refl, sym, ap, subst, ◌∙◌, rules}
use Rattle.std.specs.Prelude.{if◌then◌else◌}
use Rattle.dtype_base.specs.declared.nullability.Nullability.{Nullability}
use Rattle.dtype_types.proofs.lemmas.TreeLaws.{tree_struct, tree_map, tree_union, tree_extension, triples_variants}
use Rattle.dtype_types.specs.declared.dtype.DType.{DType, List as ListOf, FixedSizeList, Map, Struct, Union, Variant, Extension, fold_out-DType, fold-roll-DType, the_lemmas}
use Rattle.dtype_types.specs.declared.extension.ExtDTypeRef.{ExtDTypeRef}
use Rattle.dtype_types.specs.declared.map.MapDType.{MapDType}
use Rattle.dtype_types.specs.declared.struct_fields.StructFields.{StructFields}
use Rattle.dtype_types.specs.declared.union_variants.UnionVariants.{UnionVariants}
use Rattle.dtype_types.specs.parts.Lookups.{variant_tags}
use Rattle.dtype_types.specs.tree.Tree.{Tree, fields, variants, triples, list, fixed_size_list, map_of, struct, union, variant}
use Rattle.dtype_types.specs.tree.TreeOf.{tree, children, extension_tree, fields_of, map_shown, variant_list, variants_of, with_trees, with_tagged_trees}
use Rattle.std.specs.Iterator.{YieldsFirstBy}
use Rattle.std.specs.declared.alloc.Global.{Global}
use Rattle.std.specs.declared.boxed.Box.{Box}
use Rattle.c_arrow.specs.Added.{Out, Writes, with_node, with_field, with_fields}
use Rattle.c_arrow.specs.Faults.{Fault, ◌>>=◌, Stops}
use Rattle.c_arrow.specs.FormatsWritten.{checked_nul, fixed_size_format, union_format}
use Rattle.c_arrow.specs.Schema.{Schema, Schemas}
use Rattle.c_arrow.specs.Write.{Label, called, no_type, nullable_flag, parent, none, before, are_bytes, bytes_field, fixed_field, named, child_of, children_of, field_of}
use Rattle.c_arrow.specs.declared.fault.ArrowFault.{ArrowFault}
use Rattle.c_arrow.specs.declared.fault.Problem.TheVariants as problem
use Rattle.c_arrow.proofs.Writing.{Counts, fields_count, variants_count, parent_added, one_added, none_added, first_stops, first_added, before_stops, named_ok}

-- ---- kinds

pub tree_list : (b : Box DType Global) (n : Nullability) → tree (ListOf b n) ≡ list (tree b.value) n
tree_list b n = search (rules, the_lemmas, fold_out-DType, fold-roll-DType)

pub tree_fixed : (b : Box DType Global) (k : ℕ) (n : Nullability) → tree (FixedSizeList b k n) ≡ fixed_size_list (tree b.value) k n
tree_fixed b k n = search (rules, the_lemmas, fold_out-DType, fold-roll-DType)

pub tree_variant : (n : Nullability) → tree (Variant n) ≡ variant n
tree_variant n = search (rules, the_lemmas, fold_out-DType, fold-roll-DType)

module _ (levels : ℕ) (label : Label) (d : DType) where
  pub map_kind : (m : MapDType) (n : Nullability) → d ≡ Map m n → field_of levels label (map_of (map_shown m).0 (map_shown m).1 (map_shown m).2 n) ≡ field_of levels label (tree d)
  map_kind m n e = sym (ap (λ x. field_of levels label (tree x)) e ∙ ap (field_of levels label) (tree_map m n))

  pub fixed_kind : (b : Box DType Global) (k : ℕ) (n : Nullability) (element : DType) → d ≡ FixedSizeList b k n → element ≡ b.value → field_of levels label (fixed_size_list (tree element) k n) ≡ field_of levels label (tree d)
  fixed_kind b k n element e item = ap (λ (x : DType). field_of levels label (fixed_size_list (tree x) k n)) item ∙ sym (ap (λ x. field_of levels label (tree x)) e ∙ ap (field_of levels label) (tree_fixed b k n))

  pub struct_kind : (s : StructFields) (n : Nullability) → d ≡ Struct s n → field_of levels label (struct (fields_of s) n) ≡ field_of levels label (tree d)
  struct_kind s n e = sym (ap (λ x. field_of levels label (tree x)) e ∙ ap (field_of levels label) (tree_struct s n))

  pub union_kind : (u : UnionVariants) (n : Nullability) → d ≡ Union u n → field_of levels label (union (variants_of u) n) ≡ field_of levels label (tree d)
  union_kind u n e = sym (ap (λ x. field_of levels label (tree x)) e ∙ ap (field_of levels label) (tree_union u n))

  pub extension_kind : (x : ExtDTypeRef) → d ≡ Extension x → field_of levels label (extension_tree x) ≡ field_of levels label (tree d)
  extension_kind x e = sym (ap (λ y. field_of levels label (tree y)) e ∙ ap (field_of levels label) (tree_extension x))

pub ruleset kinds = (map_kind, struct_kind, union_kind, extension_kind)

-- ---- values

abbrev value_of : Out → Result Out Fault → Out
value_of o (Ok p) = p
value_of o (Err e) = o

abbrev ok : Out → Result Out Fault
ok o = Ok o

is_value : (o p : Out) → ok o ≡ ok p → o ≡ p
is_value o p e = ap (value_of o) e

-- ---- fields with children

module _ (result : Result Unit ArrowFault) (after middle start : Out) where
  -- a node, and then its children
  pub parent_written : (format given : List ℕ) (flags flag : ℕ) (label : Label) (fs : Result Schemas Fault) (n count : ℕ) → given ≡ format → flag ≡ flags → count ≡ n → Counts n fs → ok (with_node given flag label count start) ≡ ok middle → Writes result after (with_fields fs middle) → Writes result after (with_field (parent format flags label fs) start)
  parent_written format given flags flag label fs n count f g c counts node rest =
      let at : with_node format flags label n start ≡ middle =
      sym (ap (λ x. with_node x flag label count start) f ∙ ap (λ (x : ℕ). with_node format x label count start) g ∙ ap (λ (x : ℕ). with_node format flags label x start) c) ∙ is_value _ _ node in
      subst (Writes result after) (sym (parent_added format flags label fs n start counts ∙ ap (with_fields fs) at)) rest

  one_written : (format given : List ℕ) (flags flag : ℕ) (label : Label) (c : Result Schema Fault) → given ≡ format → flag ≡ flags → ok (with_node given flag label 1 start) ≡ ok middle → Writes result after (with_field c middle) → Writes result after (with_field (parent format flags label (before c none)) start)
  one_written format given flags flag label c f g node rest =
      let at : with_node format flags label 1 start ≡ middle =
      sym (ap (λ x. with_node x flag label 1 start) f ∙ ap (λ (x : ℕ). with_node format x label 1 start) g) ∙ is_value _ _ node in
      subst (Writes result after) (sym (one_added format flags label c start ∙ ap (with_field c) at)) rest

  module _ (levels : ℕ) (label : Label) (d : DType) (b : Box DType Global) (n : Nullability) (flag : ℕ) (element : DType) where
    pub list_written : d ≡ ListOf b n → flag ≡ nullable_flag n → element ≡ b.value → ok (with_node (codes "+l") flag label 1 start) ≡ ok middle → Writes result after (with_field (child_of levels (codes "item") (tree element)) middle) → Writes result after (with_field (field_of levels label (tree d)) start)
    list_written is flags item node rest =
        subst (λ t. Writes result after (with_field (field_of levels label t) start)) (sym (ap tree is ∙ tree_list b n))
        (one_written (codes "+l") (codes "+l") (nullable_flag n) flag label (child_of levels (codes "item") (tree b.value)) refl flags node
        (subst (λ (x : DType). Writes result after (with_field (child_of levels (codes "item") (tree x)) middle)) item rest))

  module _ (levels : ℕ) (label : Label) (t : Tree) (k : ℕ) (n : Nullability) where
    abbrev as_list : Result Schema Fault
    as_list = fixed_field label (child_of levels (codes "item") t) k n

    by : Bool → Result Schema Fault
    by c = if c then bytes_field levels label k n else as_list

    pub bytes_written : (c : Bool) → c ≡ are_bytes label t → c ≡ true → Writes result after (with_field (bytes_field levels label k n) start) → Writes result after (with_field (field_of levels label (fixed_size_list t k n)) start)
    unfolding by
    bytes_written c is test rest = subst (λ (f : Result Schema Fault). Writes result after (with_field f start)) (ap by (sym test ∙ is)) rest

    pub fixed_written : (c : Bool) (flag : ℕ) (format given : List ℕ) → c ≡ are_bytes label t → c ≡ false → fixed_size_format k ≡ Ok format → given ≡ format → flag ≡ nullable_flag n → ok (with_node given flag label 1 start) ≡ ok middle → Writes result after (with_field (child_of levels (codes "item") t) middle) → Writes result after (with_field (field_of levels label (fixed_size_list t k n)) start)
    unfolding by
    fixed_written c flag format given is test made same flags node rest =
        subst (λ (f : Result Schema Fault). Writes result after (with_field f start)) (ap by (sym test ∙ is))
        (subst (λ (r : Result (List ℕ) Fault). Writes result after (with_field (r >>= λ f. parent f (nullable_flag n) label (before (child_of levels (codes "item") t) none)) start)) (sym made)
        (one_written format given (nullable_flag n) flag label (child_of levels (codes "item") t) same flags node rest))

  module _ (levels : ℕ) (label : Label) (n : Nullability) (flag count : ℕ) where
    pub struct_written : (s : StructFields) → flag ≡ nullable_flag n → count ≡ length (children s) → ok (with_node (codes "+s") flag label count start) ≡ ok middle → Writes result after (with_fields (children_of levels (fields_of s)) middle) → Writes result after (with_field (field_of levels label (struct (fields_of s) n)) start)
    struct_written s flags counted node rest =
        parent_written (codes "+s") (codes "+s") (nullable_flag n) flag label (children_of levels (fields_of s)) (length (children s)) count refl flags counted (fields_count levels (children s)) node rest

    pub union_written : (u : UnionVariants) (tags format given : List ℕ) → tags ≡ variant_tags (variant_list u) → union_format tags ≡ Ok format → given ≡ format → flag ≡ nullable_flag n → count ≡ length (variant_list u) → ok (with_node given flag label count start) ≡ ok middle → Writes result after (with_fields (children_of levels (variants_of u)) middle) → Writes result after (with_field (field_of levels label (union (variants_of u) n)) start)
    union_written u tags format given are made same flags counted node rest =
        let all : union_format (variant_tags (triples (variants_of u))) ≡ Ok format = ap union_format (ap variant_tags (triples_variants (variant_list u)) ∙ sym are) ∙ made in
        subst (λ (r : Result (List ℕ) Fault). Writes result after (with_field (r >>= λ f. parent f (nullable_flag n) label (children_of levels (variants_of u))) start)) (sym all)
        (parent_written format given (nullable_flag n) flag label (children_of levels (variants_of u)) (length (variant_list u)) count same flags counted (variants_count levels (variant_list u)) node rest)

  pub named_written : (levels : ℕ) (name : List ℕ) (t : Tree) (label : Label) (u : Unit {0}) → checked_nul name ≡ Ok u → label ≡ called name → Writes result after (with_field (field_of levels label t) start) → Writes result after (with_field (named name (field_of levels (called name) t)) start)
  named_written levels name t label u checked is rest =
      subst (λ (f : Result Schema Fault). Writes result after (with_field f start)) (sym (named_ok name u (field_of levels (called name) t) checked))
      (subst (λ (l : Label). Writes result after (with_field (field_of levels l t) start)) is rest)

-- ---- faults

module _ (levels : ℕ) (label : Label) (o : Out) where
  pub variant_refused : (d : DType) (n : Nullability) → d ≡ Variant n → with_field (field_of levels label (tree d)) o ≡ Err (no_type problem.Variant)
  unfolding with_field
  variant_refused d n is = ap (λ t. with_field (field_of levels label t) o) (ap tree is ∙ tree_variant n)

  pub fixed_stops : (e : ArrowFault) (c : Bool) (t : Tree) (k : ℕ) (n : Nullability) → c ≡ are_bytes label t → c ≡ false → Stops e (fixed_size_format k) → Stops e (with_field (field_of levels label (fixed_size_list t k n)) o)
  fixed_stops e c t k n is test h =
      let element = child_of levels (codes "item") t in
      subst (λ (f : Result Schema Fault). Stops e (with_field f o)) (ap (λ (x : Bool). if x then bytes_field levels label k n else fixed_field label element k n) (sym test ∙ is))
      (before_stops e (fixed_size_format k) (λ f. parent f (nullable_flag n) label (before element none)) o h)

  pub union_stops : (e : ArrowFault) (u : UnionVariants) (n : Nullability) (tags : List ℕ) → tags ≡ variant_tags (variant_list u) → Stops e (union_format tags) → Stops e (with_field (field_of levels label (union (variants_of u) n)) o)
  union_stops e u n tags are h =
      before_stops e (union_format (variant_tags (triples (variants_of u)))) _ o
      (subst (λ gs. Stops e (union_format gs)) (are ∙ sym (ap variant_tags (triples_variants (variant_list u)))) h)

-- ---- loops

-- an iterator that returns none has nothing left
pub none_left : {Item X : Type 0} (lent : Item → X) (s t : List X) (r : Option Item) → r ≡ None → YieldsFirstBy lent (λ left. left) s r t → s ≡ []
none_left lent s t r is h = (subst (λ o. YieldsFirstBy lent (λ left. left) s o t) is h).0

module _ (levels : ℕ) (o : Out) (total : Result Out Fault) (given name : List ℕ) (d : DType) (named : given ≡ name) where
  module _ (items rest : List (List ℕ × DType)) (next : items ≡ (name, d) ∷ rest) (so_far : with_fields (children_of levels (fields (with_trees items))) o ≡ total) where
    first : with_fields (before (child_of levels given (tree d)) (children_of levels (fields (with_trees rest)))) o ≡ total
    first = ap (λ x. with_fields (before (child_of levels x (tree d)) (children_of levels (fields (with_trees rest)))) o) named ∙ sym (ap (λ xs. with_fields (children_of levels (fields (with_trees xs))) o) next) ∙ so_far

    pub fields_stop : (e : ArrowFault) → Stops e (with_field (child_of levels given (tree d)) o) → Stops e total
    fields_stop e h = first_stops levels given (tree d) (children_of levels (fields (with_trees rest))) o total e h first

    pub fields_more : (mid : Out) → with_field (child_of levels given (tree d)) o ≡ Ok mid → with_fields (children_of levels (fields (with_trees rest))) mid ≡ total
    fields_more mid h = first_added levels given (tree d) (children_of levels (fields (with_trees rest))) o total mid h first

  module _ (g : ℕ) (items rest : List (List ℕ × (DType × ℕ))) (next : items ≡ (name, (d, g)) ∷ rest) (so_far : with_fields (children_of levels (variants (with_tagged_trees items))) o ≡ total) where
    first_variant : with_fields (before (child_of levels given (tree d)) (children_of levels (variants (with_tagged_trees rest)))) o ≡ total
    first_variant = ap (λ x. with_fields (before (child_of levels x (tree d)) (children_of levels (variants (with_tagged_trees rest)))) o) named ∙ sym (ap (λ xs. with_fields (children_of levels (variants (with_tagged_trees xs))) o) next) ∙ so_far

    pub variants_stop : (e : ArrowFault) → Stops e (with_field (child_of levels given (tree d)) o) → Stops e total
    variants_stop e h = first_stops levels given (tree d) (children_of levels (variants (with_tagged_trees rest))) o total e h first_variant

    pub variants_more : (mid : Out) → with_field (child_of levels given (tree d)) o ≡ Ok mid → with_fields (children_of levels (variants (with_tagged_trees rest))) mid ≡ total
    variants_more mid h = first_added levels given (tree d) (children_of levels (variants (with_tagged_trees rest))) o total mid h first_variant

pub fields_end : (levels : ℕ) (o : Out) (total : Result Out Fault) (items : List (List ℕ × DType)) → items ≡ [] → with_fields (children_of levels (fields (with_trees items))) o ≡ total → total ≡ Ok o
fields_end levels o total items is so_far = sym so_far ∙ ap (λ xs. with_fields (children_of levels (fields (with_trees xs))) o) is ∙ none_added o

pub variants_end : (levels : ℕ) (o : Out) (total : Result Out Fault) (items : List (List ℕ × (DType × ℕ))) → items ≡ [] → with_fields (children_of levels (variants (with_tagged_trees items))) o ≡ total → total ≡ Ok o
variants_end levels o total items is so_far = sym so_far ∙ ap (λ xs. with_fields (children_of levels (variants (with_tagged_trees xs))) o) is ∙ none_added o
