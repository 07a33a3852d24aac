-- SPDX-License-Identifier: Apache-2.0
-- SPDX-FileCopyrightText: Copyright the Vortex contributors

-- The derived `==` of messages: two types are equal exactly where their trees are, two structs of one kind where their
-- fields are (the children by their trees), and two paths where they hold the same names. One line names `equality`:
--     #![tactic(auto, using(dtype_messages::proofs::lemmas::Equality::equality))]
--
-- For each derive the checker generates an equation (`Laws.is`): `==` is its test, one layer deep. The proofs go by
-- these equations and by recursion over the first message, whose constructors (`List'`, `Held-..`, `Row_of-..`) are
-- generated too; `out-List` opens a message by one layer.
use Rattle.std.specs.Prelude.{◌≡◌, ℕ, ℤ, List, [], ◌∷◌, ◌&&◌, map, Option, Some, None, option_map, unwrap_or, Bool as Flag, false, refl, nat_eq}
use Rattle.std.specs.Bool.{Decides}
use Rattle.std.specs.Option.{option_eq}
use Rattle.std.specs.Ordering.{int_eq}
use Rattle.std.specs.String.{string_bytes, string_eq}
use Rattle.std.specs.Cmp.{booleans_Decides, unsigned_Decides, signed_Decides}
use Rattle.std.specs.Cmp.Lexicographic.{pointwise}
use Rattle.std.specs.declared.string.String.{String}
use Rattle.std.specs.declared.vec.Vec.{Vec}
use Rattle.std.specs.declared.alloc.Global.{Global}
use Rattle.std.proofs.Common.{ap, sym, ◌∙◌, rules, subst₂}
use Rattle.std.proofs.lemmas.Bool.{false≢true}
use Rattle.std.proofs.lemmas.Bool.Decides.{Decides-and, Decides-like}
use Rattle.std.proofs.lemmas.Slice.Eq.{bytes_eq-Decides, slice_eq-Decides}
use Rattle.dtype_messages.specs.Message.{Message, messages, missing, bool, primitive, decimal, utf8, binary, list, fixed_size_list, map_of, struct, union, variant, extension, present, more}
use Rattle.dtype_messages.specs.MessageOf.{message, kind_message, child_message, list_content, fixed_content, map_content, struct_content, union_content, extension_content, texts, bytes_of, ListOf, FixedOf, MapOf, StructContent, UnionOf, ExtensionOf, kind_step, dtype_step, extension_step, fixed_step, list_step, map_step, struct_step, union_step}
use Rattle.dtype_messages.specs.PathNames.{name_of, part_name, part_names}
use Rattle.dtype_messages.specs.declared.pb.DType.{DType}
use Rattle.dtype_messages.specs.declared.pb.DtypeType.{DtypeType, out-DtypeType, map-DtypeType, fold_out-DtypeType, the_lemmas}
use Rattle.dtype_messages.specs.declared.pb.DtypeType as kind
use Rattle.dtype_messages.specs.declared.pb.List.{List as ListMessage, List', out-List}
use Rattle.dtype_messages.specs.declared.pb.FixedSizeList.{FixedSizeList as FixedMessage, FixedSizeList', out-FixedSizeList}
use Rattle.dtype_messages.specs.declared.pb.Map.{Map as MapMessage, Map', out-Map}
use Rattle.dtype_messages.specs.declared.pb.Struct.{Struct as StructMessage, Struct', out-Struct, Held-DType-dtype_type, DType-dtype_type-None', DType-dtype_type-Some', view-DType-dtype_type, back-DType-dtype_type, views-DType-dtype_type, Row_of-DType, end_of-DType, more_of-DType, items-the_row-DType, items_shown-the_row-DType-0}
use Rattle.dtype_messages.specs.declared.pb.Union.{Union as UnionMessage, Union', out-Union}
use Rattle.dtype_messages.specs.declared.pb.Extension.{Extension as ExtensionMessage, Extension', out-Extension, Held-Extension-storage_dtype, Extension-storage_dtype-None', Extension-storage_dtype-Some', view-Extension-storage_dtype}
use Rattle.dtype_messages.specs.contracts.pb.DTypePartialEq.TheImpl as dtype_eq
use Rattle.dtype_messages.specs.contracts.pb.DtypeTypePartialEq.TheImpl as kind_eq
use Rattle.dtype_messages.specs.contracts.pb.ListPartialEq.TheImpl as list_eq
use Rattle.dtype_messages.specs.contracts.pb.FixedSizeListPartialEq.TheImpl as fixed_eq
use Rattle.dtype_messages.specs.contracts.pb.MapPartialEq.TheImpl as map_eq
use Rattle.dtype_messages.specs.contracts.pb.StructPartialEq.TheImpl as struct_eq
use Rattle.dtype_messages.specs.contracts.pb.UnionPartialEq.TheImpl as union_eq
use Rattle.dtype_messages.specs.contracts.pb.ExtensionPartialEq.TheImpl as extension_eq
use Rattle.dtype_messages.specs.contracts.pb.FieldTypePartialEq.TheImpl as name_eq
use Rattle.dtype_messages.specs.contracts.pb.FieldPartialEq.TheImpl as part_eq
use Rattle.dtype_messages.specs.contracts.pb.FieldPathPartialEq.TheImpl as path_eq
use Rattle.dtype_messages.specs.declared.pb.Field.{Field}
use Rattle.dtype_messages.specs.declared.pb.FieldPath.{FieldPath}
use Rattle.dtype_messages.specs.declared.pb.FieldType.{FieldType}
use Rattle.dtype_messages.specs.declared.pb.FieldType.TheVariants.{Name}
use mathlib.Core.Former.{Count}
use denote.Hole.Carrier

-- ---- tests of pairs, lists and options

Decides-rewritten : {A : Type 0} {r t : Flag} {x y u v : A} → Decides t (u ≡ v) → r ≡ t → x ≡ u → y ≡ v → Decides r (x ≡ y)
Decides-rewritten d e p q = (λ is. p ∙ d.0 (sym e ∙ is) ∙ sym q, λ is. e ∙ d.1 (sym p ∙ is ∙ q))

Decides-different : {A : Type 0} {x y : A} → (x ≡ y → ⊥) → Decides false (x ≡ y)
Decides-different h = (λ e. absurd (false≢true e), λ e. absurd (h e))

pair_equal : {A B : Type 0} (p q : A × B) → p.0 ≡ q.0 → p.1 ≡ q.1 → p ≡ q
pair_equal p q e f i = (e i, f i)

triple_equal : {A B C : Type 0} (p q : A × B × C) → p.0 ≡ q.0 → p.1 ≡ q.1 → p.2 ≡ q.2 → p ≡ q
triple_equal p q e f g i = (e i, f i, g i)

quadruple_equal : {A B C D : Type 0} (p q : A × B × C × D) → p.0 ≡ q.0 → p.1 ≡ q.1 → p.2 ≡ q.2 → p.3 ≡ q.3 → p ≡ q
quadruple_equal p q e f g h i = (e i, f i, g i, h i)

pair_Decides : {A B : Type 0} {r s : Flag} {x y : A} {u v : B} → Decides r (x ≡ y) → Decides s (u ≡ v) → Decides (r && s) (◌≡◌ {A = A × B} (x, u) (y, v))
pair_Decides {r = r} {s = s} d k = Decides-like (r && s) (λ h i. (h.0 i, h.1 i)) (λ e. (λ i. (e i).0, λ i. (e i).1)) (Decides-and r s d k)

triple_Decides : {A B C : Type 0} {r s t : Flag} {x y : A} {u v : B} {a b : C} → Decides r (x ≡ y) → Decides s (u ≡ v) → Decides t (a ≡ b) → Decides (r && (s && t)) (◌≡◌ {A = A × B × C} (x, u, a) (y, v, b))
triple_Decides {r = r} {s = s} {t = t} d k l = Decides-like (r && (s && t)) (λ h i. (h.0 i, (h.1 i).0, (h.1 i).1)) (λ e. (λ i. (e i).0, λ i. ((e i).1, (e i).2))) (Decides-and r (s && t) d (pair_Decides k l))

quadruple_Decides : {A B C D : Type 0} {r s t w : Flag} {x y : A} {u v : B} {a b : C} {c d : D} → Decides r (x ≡ y) → Decides s (u ≡ v) → Decides t (a ≡ b) → Decides w (c ≡ d) → Decides (r && (s && (t && w))) (◌≡◌ {A = A × B × C × D} (x, u, a, c) (y, v, b, d))
quadruple_Decides {r = r} {s = s} {t = t} {w = w} d k l m = Decides-like (r && (s && (t && w))) (λ h i. (h.0 i, (h.1 i).0, (h.1 i).1, (h.1 i).2)) (λ e. (λ i. (e i).0, λ i. ((e i).1, (e i).2, (e i).3))) (Decides-and r (s && (t && w)) d (triple_Decides k l m))

module _ {X A : Type 0} {E : X → X → Flag} {f : X → A} (same : (x y : X) → Decides (E x y) (f x ≡ f y)) where
  items_Decides : (xs ys : List X) → Decides (pointwise E xs ys) (map f xs ≡ map f ys)
  items_Decides [] [] = (λ _. refl, λ _. refl)
  items_Decides (x ∷ xs) (y ∷ ys) = Decides-like _ (λ h i. h.0 i ∷ h.1 i) (λ e. (cc, cc)) (Decides-and _ _ (same x y) (items_Decides xs ys))
  items_Decides _ _ = Decides-different (λ e. cc)

  option_Decides : (p q : Option X) → Decides (option_eq E p q) (option_map f p ≡ option_map f q)
  option_Decides None None = (λ _. refl, λ _. refl)
  option_Decides (Some x) (Some y) = Decides-like _ (ap Some) (λ e. cc) (same x y)
  option_Decides _ _ = Decides-different (λ e. cc)

texts_Decides : (xs ys : List (String Global)) → Decides (pointwise string_eq xs ys) (texts xs ≡ texts ys)
texts_Decides = items_Decides (λ x y. bytes_eq-Decides (string_bytes x) (string_bytes y))

bytes_Decides : (p q : Option (Vec ℕ Global)) → Decides (option_eq (λ x y. pointwise nat_eq x.items y.items) p q) (bytes_of p ≡ bytes_of q)
bytes_Decides = option_Decides (λ x y. bytes_eq-Decides x.items y.items)

tags_Decides : (gs hs : List ℤ) → Decides (pointwise int_eq gs hs) (gs ≡ hs)
tags_Decides gs hs = slice_eq-Decides signed_Decides gs hs (pointwise int_eq gs hs) refl

-- ---- trees by one layer

abbrev one_layer : DtypeType → Message
one_layer k = kind_step (map-DtypeType DtypeType DType ExtensionMessage FixedMessage ListMessage MapMessage StructMessage UnionMessage Message Message ExtensionOf FixedOf ListOf MapOf StructContent UnionOf kind_message message extension_content fixed_content list_content map_content struct_content union_content (out-DtypeType k))

kind_message-one_layer : (k : DtypeType) → kind_message k ≡ one_layer k
kind_message-one_layer = fold_out-DtypeType Message Message ExtensionOf FixedOf ListOf MapOf StructContent UnionOf kind_step dtype_step extension_step fixed_step list_step map_step struct_step union_step

one_layer-not_missing : (k : DtypeType) → missing ≡ one_layer k → ⊥
unfolding out-DtypeType Carrier.out
one_layer-not_missing (kind.Null x) e = cc
one_layer-not_missing k e = cc

kind_message-not_missing : (k : DtypeType) → missing ≡ kind_message k → ⊥
kind_message-not_missing k e = one_layer-not_missing k (e ∙ kind_message-one_layer k)

-- ---- types

abbrev IsEqual : Option DtypeType → Option DtypeType → Type 0
IsEqual p q = Decides (dtype_eq.ghosts.eq (record { dtype_type = p }) (record { dtype_type = q })) (message (record { dtype_type = p }) ≡ message (record { dtype_type = q }))

abbrev AreEqual : List DType → List DType → Type 0
AreEqual xs ys = Decides (pointwise dtype_eq.ghosts.eq xs ys) (messages (map message xs) ≡ messages (map message ys))

lists_rewritten : {xs ys us vs : List DType} → xs ≡ us → ys ≡ vs → AreEqual us vs → AreEqual xs ys
lists_rewritten p q = subst₂ AreEqual (sym p) (sym q)

message-one_layer : (d : DType) → message d ≡ unwrap_or (option_map kind_message d.dtype_type) missing
message-one_layer d = search (rules, the_lemmas)

from_one_layer : (j k : DtypeType) → Decides (kind_eq.Laws.unfolded j k) (one_layer j ≡ one_layer k) → Decides (kind_eq.ghosts.eq j k) (kind_message j ≡ kind_message k)
from_one_layer j k d = Decides-rewritten d (kind_eq.Laws.is j k) (kind_message-one_layer j) (kind_message-one_layer k)

mutual
  unfolding out-DtypeType out-List out-FixedSizeList out-Map out-Struct out-Union out-Extension Carrier.out

  one_layer_Decides : (j k : DtypeType) → Decides (kind_eq.Laws.unfolded j k) (one_layer j ≡ one_layer k)
  one_layer_Decides (kind.Null x) (kind.Null y) = (λ _. refl, λ _. refl)
  one_layer_Decides (kind.Bool x) (kind.Bool y) = Decides-like _ (ap bool) (λ e. cc) (booleans_Decides x.nullable y.nullable)
  one_layer_Decides (kind.Utf8 x) (kind.Utf8 y) = Decides-like _ (ap utf8) (λ e. cc) (booleans_Decides x.nullable y.nullable)
  one_layer_Decides (kind.Binary x) (kind.Binary y) = Decides-like _ (ap binary) (λ e. cc) (booleans_Decides x.nullable y.nullable)
  one_layer_Decides (kind.Variant x) (kind.Variant y) = Decides-like _ (ap variant) (λ e. cc) (booleans_Decides x.nullable y.nullable)
  one_layer_Decides (kind.Primitive x) (kind.Primitive y) = Decides-like _ (ap (λ (p : ℤ × Flag). primitive p.0 p.1)) (λ e. cc) (pair_Decides (signed_Decides x.ptype y.ptype) (booleans_Decides x.nullable y.nullable))
  one_layer_Decides (kind.Decimal x) (kind.Decimal y) = Decides-like _ (ap (λ (p : ℕ × ℤ × Flag). decimal p.0 p.1 p.2)) (λ e. cc) (triple_Decides (unsigned_Decides x.precision y.precision) (signed_Decides x.scale y.scale) (booleans_Decides x.nullable y.nullable))
  one_layer_Decides (kind.List' b x) (kind.List' c y) = Decides-like _ (ap (λ (p : ListOf). list p.0 p.1)) (λ e. pair_equal (list_content x) (list_content y) (cc) (cc)) (list_Decides x y)
  one_layer_Decides (kind.FixedSizeList' b x) (kind.FixedSizeList' c y) = Decides-like _ (ap (λ (p : FixedOf). fixed_size_list p.0 p.1 p.2)) (λ e. triple_equal (fixed_content x) (fixed_content y) (cc) (cc) (cc)) (fixed_Decides x y)
  one_layer_Decides (kind.Map' b x) (kind.Map' c y) = Decides-like _ (ap (λ (p : MapOf). map_of p.0 p.1 p.2 p.3)) (λ e. quadruple_equal (map_content x) (map_content y) (cc) (cc) (cc) (cc)) (map_Decides x y)
  one_layer_Decides (kind.Struct x) (kind.Struct y) = Decides-like _ (ap (λ (p : StructContent). struct p.0 p.1 p.2)) (λ e. triple_equal (struct_content x) (struct_content y) (cc) (cc) (cc)) (struct_Decides x y)
  one_layer_Decides (kind.Union x) (kind.Union y) = Decides-like _ (ap (λ (p : UnionOf). union p.0 p.1 p.2 p.3)) (λ e. quadruple_equal (union_content x) (union_content y) (cc) (cc) (cc) (cc)) (union_Decides x y)
  one_layer_Decides (kind.Extension' b x) (kind.Extension' c y) = Decides-like _ (ap (λ (p : ExtensionOf). extension p.0 p.1 p.2)) (λ e. triple_equal (extension_content x) (extension_content y) (cc) (cc) (cc)) (extension_Decides x y)
  one_layer_Decides j k = Decides-different (λ e. cc)

  pub list_Decides : (x y : ListMessage) → Decides (list_eq.ghosts.eq x y) (list_content x ≡ list_content y)
  list_Decides (List' h f) (List' g e) = Decides-rewritten (pair_Decides (child_Decides h g) (booleans_Decides f e)) (list_eq.Laws.is _ _) (search (rules, the_lemmas)) (search (rules, the_lemmas))

  pub fixed_Decides : (x y : FixedMessage) → Decides (fixed_eq.ghosts.eq x y) (fixed_content x ≡ fixed_content y)
  fixed_Decides (FixedSizeList' h n f) (FixedSizeList' g m e) = Decides-rewritten (triple_Decides (child_Decides h g) (unsigned_Decides n m) (booleans_Decides f e)) (fixed_eq.Laws.is _ _) (search (rules, the_lemmas)) (search (rules, the_lemmas))

  pub map_Decides : (x y : MapMessage) → Decides (map_eq.ghosts.eq x y) (map_content x ≡ map_content y)
  map_Decides (Map' h v s f) (Map' g w t e) = Decides-rewritten (quadruple_Decides (child_Decides h g) (child_Decides v w) (booleans_Decides s t) (booleans_Decides f e)) (map_eq.Laws.is _ _) (search (rules, the_lemmas)) (search (rules, the_lemmas))

  pub struct_Decides : (x y : StructMessage) → Decides (struct_eq.ghosts.eq x y) (struct_content x ≡ struct_content y)
  struct_Decides (Struct' ns a r f) (Struct' os b s e) = Decides-rewritten (triple_Decides (texts_Decides ns.items os.items) (lists_rewritten (items_shown-the_row-DType-0 a r) (items_shown-the_row-DType-0 b s) (children_Decides r s)) (booleans_Decides f e)) (struct_eq.Laws.is _ _) (search (rules, the_lemmas)) (search (rules, the_lemmas))

  pub union_Decides : (x y : UnionMessage) → Decides (union_eq.ghosts.eq x y) (union_content x ≡ union_content y)
  union_Decides (Union' ns a r gs f) (Union' os b s hs e) = Decides-rewritten (quadruple_Decides (texts_Decides ns.items os.items) (lists_rewritten (items_shown-the_row-DType-0 a r) (items_shown-the_row-DType-0 b s) (children_Decides r s)) (tags_Decides gs.items hs.items) (booleans_Decides f e)) (union_eq.Laws.is _ _) (search (rules, the_lemmas)) (search (rules, the_lemmas))

  pub extension_Decides : (x y : ExtensionMessage) → Decides (extension_eq.ghosts.eq x y) (extension_content x ≡ extension_content y)
  extension_Decides (Extension' i h b) (Extension' j g c) = Decides-rewritten (triple_Decides (bytes_eq-Decides (string_bytes i) (string_bytes j)) (child_Decides h g) (bytes_Decides b c)) (extension_eq.Laws.is _ _) (search (rules, the_lemmas)) (search (rules, the_lemmas))

  child_Decides : (h g : Held-Extension-storage_dtype) → Decides (option_eq (λ a b. dtype_eq.ghosts.eq a.value b.value) (view-Extension-storage_dtype h) (view-Extension-storage_dtype g)) (child_message (view-Extension-storage_dtype h) ≡ child_message (view-Extension-storage_dtype g))
  child_Decides Extension-storage_dtype-None' Extension-storage_dtype-None' = (λ _. refl, λ _. refl)
  child_Decides (Extension-storage_dtype-Some' b x) (Extension-storage_dtype-Some' c y) = Decides-like _ (ap present) (λ e. cc) (option_kind_Decides x y)
  child_Decides _ _ = Decides-different (λ e. cc)

  children_Decides : {m n : Count} (r : Row_of-DType m) (s : Row_of-DType n) → AreEqual (items-the_row-DType m r) (items-the_row-DType n s)
  children_Decides end_of-DType end_of-DType = (λ _. refl, λ _. refl)
  children_Decides (more_of-DType x r) (more_of-DType y s) = Decides-like _ (λ h i. more (h.0 i) (h.1 i)) (λ e. (cc, cc)) (Decides-and _ _ (option_kind_Decides x y) (children_Decides r s))
  children_Decides _ _ = Decides-different (λ e. cc)

  option_kind_Decides : (h g : Held-DType-dtype_type) → IsEqual (view-DType-dtype_type h) (view-DType-dtype_type g)
  option_kind_Decides DType-dtype_type-None' DType-dtype_type-None' = Decides-rewritten (λ _. refl, λ _. refl) (dtype_eq.Laws.is _ _) (message-one_layer _) (message-one_layer _)
  option_kind_Decides DType-dtype_type-None' (DType-dtype_type-Some' k) = Decides-rewritten (Decides-different (kind_message-not_missing k)) (dtype_eq.Laws.is _ _) (message-one_layer _) (message-one_layer _)
  option_kind_Decides (DType-dtype_type-Some' j) DType-dtype_type-None' = Decides-rewritten (Decides-different (λ e. kind_message-not_missing j (sym e))) (dtype_eq.Laws.is _ _) (message-one_layer _) (message-one_layer _)
  option_kind_Decides (DType-dtype_type-Some' j) (DType-dtype_type-Some' k) = Decides-rewritten (from_one_layer j k (one_layer_Decides j k)) (dtype_eq.Laws.is _ _) (message-one_layer _) (message-one_layer _)

pub kind_Decides : (j k : DtypeType) → Decides (kind_eq.ghosts.eq j k) (kind_message j ≡ kind_message k)
kind_Decides j k = from_one_layer j k (one_layer_Decides j k)

pub dtype_Decides : (a b : DType) → Decides (dtype_eq.ghosts.eq a b) (message a ≡ message b)
dtype_Decides a b =
    subst₂ IsEqual (views-DType-dtype_type a.dtype_type) (views-DType-dtype_type b.dtype_type) (option_kind_Decides (back-DType-dtype_type a.dtype_type) (back-DType-dtype_type b.dtype_type))

-- ---- paths

pub name_Decides : (a b : FieldType) → Decides (name_eq.ghosts.eq a b) (name_of a ≡ name_of b)
name_Decides (Name x) (Name y) = bytes_eq-Decides (string_bytes x) (string_bytes y)

pub part_Decides : (a b : Field) → Decides (part_eq.ghosts.eq a b) (part_name a ≡ part_name b)
part_Decides a b = option_Decides name_Decides a.field_type b.field_type

pub path_Decides : (a b : FieldPath) → Decides (path_eq.ghosts.eq a b) (part_names a ≡ part_names b)
path_Decides a b = items_Decides part_Decides a.path.items b.path.items

pub ruleset equality = (dtype_Decides, kind_Decides, list_Decides, fixed_Decides, map_Decides, struct_Decides, union_Decides, extension_Decides, name_Decides, part_Decides, path_Decides)
