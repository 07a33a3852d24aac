-- SPDX-License-Identifier: Apache-2.0
-- SPDX-FileCopyrightText: Copyright the Vortex contributors

-- `!=` of types, of their parts and of messages, and `==` and `!=` of borrowed types that may be missing.
use Rattle.std.proofs.Common.{◌≡◌, ◌≢◌, Bool, not, Decides, Option, Some, None, Bor, refl, ap}
use Rattle.std.proofs.lemmas.Bool.{false≢true}
use Rattle.std.proofs.lemmas.Bool.Decides.{Decides-at, Decides-like, Decides-not}
use Rattle.std.proofs.lemmas.Option.{same_Some}
use Rattle.std.specs.Option.{option_eq}
use Rattle.dtype_messages.specs.MessageOf.{message}
use Rattle.dtype_messages.specs.PathNames.{part_name, part_names}
use Rattle.dtype_messages.specs.contracts.pb.DTypePartialEq.TheImpl as message_eq
use Rattle.dtype_messages.specs.contracts.pb.FieldPartialEq.TheImpl as part_eq
use Rattle.dtype_messages.specs.contracts.pb.FieldPathPartialEq.TheImpl as path_eq
use Rattle.dtype_messages.specs.declared.pb.DType.{DType as TypeMessage}
use Rattle.dtype_messages.specs.declared.pb.Field.{Field as PathPart}
use Rattle.dtype_messages.specs.declared.pb.FieldPath.{FieldPath as PathMessage}
use Rattle.dtype_messages.proofs.lemmas.Equality.{dtype_Decides, part_Decides, path_Decides}
use Rattle.dtype_types.specs.equality.Equality.{same_by, same_items_by, same_map_by}
use Rattle.dtype_types.specs.parts.FieldTypes.{field_tree}
use Rattle.dtype_types.specs.tree.TreeOf.{children, extension_tree, map_shown, shown, fields_of, tree, variants_of, variant_list}
use Rattle.dtype_types.specs.declared.dtype.DType.{DType}
use Rattle.dtype_types.specs.declared.extension.ExtDTypeRef.{ExtDTypeRef}
use Rattle.dtype_types.specs.declared.field_dtype.FieldDType.{FieldDType}
use Rattle.dtype_types.specs.declared.map.MapDType.{MapDType}
use Rattle.dtype_types.specs.declared.struct_fields.StructFields.{StructFields}
use Rattle.dtype_types.specs.declared.union_variants.UnionVariants.{UnionVariants}
use Rattle.dtype_types.proofs.lemmas.Equality.{structs_Decides, unions_Decides, maps_Decides, extensions_Decides, field_types_Decides}
use Rattle.dtype_types.specs.equality.EqualityLaws.{equal_under-Decides}

-- ---- types and their parts

pub types_differ : (a b : DType) → Decides (not (same_by tree a b)) (tree a ≢ tree b)
types_differ a b = Decides-not (same_by tree a b) (equal_under-Decides (tree a) (tree b))

pub structs_differ : (a b : StructFields) → Decides (not (same_items_by fields_of a b)) (children a ≢ children b)
structs_differ a b = Decides-not (same_items_by fields_of a b) (structs_Decides a b)

pub unions_differ : (a b : UnionVariants) → Decides (not (same_items_by variants_of a b)) (variant_list a ≢ variant_list b)
unions_differ a b = Decides-not (same_items_by variants_of a b) (unions_Decides a b)

pub maps_differ : (a b : MapDType) → Decides (not (same_map_by map_shown a b)) (map_shown a ≢ map_shown b)
maps_differ a b = Decides-not (same_map_by map_shown a b) (maps_Decides a b)

pub extensions_differ : (a b : ExtDTypeRef) → Decides (not (same_by extension_tree a b)) (extension_tree a ≢ extension_tree b)
extensions_differ a b = Decides-not (same_by extension_tree a b) (extensions_Decides a b)

pub field_types_differ : (a b : FieldDType) → Decides (not (same_by field_tree a b)) (field_tree a ≢ field_tree b)
field_types_differ a b = Decides-not (same_by field_tree a b) (field_types_Decides a b)

-- ---- messages

pub messages_differ : (a b : TypeMessage) → Decides (not (message_eq.ghosts.eq a b)) (message a ≢ message b)
messages_differ a b = Decides-not (message_eq.ghosts.eq a b) (dtype_Decides a b)

pub path_messages_differ : (a b : PathMessage) → Decides (not (path_eq.ghosts.eq a b)) (part_names a ≢ part_names b)
path_messages_differ a b = Decides-not (path_eq.ghosts.eq a b) (path_Decides a b)

pub parts_differ : (a b : PathPart) → Decides (not (part_eq.ghosts.eq a b)) (part_name a ≢ part_name b)
parts_differ a b = Decides-not (part_eq.ghosts.eq a b) (part_Decides a b)

-- ---- borrowed types that may be missing, by any test that is theirs: a search can't match the test in the contract of
-- `Option`'s `==`, which names an impl, with the definition of `DType`'s

pub lent_alike : (f : Bor DType → Bor DType → Bool) (a b : Option (Bor DType)) → ((x y : Bor DType) → f x y ≡ same_by tree x.now y.now) → Decides (option_eq f a b) (shown tree a ≡ shown tree b)
lent_alike f None None h = (λ e. refl, λ e. refl)
lent_alike f (Some x) (Some y) h = Decides-like _ (ap Some) (same_Some _ _) (Decides-at _ _ (h x y) (equal_under-Decides (tree x.now) (tree y.now)))
lent_alike f _ _ h = (λ e. absurd (false≢true e), λ e. cc)

pub lent_differ : (f : Bor DType → Bor DType → Bool) (a b : Option (Bor DType)) → ((x y : Bor DType) → f x y ≡ same_by tree x.now y.now) → Decides (not (option_eq f a b)) (shown tree a ≢ shown tree b)
lent_differ f a b h = Decides-not (option_eq f a b) (lent_alike f a b h)

pub ruleset differences = (types_differ, structs_differ, unions_differ, maps_differ, extensions_differ, field_types_differ, messages_differ, path_messages_differ, parts_differ, lent_alike, lent_differ)
