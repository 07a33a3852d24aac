-- SPDX-License-Identifier: Apache-2.0
-- SPDX-FileCopyrightText: Copyright the Vortex contributors

-- The rulesets from which a caller chooses, one for each topic. A line at the top of a file names those that its contracts
-- need, and `#[tactic(..)]` names those of one function:
--     #![tactic(auto, using(vortex_dtype::proofs::rulesets::lookups, vortex_dtype::proofs::rulesets::structs))]
-- First come those for a topic each, then smaller rulesets and single lemmas: a search among few lemmas goes further, so one
-- of these proves some functions for which the whole ruleset of a topic doesn't. The lemmas are proved in the crate whose
-- definitions they are about.

-- of dtype_base: primitive and decimal types
pub use Rattle.dtype_base.proofs.lemmas.Decimals.{decimals}
pub use Rattle.dtype_base.proofs.lemmas.Primitives.{primitives}
-- of dtype_types: what is made of fields, values, their order, and validity
pub use Rattle.dtype_types.proofs.lemmas.JoinedFields.{joined_fields}
pub use Rattle.dtype_types.proofs.lemmas.MadeOf.{made_of}
pub use Rattle.dtype_types.proofs.lemmas.NullValues.{null_values}
pub use Rattle.dtype_types.proofs.lemmas.Order.{order}
pub use Rattle.dtype_types.proofs.lemmas.Validity.{validity}
-- of dtype_paths and dtype_projection: path sets, how many paths they have and how two are related, sets, paths and masks that are stepped
-- along (one step of a type too), the paths that a type lacks, and types that are projected
pub use Rattle.dtype_paths.proofs.lemmas.Covering.{count_bounds, counting, covering, members}
pub use Rattle.dtype_paths.proofs.lemmas.LentPaths.{lent_paths}
pub use Rattle.dtype_paths.proofs.lemmas.MaskLists.{mask_lists}
pub use Rattle.dtype_paths.proofs.lemmas.PathsBelow.{set_cursors, walked_cursors}
pub use Rattle.dtype_paths.proofs.lemmas.SetRelations.{set_relations}
pub use Rattle.dtype_paths.proofs.lemmas.Stepping.{stepped_masks, stepping, types_along}
pub use Rattle.dtype_paths.proofs.lemmas.Unresolved.{unresolved_paths}
pub use Rattle.dtype_projection.proofs.lemmas.Projecting.{projecting, projecting_one}
-- of dtype_merging: which types can be read as which, and what two types are merged to by columns
pub use Rattle.dtype_merging.proofs.lemmas.MergedColumns.{merging_columns}
-- of vortex_dtype: sessions; and what callers of the crates below need and their own proofs don't: names that are among
-- the names of fields, also each of many, fields that a contract names one after another, counts, and values at a path at
-- which there is no type
pub use Rattle.vortex_dtype.proofs.lemmas.Sessions.{sessions}
pub use Rattle.vortex_dtype.proofs.lemmas.NamesAmong.{among}
pub use Rattle.vortex_dtype.proofs.lemmas.EachAmong.{each_among}
pub use Rattle.vortex_dtype.proofs.lemmas.FieldLists.{listed_fields}
pub use Rattle.vortex_dtype.proofs.lemmas.Counted.{counted}
pub use Rattle.vortex_dtype.proofs.lemmas.Unfound.{unfound_values}
-- ---- smaller rulesets, and single lemmas
-- sets of paths: parts of `covering`, `members` and `counting`
pub use Rattle.dtype_paths.proofs.lemmas.Covering.{collected_paths, covered_paths, covers_members, has_members, inserted_paths, least_paths, made_coverage, opened_counts, opened_paths, set_unions, united_coverage}
-- cursors, paths of one name, and single steps
pub use Rattle.dtype_paths.proofs.lemmas.PathsBelow.{stepping_into}
pub use Rattle.dtype_paths.proofs.lemmas.Stepping.{one_column}
pub use Rattle.dtype_paths.proofs.lemmas.Steps.{one_step}
-- the columns of a type, by their names and as paths of one step
pub use Rattle.vortex_dtype.proofs.lemmas.ColumnPaths.{column_paths}
-- two lists side by side
pub use Rattle.vortex_dtype.proofs.lemmas.Zipped.{zipped}
-- what a loop has collected in a list, and loops that go from a type to a part of it
pub use Rattle.vortex_dtype.proofs.lemmas.Collected.{collected}
pub use Rattle.vortex_dtype.proofs.lemmas.Smaller.{smaller_parts}
-- the ids of a session, each of many
pub use Rattle.vortex_dtype.proofs.lemmas.EachRegistered.{each_registered}
-- several types that a loop merges by columns, and what they are merged to up to a position
pub use Rattle.vortex_dtype.proofs.lemmas.MergedSoFar.{merged_so_far}
-- several types that a loop merges by nullability
pub use Rattle.vortex_dtype.proofs.lemmas.MergedAll.{merging_all}
-- a type and a cursor that are stepped together, and its lemmas one by one, for answers that a caller writes
pub use Rattle.dtype_projection.proofs.lemmas.Descending.{descending, opened_after, opened_nowhere, opened_uncontained}
-- single lemmas, each for the line of one function: the set of paths that a loop has collected, and how many names a lookup
-- compares
pub use Rattle.dtype_base.proofs.lemmas.Lookups.{few_compared}
pub use Rattle.dtype_paths.proofs.lemmas.Covering.{of_push}
-- the variants of a type that is a union, and that a tag is at one position
pub use Rattle.vortex_dtype.proofs.lemmas.Unions.{tag_at_one, union_listed}
-- a union in the other order: beside `covering` a search would turn it back and forth
pub use Rattle.dtype_paths.proofs.lemmas.Covering.{union_swap}
-- a table can be read as its copy, for an answer that a caller writes
pub use Rattle.vortex_dtype.proofs.lemmas.Chosen.{reads_copy}
-- types that are subsets of each other are equal: beside `order` a search would go from `Sub` to `Sub`
pub use Rattle.dtype_types.proofs.lemmas.Order.{sub_antisymmetric}
-- ---- what the rulesets below are made of
use Rattle.dtype_base.proofs.lemmas.BinaryDigits.{digits_fewest, digits_reach}
use Rattle.dtype_base.proofs.lemmas.Lookups.{lookups as name_lookups, found_compared, most_compared, absent_of_place, first_of_place, found_first, no_place, none_absent, place_found, place_of_first}
use Rattle.dtype_merging.proofs.lemmas.AllMerged.{all_least, all_none, all_valid}
use Rattle.dtype_messages.proofs.lemmas.Equality.{equality as message_equality, dtype_Decides}
use Rattle.dtype_messages.proofs.lemmas.Names.{names}
use Rattle.dtype_messages.proofs.lemmas.Numbers.{numbers}
use Rattle.dtype_paths.proofs.lemmas.Stepping.{beginnings as prefixes}
use Rattle.dtype_projection.proofs.lemmas.Above.{above}
use Rattle.dtype_types.proofs.lemmas.DistinctFields.{distinct_fields as fields_distinct}
use Rattle.dtype_types.proofs.lemmas.Equality.{equality as type_equality}
use Rattle.dtype_types.proofs.lemmas.Lookups.{lookups as field_lookups}
use Rattle.dtype_types.proofs.lemmas.Merging.{intersecting as types_intersected, merging as types_merged}
use Rattle.dtype_types.proofs.lemmas.Nullabilities.{nullabilities as nullabilities_set, set_is, set_keeps}
use Rattle.dtype_types.proofs.lemmas.Presence.{presence as names_present, placed_is_among}
use Rattle.dtype_types.proofs.lemmas.Structs.{structs as fields_of_structs}
use Rattle.dtype_types.proofs.lemmas.Tags.{tags as union_tags}
use Rattle.dtype_types.proofs.lemmas.ValidParts.{struct_fields_valid, valid_parts, borrowed_list_element, borrowed_fixed_size_element, borrowed_any_size_element, owned_list_element, owned_fixed_size_element, owned_any_size_element, borrowed_map, owned_map, borrowed_struct, owned_struct, borrowed_union, owned_union, extension_is_valid, borrowed_extension}
use Rattle.dtype_types.proofs.lemmas.Validity.{set_valid, types_in_valid_parts, list_of_valid, fixed_size_list_of_valid, map_of_valid, struct_valid, union_valid, map_valid, extension_valid, field_valid, named_field_valid, variant_valid, named_variant_valid, struct_of_valid, removal_valid, made_map_valid}
use Rattle.vortex_dtype.proofs.lemmas.AddedColumns.{named_last, projects_one, unplaced_unnamed}
use Rattle.vortex_dtype.proofs.lemmas.Collected.{each_pushed, more_taken, moved}
use Rattle.vortex_dtype.proofs.lemmas.Compared.{compared_up_to, compared_within}
use Rattle.vortex_dtype.proofs.lemmas.Differences.{differences}
use Rattle.vortex_dtype.proofs.lemmas.FieldLists.{valid_fields}
use Rattle.vortex_dtype.proofs.lemmas.Chosen.{unwidened_has, unwidened_in_one, unwidened_lack, unwidened_values, widened_has, widened_in_one, widened_lack, widened_values}
use Rattle.vortex_dtype.proofs.lemmas.InOrder.{read_reads, reads_once, reads_read}
use Rattle.vortex_dtype.proofs.lemmas.Intersected.{given_values_of_both, values_of_both}
use Rattle.vortex_dtype.proofs.lemmas.NamesAmong.{among_before, among_behind, distinct_removed, few_variants, removed_not_among, some_variants, tag_at_is_among, unnamed_not_among, unplaced_not_among}
use Rattle.vortex_dtype.proofs.lemmas.PathMessages.{missing_part, no_path, path_root, path_steps, same_path_names, steps_by_names}
use Rattle.vortex_dtype.proofs.lemmas.Prefixes.{begins_first, first_begins}
use Rattle.vortex_dtype.proofs.lemmas.Reading.{reading}
use Rattle.vortex_dtype.proofs.lemmas.Reads.{copy_accepted, fault_none, fault_refused, known_ids, normal_again, other_nullability, read_alike, reads_accepted, refused_faulty, same_normal, unread_refused, written_accepted, written_normal, written_read}
use Rattle.vortex_dtype.proofs.lemmas.Registered.{keeps_nothing, keeps_other, keeps_registered, keeps_unknown, keeps_unless_unknown}
use Rattle.vortex_dtype.proofs.lemmas.Sessions.{admits-set_null, admits_allow_unknown_in, admits_extension, admits_field, admits_fields_appended, admits_more, admits_one_more, flag_allow_unknown_in, flag_register_in, kept_allow_unknown_in, keeps_again, keeps_outer, others_register_in, registered_allow_unknown_in, registered_before, registered_empty_meaning, registered_register_in, unknown_empty_meaning, unknown_kept_after_allowing, unknown_register_in, unrefused, unregistered_allow_unknown_in}
use Rattle.vortex_dtype.proofs.lemmas.Widened.{merged_nullable}
use Rattle.vortex_dtype.proofs.lemmas.Written.{written_is}

-- the fields of a struct, also of one that is projected to one name
pub ruleset structs = (fields_of_structs, projects_one)

-- where a name leads: where names are distinct, where a field is removed, and where one is added at the end
pub ruleset distinct_fields = (fields_distinct, named_last, unplaced_unnamed)

-- a nullability that is set on a whole type, which stays valid
pub ruleset nullabilities = (nullabilities_set, set_valid)

-- Types that are merged and types that are intersected, and the paths in them. Each is of one piece: all its lemmas begin
-- with the one type that a call gives, of which a caller asks at once where it is given, what it is below and its values.
pub ruleset merging = (types_merged, above, merged_nullable)

pub ruleset intersecting = (types_intersected, above, values_of_both, given_values_of_both)

-- whether a name is there, also that it isn't
pub ruleset presence = (names_present, unplaced_not_among, unnamed_not_among)

-- names that don't repeat, where fields are joined or one is removed: where a name that is among them leads, that it is
-- gone, and that the others still don't repeat
pub ruleset distinct_names = (among_before, among_behind, distinct_removed, removed_not_among, unplaced_not_among)

-- tags: which are among those of a union, where a name has one; how many variants a valid union has; and the variants of a
-- type that is a union
pub ruleset tags = (union_tags, tag_at_is_among, tag_at_one, placed_is_among, unplaced_not_among, some_variants, few_variants, union_listed)

-- Lookups of names, fields and variants, by name and by position, and how many names they compare. Each lemma begins with
-- a position or a number that the call returns, so few of them match at a goal.
pub ruleset lookups = (name_lookups, field_lookups, compared_within, compared_up_to)

-- how many names a lookup compares
pub ruleset compared_names = (few_compared, most_compared, found_compared, digits_reach, digits_fewest, compared_within, compared_up_to)

-- `==` and `!=` of types, of their parts, and of messages, where a file compares several of these
pub ruleset equality = (type_equality, message_equality, differences)

-- messages that are read and written, the numbers of primitive types in them, and the names of a path's parts, where a file
-- reads what it writes
pub ruleset messages = (reading, numbers, names)

pub ruleset read_messages = (read_reads, reads_read, refused_faulty, fault_refused, unread_refused, fault_none, known_ids, reads_once, reads_accepted, read_alike, copy_accepted)

pub ruleset written_messages = (written_read, written_accepted, written_normal, written_is, same_normal, normal_again, other_nullability, dtype_Decides)

-- that a path is a prefix of another, also that it begins with a step
pub ruleset beginnings = (prefixes, first_begins, begins_first)

pub ruleset path_messages = (steps_by_names, path_steps, path_root, same_path_names, no_path, missing_part, names)

-- `sessions` by question: what is registered and allowed; what is kept; what is admitted
pub ruleset registrations = (registered_register_in, others_register_in, registered_before, unknown_register_in, flag_register_in, registered_allow_unknown_in, unknown_kept_after_allowing, flag_allow_unknown_in, registered_empty_meaning, unregistered_allow_unknown_in, unknown_empty_meaning)

pub ruleset keeping = (keeps_registered, keeps_other, keeps_nothing, keeps_unknown, keeps_unless_unknown, kept_allow_unknown_in, keeps_again, keeps_outer, unrefused)

pub ruleset admitting = (admits_allow_unknown_in, admits_one_more, admits_more, admits_fields_appended, admits_field, admits_extension, admits-set_null)

-- ---- smaller rulesets

-- which paths exist in a type to which others were merged by columns
pub ruleset merged_paths = (unwidened_lack, unwidened_has, unwidened_in_one, widened_lack, widened_has, widened_in_one)

-- several types that were merged by columns
pub ruleset all_merged = (all_least, all_none, all_valid, unwidened_values, widened_values)

-- what is found, and where
pub ruleset found_names = (place_of_first, no_place, place_found, first_of_place, absent_of_place, found_first, none_absent, field_lookups)

-- `==` of types and of their parts
pub ruleset equal_types = (type_equality)

-- `==` of messages
pub ruleset equal_messages = (message_equality)

-- `!=` of types and of messages
pub ruleset unequal = (differences)

-- what is borrowed from a valid type
pub ruleset valid_held = (valid_parts, borrowed_list_element, borrowed_fixed_size_element, borrowed_any_size_element, borrowed_map, borrowed_struct, borrowed_union, borrowed_extension, extension_is_valid)

-- what is moved out of a valid type
pub ruleset valid_moved = (owned_list_element, owned_fixed_size_element, owned_any_size_element, owned_map, owned_struct, owned_union)

-- the types of the fields and variants of a valid type
pub ruleset valid_columns = (types_in_valid_parts, struct_fields_valid, borrowed_struct, field_valid, named_field_valid, variant_valid, named_variant_valid)

-- what is made of valid types
pub ruleset valid_made = (list_of_valid, fixed_size_list_of_valid, map_of_valid, struct_valid, union_valid, map_valid, extension_valid, struct_of_valid, removal_valid, set_valid, made_map_valid, valid_fields)

-- the types that a loop has collected, each with a nullability that was set
pub ruleset set_collected = (set_is, set_keeps, each_pushed, more_taken, moved)
