-- SPDX-License-Identifier: Apache-2.0
-- SPDX-FileCopyrightText: Copyright the Vortex contributors

-- What follows of sets of paths, for callers' proofs. `covering` names all of it in one line:
--     #![tactic(auto, using(dtype_paths::proofs::lemmas::Covering::covering))]
-- The tactics try it whole at each goal that is left, so it is part of the interface.
pub use Rattle.dtype_paths.proofs.lemmas.Beginnings.{root_begins}
pub use Rattle.dtype_paths.proofs.lemmas.CoverPaths.{listed_begun, cover_begun, member_begun, cover_has_first}
pub use Rattle.dtype_paths.proofs.lemmas.Counts.{least_none, none_listed, one_count, listed_len, lent_len, lent_none, some_listed, one_listed, one_least_listed, insert_len, list_len, once_listed, union_len, cover_len, cover_at_most, opened_at_most, cover_none, root_alone_listed}
pub use Rattle.dtype_paths.proofs.lemmas.SetMembers.{insert_has, insert_keeps, insert_only, insert_other, insert_known, insert_again, insert_swap, contains_empty, union_keeps, union_has, union_only, union_none, union_with_none, union_insert, insert_union, union_ended, union_again, union_swap, within_insert, within_union, union_within, of_push, of_append, of_has, of_has_at, of_only, one_only}
pub use Rattle.dtype_paths.proofs.lemmas.SetCovers.{covers_of, covers_none, none_covered, covers_union, union_covered, covers_left, covers_right, covers_member, of_covers_at, covers_below, covers_further, listed_covered, of_covers_below, union_covers_left, union_covers_right, insert_covers, insert_covers_below, insert_covered, covers_least, least_least, least_union_left, least_union_right, least_covered, least_below, least_one, least_root, least_empty, least_same, fewest, root_covers, cover_member, cover_first, cover_apart}

-- all of the topic, where a file asks about unions, coverage and least paths at once: more than a search goes through at
-- a hard goal, which wants a ruleset of its question below
pub ruleset covering = (insert_has, insert_keeps, insert_other, insert_known, insert_again, insert_swap, contains_empty, union_keeps, union_has, union_none, union_with_none, union_insert, union_again, within_insert, within_union, union_within, of_push, of_append, of_has, covers_of, covers_none, covers_union, covers_member, covers_below, insert_covers, insert_covers_below, covers_least, least_least, least_union_left, least_union_right, least_covered, least_below, least_one, least_same, fewest, root_covers, one_count)

-- which paths a set has: after insertions, of a union, of a list
pub ruleset has_members = (insert_has, insert_keeps, insert_only, insert_other, contains_empty, union_keeps, union_has, union_only, of_has_at, of_only, one_only)

-- which paths it covers
pub ruleset covers_members = (of_covers_at, covers_left, covers_right, covers_member, covers_further, covers_least, insert_covers)

-- which paths a set has and covers, one by one; a contract that is an equation of sets proves with `covering`. Both
-- questions together, for a file of lists and sets; one alone is in the two above
pub ruleset members = (has_members, covers_members)

-- of the empty set, and of how many paths are as is said; beside `covering` where a caller counts
pub ruleset counting = (least_none, least_empty, least_root, none_listed, one_count, listed_len, lent_len, lent_none, some_listed, one_listed, one_least_listed)

-- at most how many: of a union, with one path more, of a list; a list that has none twice
pub ruleset count_bounds = (listed_len, lent_len, fewest, cover_len, insert_len, list_len, once_listed, union_len)

-- how many are opened, at most: of a set, of a list; none, or one
pub ruleset opened_counts = (cover_len, cover_at_most, opened_at_most, cover_none, root_alone_listed)

-- the paths that `into_iter` gives, one by one, and the prefixes of those of a list
pub ruleset opened_paths = (listed_begun, cover_begun, member_begun, cover_has_first, cover_member, cover_first, cover_apart, cover_none, root_alone_listed)

-- ---- `covering` by question: among fewer lemmas a search comes further

-- what a set has after insertions
pub ruleset inserted_paths = (insert_has, insert_keeps, insert_other, insert_known, insert_again, insert_swap, contains_empty, within_insert, of_push, of_has)

-- what a union has and covers, and its least paths
pub ruleset set_unions = (union_keeps, union_has, union_none, union_with_none, union_insert, union_again, within_union, union_within, of_append, covers_union, union_covers_left, union_covers_right, least_union_left, least_union_right)

-- what a loop collects that inserts the paths of a set, one after another
pub ruleset collected_paths = (union_insert, insert_union, union_ended)

-- which paths a set covers
pub ruleset covered_paths = (of_has, covers_of, covers_none, covers_union, covers_member, covers_below, insert_covers, insert_covers_below, covers_least, root_covers, union_covers_left, union_covers_right)

-- what a set covers that `new`, `insert` and `from_iter` make, path by path: what its paths are prefixes of
pub ruleset made_coverage = (insert_covers, insert_covered, none_covered, covers_none, listed_covered, of_covers_below, covers_member, root_begins)

-- what a set covers that `extend` makes, path by path: what it covered, and what the other set or the list covers
pub ruleset united_coverage = (union_covered, covers_least, listed_covered, of_covers_below)

-- which paths are least, and how the members lie to them
pub ruleset least_paths = (least_least, least_union_left, least_union_right, least_covered, least_below, least_one, least_same, least_root, least_none, least_empty, fewest, cover_member, cover_first, cover_apart)
