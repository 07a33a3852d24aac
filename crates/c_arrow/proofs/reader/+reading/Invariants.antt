-- SPDX-License-Identifier: Apache-2.0
-- SPDX-FileCopyrightText: Copyright the Vortex contributors

use Rattle.std.proofs.Common.{◌≡◌, ◌+◌, ◌-◌, ◌*◌, ◌<◌, length}
use Rattle.std.specs.List.{All}
use Rattle.dtype_text.specs.Grammar.{levels}
use Rattle.dtype_types.specs.tree.TreeOf.{tree}
use Rattle.dtype_types.specs.tree.Valid.{Valid}
use Rattle.c_arrow.specs.Read.{inside_at, part_by, times}
use Rattle.c_arrow.specs.Rests.{left, seen}
use Rattle.c_arrow.proofs.Reading.{behind, children_of}
use Rattle.c_arrow.proofs.reader.+reading.Given as goal

abbrev pub decreases-read : goal.decreases-read
decreases-read l = l.place.fields * 12 + 8

abbrev pub decreases-read_extension : goal.decreases-read_extension
decreases-read_extension l = l.place.fields * 12 + 7

abbrev pub decreases-read_storage : goal.decreases-read_storage
decreases-read_storage l = l.place.fields * 12 + 6

abbrev pub decreases-read_dictionary : goal.decreases-read_dictionary
decreases-read_dictionary l = l.place.fields * 12 + 5

abbrev pub decreases-read_values : goal.decreases-read_values
decreases-read_values l = l.place.fields * 12 + 1

abbrev pub decreases-read_value : goal.decreases-read_value
decreases-read_value l = l.place.fields * 12 + 9

abbrev pub decreases-read_format : goal.decreases-read_format
decreases-read_format l = l.place.fields * 12 + 5

abbrev pub decreases-read_child : goal.decreases-read_child
decreases-read_child l = l.place.fields * 12 + 1

abbrev pub decreases-read_part : goal.decreases-read_part
decreases-read_part l = l.place.fields * 12 + 2

abbrev pub decreases-read_inner : goal.decreases-read_inner
decreases-read_inner l = l.place.fields * 12 + 11

abbrev pub decreases-read_seen : goal.decreases-read_seen
decreases-read_seen l = l.place.fields * 12 + 10

abbrev pub decreases-read_named : goal.decreases-read_named
decreases-read_named l = l.place.fields * 12 + 9

abbrev pub decreases-read_list : goal.decreases-read_list
decreases-read_list l = l.place.fields * 12 + 4

abbrev pub decreases-read_fixed : goal.decreases-read_fixed
decreases-read_fixed l = l.place.fields * 12 + 4

abbrev pub decreases-read_struct : goal.decreases-read_struct
decreases-read_struct l = l.place.fields * 12 + 4

abbrev pub decreases-read_union : goal.decreases-read_union
decreases-read_union l = l.place.fields * 12 + 4

abbrev pub decreases-read_children : goal.decreases-read_children
decreases-read_children l = l.place.fields * 12 + 3

abbrev pub decreases-read_map : goal.decreases-read_map
decreases-read_map l = l.place.fields * 12 + 4

abbrev pub decreases-read_inner_map : goal.decreases-read_inner_map
decreases-read_inner_map l = l.place.fields * 12 + 11

abbrev pub decreases-read_seen_entries : goal.decreases-read_seen_entries
decreases-read_seen_entries l = l.place.fields * 12 + 10

abbrev pub decreases-read_entries : goal.decreases-read_entries
decreases-read_entries l = l.place.fields * 12 + 9

abbrev pub decreases-read_run_ends : goal.decreases-read_run_ends
decreases-read_run_ends l = l.place.fields * 12 + 4

-- there are as many names as types, each of which is valid and has few levels; the children so far, and those that are still
-- read, are all that is read
abbrev pub invariant-read_children-loop-at : goal.invariant-read_children-loop-at
invariant-read_children-loop-at l = record {
  read : behind (children_of l.names.items l.dtypes.items) (times (l.wanted - l._at) (part_by (inside_at l.place.fields) (seen l.field) l.place.levels) (left l.rest))
      ≡ times l.wanted (part_by (inside_at l.place.fields) (seen l.field) l.place.levels) (left l.fn.rest);
  counts : length l.names.items ≡ length l.dtypes.items;
  valid : All (λ d. Valid (tree d)) l.dtypes.items;
  levels : All (λ d. levels (tree d) < l.place.levels) l.dtypes.items;
}
