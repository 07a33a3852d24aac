-- SPDX-License-Identifier: Apache-2.0
-- SPDX-FileCopyrightText: Copyright the Vortex contributors

use Rattle.std.proofs.Common.{◌≡◌, ◌+◌, ◌-◌, ◌*◌, length}
use Rattle.dtype_text.specs.Types.{part_at, field_by, variant_by, separated}
use Rattle.dtype_text.specs.Views.{field_pairs, read_variants}
use Rattle.dtype_text.proofs.Loops.{behind}
use Rattle.dtype_text.proofs.reader.+reading.Given as goal

abbrev pub decreases-dtype : goal.decreases-dtype
decreases-dtype l = l.levels * 12 + 9

abbrev pub decreases-word : goal.decreases-word
decreases-word l = l.levels * 12 + 8

abbrev pub decreases-after_word : goal.decreases-after_word
decreases-after_word l = l.levels * 12 + 5

abbrev pub decreases-list : goal.decreases-list
decreases-list l = l.levels * 12 + 3

abbrev pub decreases-fixed : goal.decreases-fixed
decreases-fixed l = l.levels * 12 + 3

abbrev pub decreases-wrapped : goal.decreases-wrapped
decreases-wrapped l = l.levels * 12 + 2

abbrev pub decreases-structure : goal.decreases-structure
decreases-structure l = l.levels * 12 + 5

abbrev pub decreases-fields : goal.decreases-fields
decreases-fields l = l.levels * 12 + 4

abbrev pub decreases-field : goal.decreases-field
decreases-field l = l.levels * 12 + 2

abbrev pub decreases-part : goal.decreases-part
decreases-part l = l.levels * 12 + 0

abbrev pub decreases-some_fields : goal.decreases-some_fields
decreases-some_fields l = l.levels * 12 + 3

abbrev pub invariant-some_fields-loop : goal.invariant-some_fields-loop
invariant-some_fields-loop l = behind (field_pairs l.fields.items) (separated 125 (field_by (part_at l.levels)) (length l.bytes - l.counter) l.rest)
    ≡ separated 125 (field_by (part_at l.levels)) (length l.bytes) l.bytes

abbrev pub decreases-bare_extension : goal.decreases-bare_extension
decreases-bare_extension l = l.levels * 12 + 6

abbrev pub decreases-quoted_extension : goal.decreases-quoted_extension
decreases-quoted_extension l = l.levels * 12 + 6

abbrev pub decreases-extension : goal.decreases-extension
decreases-extension l = l.levels * 12 + 5

abbrev pub decreases-keyword_type : goal.decreases-keyword_type
decreases-keyword_type l = l.levels * 12 + 7

abbrev pub decreases-map : goal.decreases-map
decreases-map l = l.levels * 12 + 3

abbrev pub decreases-union : goal.decreases-union
decreases-union l = l.levels * 12 + 4

abbrev pub decreases-variants : goal.decreases-variants
decreases-variants l = l.levels * 12 + 3

abbrev pub decreases-some_variants : goal.decreases-some_variants
decreases-some_variants l = l.levels * 12 + 2

abbrev pub decreases-variant : goal.decreases-variant
decreases-variant l = l.levels * 12 + 1

abbrev pub invariant-some_variants-loop : goal.invariant-some_variants-loop
invariant-some_variants-loop l = behind (read_variants l.variants.items) (separated 41 (variant_by (part_at l.levels)) (length l.bytes - l.counter) l.rest)
    ≡ separated 41 (variant_by (part_at l.levels)) (length l.bytes) l.bytes
