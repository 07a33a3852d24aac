-- SPDX-License-Identifier: Apache-2.0
-- SPDX-FileCopyrightText: Copyright the Vortex contributors

use Rattle.std.proofs.Common.{◌≡◌, ◌++◌, [], codes, drop, string_bytes}
use Rattle.std.specs.List.{list_all}
use denote.Text.{Utf8}
use denote.Shadow.{shadow}
use Rattle.c_arrow.specs.FormatsWritten.{is_id, joined}
use Rattle.c_arrow.proofs.formats_written.union_format.Given as goal

-- the tags so far are ids, and what is written with the tags that are left is what is written of all
abbrev pub invariant-loop-tag : goal.invariant-loop-tag
invariant-loop-tag l = record {
  text : shadow (Utf8 l.separator);
  ids : list_all is_id (drop l.tag-index l.tags) ≡ list_all is_id l.tags;
  format : string_bytes l.format ++ joined l.separator (drop l.tag-index l.tags) ≡ codes "+us:" ++ joined [] l.tags;
}
