-- SPDX-License-Identifier: Apache-2.0
-- SPDX-FileCopyrightText: Copyright the Vortex contributors

use Rattle.std.proofs.Common.{◌∷◌, [], refl, sym, ◌∙◌, string_bytes}
use lib.Utf8.{encode}
use Rattle.c_arrow.proofs.Tags.{ids_more, joined_more}
use Rattle.c_arrow.proofs.formats_written.union_format.Goals as goal

pub loop-tag-preserved : goal.loop-tag-preserved
unfolding encode
loop-tag-preserved c = record {
  text = (44 ∷ [], (refl, refl));
  ids = ids_more c.args.tags.now c.loop-tag.tag-index c.loop-tag-test.true _ (sym c.is_id.ensures ∙ c.if-not-is_id.false) c.loop-tag.invariant.ids;
  format = rw c.in_ok-push_id.ensures (joined_more c.args.tags.now c.loop-tag.tag-index c.loop-tag-test.true c.loop-tag.separator.now (string_bytes c.loop-tag.format) _ c.loop-tag.invariant.format);
}
