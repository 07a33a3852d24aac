-- SPDX-License-Identifier: Apache-2.0
-- SPDX-FileCopyrightText: Copyright the Vortex contributors

use Rattle.std.proofs.Common.{◌≡◌, ℕ, List, ◌++◌, Some, ap, sym, refl, append_assoc}
use Rattle.std.specs.Int.{to_le_bytes, w32}
use Rattle.c_arrow.specs.Keys.{extension_metadata, metadata_key, name_key, short_text, sized}
use Rattle.c_arrow.proofs.keys.extension_metadata.Goals as goal

one_list : (a b c d e : List ℕ) → (((a ++ b) ++ c) ++ d) ++ e ≡ a ++ (b ++ (c ++ (d ++ e)))
one_list a b c d e = simp append_assoc refl

pub returns : goal.returns
unfolding extension_metadata
returns c =
    let name : short_text c.args.id.now ≡ Some (c.in-Some-Some.id_length ++ c.args.id.now) = sym c.in-Some-Some.ensures in
    let metadata : short_text c.args.bytes.now ≡ Some (c.in-Some-Some.length ++ c.args.bytes.now) = sym c.in-Some-Some.ensures' in
    rw (name, metadata, c.in_ok-push_text-4.ensures, c.in_ok-push_text-3.ensures, c.in_ok-push_text-2.ensures, c.in_ok-push_text.ensures, c.in_ok-extend_from_slice.ensures.items, c.new-out.ensures.items)
    (ap Some (one_list (to_le_bytes w32 2) (sized name_key) (c.in-Some-Some.id_length ++ c.args.id.now) (sized metadata_key) (c.in-Some-Some.length ++ c.args.bytes.now)))
