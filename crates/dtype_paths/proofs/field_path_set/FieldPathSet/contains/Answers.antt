-- SPDX-License-Identifier: Apache-2.0
-- SPDX-FileCopyrightText: Copyright the Vortex contributors

use Rattle.std.proofs.Common.{◌↔◌, ◌∙◌, IsTrue, List, ap, subst}
use Rattle.std.proofs.lemmas.Bool.Decides.{same_from_decides}
use Rattle.std.specs.FinSet as set
use Rattle.std.specs.List.{Contains}
use Rattle.dtype_paths.proofs.lemmas.SetMembers.{from_list-Decides}
use Rattle.dtype_paths.specs.private.Trie.{terminals}
use Rattle.dtype_paths.specs.declared.field.Field.{Field}
use Rattle.dtype_paths.proofs.field_path_set.FieldPathSet.contains.Goals as goal

pub returns : goal.returns
returns c =
    let told = subst (λ (p : List Field). IsTrue c.contains.result ↔ Contains (terminals c.self.inside.trie) p) c.parts.ensures c.contains.ensures in
    same_from_decides c.contains.result _ told (from_list-Decides (terminals c.self.inside.trie) c.args.path.now)
    ∙ ap (λ s. set.contains s c.args.path.now) c.self.view_is
