-- SPDX-License-Identifier: Apache-2.0
-- SPDX-FileCopyrightText: Copyright the Vortex contributors

use Rattle.std.proofs.Common.{◌≡◌, ◌∙◌, ap, false, subst, sym}
use Rattle.std.proofs.lemmas.Bool.{false≢true}
use Rattle.dtype_paths.specs.PathPredicates.{PathPredicate}
use Rattle.dtype_paths.specs.private.Trie.{IsTrie}
use Rattle.dtype_paths.proofs.lemmas.Cases.{by_bool}
use Rattle.dtype_paths.proofs.Reaching.{none-below, some-below}
use Rattle.dtype_paths.proofs.trie.Trie.is_empty_at.Goals as goal

pub returns : goal.returns
returns c =
    let nodes = c.args.self.now in let i = c.args.node_index in let n = c.at.result.now in let e = c.is_empty.ensures in
    let at = rw c.self.view_is at c.at.ensures in
    let some = λ (h : c.is_empty.result ≡ false). some-below nodes (subst IsTrie c.self.view_is c.self.invariant) i n c.requires at (λ z. false≢true (sym h ∙ e.1 z)) in
    record {
      nothing = (
        λ h. none-below nodes i n at (e.0 h),
        λ z. by_bool c.is_empty.result (λ y. y) (λ h. let q = some h in absurd (false≢true (ap (λ (w : PathPredicate). w q.0) (sym z) ∙ q.1))),
      );
      some = some;
    }
