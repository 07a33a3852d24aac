-- SPDX-License-Identifier: Apache-2.0
-- SPDX-FileCopyrightText: Copyright the Vortex contributors

use Rattle.std.proofs.Common.{◌≡◌, ℕ, subst, ◌∙◌}
use Rattle.std.specs.Prelude.{◌⊎◌}
use Rattle.std.proofs.lemmas.Result.{err_from_is_err_and}
use Rattle.dtype_base.specs.Bytes.{Bytes}
use Rattle.dtype_base.specs.declared.vortex_error.VortexError.TheVariants.{OutOfMemory}
use Rattle.dtype_types.specs.parts.Unions.{HasUnionLengths, MakesUnion, UnionError}
use Rattle.dtype_text.proofs.UnionFacts.{made_tagged, refused_tagged}
use Rattle.dtype_text.proofs.unions.tagged.Goals as goal

pub returns-in_err-try_new : goal.returns-in_err-try_new
returns-in_err-try_new c =
    let p = err_from_is_err_and c.from_residual.result c.from_residual.ensures.1 in
    let v = c.in_err-try_new.field-0.0 in
    let ns = c.args.names in
    let gs = c.args.tags.items in
    rw p.1 (refused_tagged ns c.args.dtypes.items gs v p.0 (c.requires.types ∙ c.args.dtypes.ok.0) (c.requires.tags ∙ c.args.tags.ok.0) (subst Bytes c.deref.ensures.value c.are_bytes.ensures) p.2 (subst (λ (k : ℕ). ((v ≡ OutOfMemory) × HasUnionLengths ns k gs) ⊎ UnionError ns k gs v) c.args.dtypes.ok.0 c.in_err-try_new.ensures.errors))

pub returns : goal.returns
returns c =
    let ns = c.args.names in
    let gs = c.args.tags.items in
    made_tagged c.in_ok-try_new.field-0 ns c.args.dtypes.items gs (c.requires.types ∙ c.args.dtypes.ok.0) (c.requires.tags ∙ c.args.tags.ok.0) c.in_ok-try_new.ensures.variants
    (subst (λ (k : ℕ). MakesUnion ns k gs) c.args.dtypes.ok.0 c.in_ok-try_new.ensures.accepted) (subst Bytes c.deref.ensures.value c.are_bytes.ensures)
