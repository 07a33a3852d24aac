-- SPDX-License-Identifier: Apache-2.0
-- SPDX-FileCopyrightText: Copyright the Vortex contributors

use Rattle.std.proofs.Common.{◌≡◌, ℕ, subst, ◌∙◌, length}
use Rattle.std.specs.Prelude.{◌⊎◌}
use Rattle.std.specs.List.{range_with_len}
use Rattle.std.proofs.lemmas.Result.{err_from_is_err_and}
use Rattle.dtype_base.specs.declared.vortex_error.VortexError.TheVariants.{OutOfMemory}
use Rattle.dtype_types.specs.parts.Unions.{UnionError}
use Rattle.dtype_text.proofs.UnionFacts.{refused_untagged}
use Rattle.dtype_text.proofs.unions.untagged.Goals as goal

pub returns-in_err-new : goal.returns-in_err-new
returns-in_err-new c =
    let p = err_from_is_err_and c.from_residual.result c.from_residual.ensures.1 in
    let v = c.in_err-new.field-0.0 in
    let ns = c.args.names in
    rw p.1 (refused_untagged ns c.args.dtypes.items v p.0 (c.requires ∙ c.args.dtypes.ok.0) p.2 (λ many. let is = c.in_err-new.ensures.too_many.1 many in cc) (λ few. subst (λ (k : ℕ). (v ≡ OutOfMemory) ⊎ UnionError ns k (range_with_len 0 (length ns)) v) c.args.dtypes.ok.0 (c.in_err-new.ensures.errors few)))
