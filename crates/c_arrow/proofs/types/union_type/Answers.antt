-- SPDX-License-Identifier: Apache-2.0
-- SPDX-FileCopyrightText: Copyright the Vortex contributors

use Rattle.std.proofs.Common.{◌≡◌, List, ℕ, ◌∙◌, ap, arith, length, map, subst, vec_len}
use Rattle.std.specs.List.{zip}
use Rattle.dtype_types.specs.parts.Unions.{MakesUnion}
use Rattle.dtype_types.specs.tree.TreeOf.{tree}
use Rattle.c_arrow.proofs.Made.{union_made}
use Rattle.c_arrow.proofs.types.union_type.Goals as goal

pub returns-clause-read : goal.returns-clause-read
returns-clause-read c =
    let count : vec_len c.args.dtypes ≡ length c.args.dtypes.items = omega (arith, c.args.dtypes.ok) in
    let makes = subst (λ (ns : List (List ℕ)). MakesUnion ns (vec_len c.args.dtypes) c.args.tags.items) c.from_vec.ensures c.in_ok-variants.ensures.accepted in
    union_made c.in_ok-variants.variants c.args.names.items c.args.dtypes.items c.args.tags.items c.args.n (c.requires ∙ count)
    (c.in_ok-variants.ensures.variants ∙ ap (λ ns. zip ns (zip (map tree c.args.dtypes.items) c.args.tags.items)) c.from_vec.ensures)
    (subst (λ (k : ℕ). MakesUnion c.args.names.items k c.args.tags.items) count makes)
