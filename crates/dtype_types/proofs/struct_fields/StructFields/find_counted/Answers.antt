-- SPDX-License-Identifier: Apache-2.0
-- SPDX-FileCopyrightText: Copyright the Vortex contributors

use Rattle.std.proofs.Common.{◌≡◌, ap, arith, rules}
use Rattle.std.proofs.lemmas.List.{length-map}
use Rattle.dtype_base.specs.BinaryDigits.{binary_digits}
use Rattle.dtype_base.specs.FieldNames.{first_place}
use Rattle.dtype_base.specs.Comparisons.{comparisons, longest_bucket}
use Rattle.dtype_base.proofs.lemmas.Lookups.{most_compared, found_compared}
use Rattle.dtype_types.proofs.Parts.{names_shown}
use Rattle.dtype_types.specs.tree.TreeOf.{children}
use Rattle.dtype_types.specs.parts.Lookups.{field_names}
use Rattle.dtype_types.proofs.struct_fields.StructFields.find_counted.Goals as goal

pub returns-clause-at_most : goal.returns-clause-at_most
returns-clause-at_most c =
    let names = field_names (children c.args.self.now) in
    let count : c.find_counted.result.1 ≡ comparisons (longest_bucket names) = search (rules, names_shown) in
    omega (arith, most_compared names c.find_counted.result.1 count, ap binary_digits (length-map (children c.args.self.now) (λ p. p.0)))

pub returns-clause-at_least : goal.returns-clause-at_least
returns-clause-at_least c =
    let names = field_names (children c.args.self.now) in
    let first : c.find_counted.result.0 ≡ first_place names c.args.name.now = search (rules, names_shown) in
    let count : c.find_counted.result.1 ≡ comparisons (longest_bucket names) = search (rules, names_shown) in
    found_compared names c.args.name.now c.find_counted.result.0 c.find_counted.result.1 first count
