-- SPDX-License-Identifier: Apache-2.0
-- SPDX-FileCopyrightText: Copyright the Vortex contributors

use Rattle.std.proofs.Common.{◌≡◌, List, map, ℕ, subst, ◌∙◌, sym}
use Rattle.std.proofs.iter.runs.Made.{run_of_exit}
use Rattle.std.proofs.lemmas.List.Elements.{recursion_from_All}
use Rattle.std.proofs.lemmas.Result.{MatchResult-weaker}
use Rattle.dtype_types.specs.declared.field_dtype.FieldDType.{FieldDType}
use Rattle.dtype_types.specs.parts.FieldTypes.{AreValidFields, field_tree}
use Rattle.dtype_types.specs.tree.Valid.{Valid, ValidItems}
use Rattle.dtype_types.specs.tree.TreeOf.{children, fields_of}
use Rattle.dtype_types.specs.tree.Tree.{fields}
use Rattle.dtype_types.proofs.lemmas.Validity.{valid_given}
use Rattle.dtype_types.proofs.struct_fields.StructFields.from_iter.Goals as goal

-- the iterator's items, as the loop took them
pub returns : goal.returns
returns g c =
    let given = c.loop-name.yielded in
    let whole = run_of_exit g.I.IntoIter.Iterator.next_gives _ given _ c.loop-name.yielded_by _ (rw c.in-None.is at c.next.ensures.steps) in
    MatchResult-weaker c.into_struct.result c.into_struct.ensures
    (λ s e.
    let made = e ∙ c.loop-name.invariant.collected in (
      c.into_iter-name-iterator.result,
      subst (g.I.IntoIterator.into_iter_gives c.args.fields) (sym c.into_iter-name-iterator.ensures.into_iter_gives) c.into_iter-fields.ensures.into_iter_gives,
      (
        whole.0,
        whole.1,
        whole.2,
        subst (λ (xs : List (List ℕ × FieldDType)). (children s ≡ map (λ p. (p.0, field_tree p.1)) xs) × (AreValidFields xs → ValidItems (fields_of s))) (sym whole.3.0)
            (made, λ v. subst (λ ps. ValidItems (fields ps)) (sym made) (valid_given given (recursion_from_All (λ (p : List ℕ × FieldDType). Valid (field_tree p.1)) given v))),
      ),
    ))
    (λ _ e. e)
