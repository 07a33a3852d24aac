-- SPDX-License-Identifier: Apache-2.0
-- SPDX-FileCopyrightText: Copyright the Vortex contributors

-- Widths of a fixed-size list, and of a struct with one field more at its end.
use Rattle.std.proofs.Common.{◌≡◌, ◌⊎◌, ℕ, ◌+◌, ◌*◌, ◌^◌, ◌<◌, ◌≤◌, List, [], ◌∷◌, ◌++◌, length, map, get_or, take, drop, refl, sym, ap, subst, ◌∙◌, inl, inr, arith, add_assoc}
use Rattle.std.proofs.lemmas.List.{get_or-map, length-map, take_more, take-append-drop}
use Rattle.dtype_base.specs.declared.nullability.Nullability.{Nullability}
use Rattle.std.specs.Map.{values_of}
use Rattle.dtype_types.specs.tree.Tree.{Tree, fields, fixed_size_list, null, struct}
use Rattle.dtype_types.specs.tree.TreeOf.{tree, children, struct_pairs}
use Rattle.dtype_types.specs.declared.dtype.DType.{DType}
use Rattle.dtype_types.specs.declared.dtype.width.Width.{Width}
use Rattle.dtype_types.specs.declared.struct_fields.StructFields.{StructFields}
use Rattle.dtype_types.specs.tree.Width.{Fixed, FixedFields, width, total_width, FieldPart, HasWidePart, Measures, MeasuresFields}
use Rattle.dtype_types.proofs.Parts.{types_shown}

abbrev Pairs : Type 0
Pairs = List (List ℕ × Tree)

-- ---- fields, and others behind them

fixed_both : (ps qs : Pairs) → FixedFields (fields ps) → FixedFields (fields qs) → FixedFields (fields (ps ++ qs))
fixed_both [] qs f g = g
fixed_both (p ∷ ps) qs f g = (f.0, fixed_both ps qs f.1 g)

pub fixed_parts : (ps qs : Pairs) → FixedFields (fields (ps ++ qs)) → FixedFields (fields ps) × FixedFields (fields qs)
fixed_parts [] qs f = (tt, f)
fixed_parts (p ∷ ps) qs f = let rest = fixed_parts ps qs f.1 in ((f.0, rest.0), rest.1)

-- a beginning of the fields has a variable field already
pub variable_beginning : (ps : Pairs) (k : ℕ) → ¬ FixedFields (fields (take k ps)) → ¬ FixedFields (fields ps)
variable_beginning ps k f g = f (fixed_parts (take k ps) (drop k ps) (subst (λ qs. FixedFields (fields qs)) (sym (take-append-drop k ps)) g)).0

total_push : (ps : Pairs) (p : List ℕ × Tree) → total_width (fields (ps ++ p ∷ [])) ≡ total_width (fields ps) + width p.1
total_push [] p = omega arith
total_push (q ∷ ps) p = ap (λ w. width q.1 + w) (total_push ps p) ∙ sym (add_assoc (width q.1) (total_width (fields ps)) (width p.1))

part_of_both : (u : Tree) (ps qs : Pairs) → FieldPart u (fields ps) ⊎ FieldPart u (fields qs) → FieldPart u (fields (ps ++ qs))
part_of_both u [] qs (inl h) = absurd h
part_of_both u [] qs (inr h) = h
part_of_both u (p ∷ ps) qs (inl (inl here)) = inl here
part_of_both u (p ∷ ps) qs (inl (inr later)) = inr (part_of_both u ps qs (inl later))
part_of_both u (p ∷ ps) qs (inr h) = inr (part_of_both u ps qs (inr h))

part_of_either : (u : Tree) (ps qs : Pairs) → FieldPart u (fields (ps ++ qs)) → FieldPart u (fields ps) ⊎ FieldPart u (fields qs)
part_of_either u [] qs h = inr h
part_of_either u (p ∷ ps) qs (inl here) = inl (inl here)
part_of_either u (p ∷ ps) qs (inr later) = elim (part_of_either u ps qs later) [ inl before ↦ inl (inr before) | inr behind ↦ inr behind ]

-- ---- one field more

-- a struct of fixed fields with a wide part
pub wide_push : (ps : Pairs) (p : List ℕ × Tree) (n : Nullability) → FixedFields (fields ps) → Fixed p.1
    → HasWidePart (struct (fields ps) n) ⊎ (HasWidePart p.1 ⊎ (2 ^ 64 ≤ total_width (fields ps) + width p.1)) → FixedFields (fields (ps ++ p ∷ [])) × HasWidePart (struct (fields (ps ++ p ∷ [])) n)
wide_push ps p n f g h = (fixed_both ps (p ∷ []) f (g, tt), part h)
  where
    part : HasWidePart (struct (fields ps) n) ⊎ (HasWidePart p.1 ⊎ (2 ^ 64 ≤ total_width (fields ps) + width p.1)) → HasWidePart (struct (fields (ps ++ p ∷ [])) n)
    part (inl (u, inl whole, big)) = (struct (fields (ps ++ p ∷ [])) n, inl refl, omega (arith, ap width whole, total_push ps p, big))
    part (inl (u, inr inside, big)) = (u, inr (part_of_both u ps (p ∷ []) (inl inside)), big)
    part (inr (inl (u, inside, big))) = (u, inr (part_of_both u ps (p ∷ []) (inr (inl inside))), big)
    part (inr (inr big)) = (struct (fields (ps ++ p ∷ [])) n, inl refl, omega (arith, total_push ps p, big))

-- a struct of fixed fields without one
pub narrow_push : (ps : Pairs) (p : List ℕ × Tree) (n : Nullability) (bytes : ℕ)
    → FixedFields (fields ps) × ¬ HasWidePart (struct (fields ps) n) → Fixed p.1 × ¬ HasWidePart p.1 → bytes ≡ total_width (fields ps) + width p.1 → bytes < 2 ^ 64
    → FixedFields (fields (ps ++ p ∷ [])) × ¬ HasWidePart (struct (fields (ps ++ p ∷ [])) n) × (bytes ≡ total_width (fields (ps ++ p ∷ [])))
narrow_push ps p n bytes f g e small = (fixed_both ps (p ∷ []) f.0 (g.0, tt), none, e ∙ sym (total_push ps p))
  where
    none : ¬ HasWidePart (struct (fields (ps ++ p ∷ [])) n)
    none (u, inl whole, big) = absurd (omega (arith, ap width whole, total_push ps p))
    none (u, inr inside, big) = elim (part_of_either u ps (p ∷ []) inside) [ inl before ↦ f.1 (u, inr before, big) | inr (inl last) ↦ g.1 (u, last, big) | inr (inr more) ↦ more ]

-- the next field is measured, and added to those before it
pub next_measured : (s : StructFields) (ds : List DType) (i : ℕ) (d : DType) (w total more : Width) → ds ≡ values_of (struct_pairs s) → i < length ds → d ≡ get_or ds i d → Measures w (tree d)
    → ((ps : Pairs) (p : List ℕ × Tree) → MeasuresFields total ps → Measures w p.1 → MeasuresFields more (ps ++ p ∷ []))
    → MeasuresFields total (take i (children s)) → MeasuresFields more (take (i + 1) (children s))
next_measured s ds i d w total more same h e measured added so_far =
    let ps = children s in
    let first : List ℕ × Tree = ([], null) in
    let types = ap (map tree) same ∙ sym (types_shown (struct_pairs s)) in
    let within : i < length ps = omega (arith, h, length-map ds tree, length-map ps (λ (q : List ℕ × Tree). q.1), ap length types) in
    let is = ap tree e ∙ sym (get_or-map tree ds i d (tree d) h) ∙ ap (λ ts. get_or ts i (tree d)) types ∙ get_or-map (λ (q : List ℕ × Tree). q.1) ps i first (tree d) within in
    subst (MeasuresFields more) (sym (take_more ps i first within)) (added (take i ps) (get_or ps i first) so_far (subst (Measures w) is measured))

-- ---- a fixed-size list that is itself too wide

at_least : (x y : ℕ) → ¬ (x < y) → y ≤ x
at_least x y h = omega arith

pub wide_list : (t : Tree) (k bytes : ℕ) (n : Nullability) → bytes ≡ width t → ¬ (bytes * k < 2 ^ 64) → HasWidePart (fixed_size_list t k n)
wide_list t k bytes n e h = (fixed_size_list t k n, inl refl, omega (arith, at_least _ _ h, ap (λ w. w * k) e))
