-- SPDX-License-Identifier: Apache-2.0
-- SPDX-FileCopyrightText: Copyright the Vortex contributors

-- The first step of a mask: the mask is the one of everything, or its path has a first step, or its path is the root.
use Rattle.std.proofs.Common.{◌≡◌, ℕ, Option, Some, None, inl, inr, refl, subst, sym}
use Rattle.c_objects.specs.declared.failure.Failure.TheVariants.{Library}
use Rattle.c_objects.specs.declared.object.Object.{Object}
use Rattle.dtype_base.specs.declared.vortex_error.VortexError.TheVariants.{AllMask}
use Rattle.dtype_paths.specs.In.{first_part}
use Rattle.dtype_paths.specs.declared.field.Field.{Field}
use Rattle.dtype_paths.specs.declared.field_mask.FieldMask.{FieldMask}
use Rattle.dtype_paths.specs.declared.field_mask.FieldMask.TheVariants.{All, Exact, Prefix}
use Rattle.vortex_logical_types.specs.Paths.{FillsStepOr, FillsWithStep, first_step}
use Rattle.vortex_logical_types.specs.Vocabulary.{Buffer, IsError, OfThe, Stores, failure_code, found, gives, unless_memory}

pub written_of_all : (m : FieldMask) (code : ℕ) (old new : Buffer) (was is : Option Object) → m ≡ All → Stores (Library AllMask) code was is → new ≡ old
    → FillsStepOr (unless_memory (first_step m)) code old new was is
written_of_all All code old new was is all (inl stored) same =
    inl (subst (λ o. OfThe o (λ f. (code ≡ failure_code f) × IsError (λ g. g ≡ AllMask) f)) (sym stored.1) (stored.0, refl), same)
written_of_all All code old new was is all (inr full) same = inr (full.0, same, full.1)
written_of_all (Prefix p) code old new was is all stored same = absurd (cc)
written_of_all (Exact p) code old new was is all stored same = absurd (cc)

pub written_of_step : (m : FieldMask) (f : Field) (code : ℕ) (old new : Buffer) (was is : Option Object) → Some f ≡ first_part m → (m ≡ All → ⊥)
    → FillsWithStep f code old new → is ≡ was → FillsStepOr (unless_memory (first_step m)) code old new was is
written_of_step All f code old new was is first other written kept = absurd (other refl)
written_of_step (Prefix p) f code old new was is first other written kept =
    inl (subst (λ o. FillsStepOr (found o gives) code old new was is) first ((f, refl, written), kept))
written_of_step (Exact p) f code old new was is first other written kept =
    inl (subst (λ o. FillsStepOr (found o gives) code old new was is) first ((f, refl, written), kept))

pub written_of_root : (m : FieldMask) (code : ℕ) (old new : Buffer) (was is : Option Object) → None ≡ first_part m → (m ≡ All → ⊥) → code ≡ 1 → new ≡ old
    → is ≡ was → FillsStepOr (unless_memory (first_step m)) code old new was is
written_of_root All code old new was is first other code_is same kept = absurd (other refl)
written_of_root (Prefix p) code old new was is first other code_is same kept =
    inl (subst (λ o. FillsStepOr (found o gives) code old new was is) first (code_is, same, kept))
written_of_root (Exact p) code old new was is first other code_is same kept =
    inl (subst (λ o. FillsStepOr (found o gives) code old new was is) first (code_is, same, kept))
