-- SPDX-License-Identifier: Apache-2.0
-- SPDX-FileCopyrightText: Copyright the Vortex contributors

-- The positions of errors are in the text.
use Rattle.std.proofs.Common.{◌≡◌, ℕ, suc, ◌-◌, List, length, ap, subst, sym, arith}
use Rattle.dtype_text.specs.declared.fault.Fault.{Fault}
use Rattle.dtype_text.specs.declared.fault.Fault.TheVariants as fault
use Rattle.dtype_text.specs.declared.text_error.TextError.{TextError}
use Rattle.dtype_text.specs.declared.text_error.TextError.TheVariants as error
use Rattle.dtype_text.specs.Errors.{IsPositionIn, IsPlacedIn, Tells}

pub a_position : (bytes text : List ℕ) (left position : ℕ) → text ≡ bytes → position ≡ suc (length text - left) → IsPositionIn bytes position
a_position bytes text left position same is = (omega (arith, is), omega (arith, is, ap length same))

pub placed : (bytes text : List ℕ) (f : Fault) (e : TextError) → text ≡ bytes → Tells text f e → IsPlacedIn bytes e
placed bytes text fault.Memory e same is = subst (IsPlacedIn bytes) (sym is) tt
placed bytes text (fault.Refused v) e same is = subst (IsPlacedIn bytes) (sym is) tt
placed bytes text (fault.TooDeep l) (error.TooDeep p) same is = a_position bytes text l p same is
placed bytes text (fault.TooDeep l) error.OutOfMemory same is = absurd is
placed bytes text (fault.TooDeep l) (error.Refused v) same is = absurd is
placed bytes text (fault.TooDeep l) (error.Misread p x y) same is = absurd is
placed bytes text (fault.Misread l x) (error.Misread p y z) same is = a_position bytes text l p same is.1
placed bytes text (fault.Misread l x) error.OutOfMemory same is = absurd is
placed bytes text (fault.Misread l x) (error.Refused v) same is = absurd is
placed bytes text (fault.Misread l x) (error.TooDeep p) same is = absurd is
