-- SPDX-License-Identifier: Apache-2.0
-- SPDX-FileCopyrightText: Copyright the Vortex contributors

-- Lemmas on the prefixes of a path.
use Rattle.std.proofs.Common.{◌≡◌, ◌⊎◌, ◌<◌, Bool, Decides, false, List, [], ◌∷◌, ◌++◌, length, drop, refl, ap, sym, ◌∙◌, inl, inr, append-nil, append_assoc, length-append, arith}
use Rattle.std.specs.List.{starts_with}
use Rattle.std.proofs.lemmas.List.{nil_from_length}
use Rattle.std.proofs.lemmas.Slice.Eq.{starts_is}
use Rattle.dtype_paths.specs.Beginning.{Beginning}
use Rattle.dtype_paths.specs.Equality.{same_field, same_path}
use Rattle.dtype_paths.specs.EqualityLaws.{same_field-Decides, same_path-Decides}
use Rattle.dtype_paths.specs.declared.field.Field.{Field}

-- a list of steps starts with another exactly where the other is a prefix of it
pub starts_with-Decides : (p q : List Field) (r : Bool) → r ≡ starts_with same_field q p → Decides r (Beginning p q)
starts_with-Decides p q r e =
    let s = starts_is same_field-Decides q p r e in
    (λ h. (drop (length p) q, s.0 h), λ b. s.1 b.0 b.1)

pub beginning_refl : (p : List Field) → Beginning p p
beginning_refl p = ([], sym (append-nil p))

pub beginning_trans : (p q r : List Field) → Beginning p q → Beginning q r → Beginning p r
beginning_trans p q r a b = (a.0 ++ b.0, b.1 ∙ ap (λ x. x ++ b.0) a.1 ∙ append_assoc p a.0 b.0)

pub root_begins : (p q : List Field) → p ≡ [] → Beginning p q
root_begins p q e = (q, ap (λ r. r ++ q) (sym e))

-- prefixes of each other are the same
pub beginning_both : (p q : List Field) → Beginning p q → Beginning q p → p ≡ q
beginning_both p q a b =
    let none : length b.0 ≡ 0 = omega (arith, ap length a.1, ap length b.1, length-append p a.0, length-append q b.0) in
    b.1 ∙ ap (λ r. q ++ r) (nil_from_length b.0 none) ∙ append-nil q

pub begins_nil : (p : List Field) → Beginning p [] → p ≡ []
begins_nil p b = beginning_both p [] b (p, refl)

-- a prefix that isn't the path itself is shorter
pub beginning_shorter : (p q : List Field) → Beginning p q → same_path p q ≡ false → length p < length q
beginning_shorter p q ([], e) other = let is = (same_path-Decides p q).1 (sym (e ∙ append-nil p)) in absurd (cc)
beginning_shorter p q (f ∷ rest, e) other = omega (arith, ap length e, length-append p (f ∷ rest))

-- of two prefixes of a path one is a prefix of the other
pub either_begins : (p r q : List Field) → Beginning p q → Beginning r q → Beginning p r ⊎ Beginning r p
either_begins [] r q bp br = inl (r, refl)
either_begins (x ∷ p) [] q bp br = inr (x ∷ p, refl)
either_begins (x ∷ p) (y ∷ r) [] bp br = let e = bp.1 in absurd (cc)
either_begins (x ∷ p) (y ∷ r) (z ∷ q) bp br = grind (arith, bp, br, either_begins p r q)
