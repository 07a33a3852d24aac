-- SPDX-License-Identifier: Apache-2.0
-- SPDX-FileCopyrightText: Copyright the Vortex contributors

-- The steps that a path message says are those of the names that it holds; without a name at each part it makes no path.
use Rattle.std.proofs.Common.{◌≡◌, ◌∙◌, ◌<◌, ℕ, zero, suc, List, [], ◌∷◌, ◌++◌, Contains, Option, Some, None, get_or, length, ap, refl, subst, sym, map, option_map, arith}
use Rattle.std.proofs.lemmas.Simd.{map-map}
use Rattle.dtype_paths.specs.declared.field.Field.{Field as Step}
use Rattle.dtype_paths.specs.declared.field.Field.TheVariants.{Name}
use Rattle.dtype_paths.specs.PathOrder.{held_name}
use Rattle.dtype_messages.specs.declared.pb.Field.{Field}
use Rattle.dtype_messages.specs.declared.pb.FieldPath.{FieldPath}
use Rattle.dtype_messages.specs.PathNames.{part_name, part_names}
use Rattle.vortex_dtype.specs.PathMessage.{path_of, step_of, steps_of}

by_names : (p : FieldPath) → map (option_map Name) (part_names p) ≡ steps_of p
by_names p = map-map (option_map Name) part_name p.path.items

pub steps_by_names : (p q : FieldPath) → part_names p ≡ part_names q → steps_of p ≡ steps_of q
steps_by_names p q e = sym (by_names p) ∙ ap (map (option_map Name)) e ∙ by_names q

-- where each part says a step, the steps are the path
pub path_by_steps : (parts : List Field) (p : List Step) → map step_of parts ≡ map Some p → path_of (map part_name parts) ≡ Some p
path_by_steps [] [] e = refl
path_by_steps (part ∷ parts) (x ∷ p) e = grind (arith, path_by_steps parts p, e)
path_by_steps _ _ e = cc

-- where the parts make a path, its steps are theirs
steps_of_path : (ns : List (Option (List ℕ))) (p : List Step) → path_of ns ≡ Some p → map (option_map Name) ns ≡ map Some p
steps_of_path [] p e = grind (arith, e)
steps_of_path (n ∷ ns) p e = grind (arith, steps_of_path ns, e)

pub path_steps : (m : FieldPath) (p : List Step) → path_of (part_names m) ≡ Some p → steps_of m ≡ map Some p
path_steps m p e = sym (by_names m) ∙ steps_of_path (part_names m) p e

-- names that make a path are those that its steps hold, so names that make one path are the same
names_of_path : (ns : List (Option (List ℕ))) (p : List Step) → path_of ns ≡ Some p → ns ≡ map held_name p
names_of_path [] p e = grind (arith, e)
names_of_path (n ∷ ns) p e = grind (arith, names_of_path ns, e)

pub same_path_names : (ns ms : List (Option (List ℕ))) (p q : List Step) → path_of ns ≡ Some p → path_of ms ≡ Some q → (p ≡ q → ns ≡ ms) × (ns ≡ ms → p ≡ q)
same_path_names ns ms p q e f = (λ is. names_of_path ns p e ∙ ap (map held_name) is ∙ sym (names_of_path ms q f), λ is. cc)

-- the root has none
pub path_root : (ns : List (Option (List ℕ))) (p : List Step) → path_of ns ≡ Some p → p ≡ [] → ns ≡ []
path_root ns p e is = names_of_path ns p e ∙ ap (map held_name) is

-- parts one of which has no kind make no path
pub no_path : (before rest : List (Option (List ℕ))) → path_of (before ++ None ∷ rest) ≡ None
no_path [] rest = refl
no_path (n ∷ before) rest = grind (arith, no_path before rest)

-- a path message one of whose parts has no kind makes no path
none_given : (ns : List (Option (List ℕ))) (i : ℕ) → i < length (map (option_map Name) ns) → get_or (map (option_map Name) ns) i None ≡ None → path_of ns ≡ None
none_given [] i less e = absurd (omega arith)
none_given (n ∷ ns) zero less e = grind (arith, e)
none_given (n ∷ ns) (suc i) less e = grind (arith, none_given ns i (omega arith) e)

pub missing_part : (m : FieldPath) → Contains (steps_of m) None → path_of (part_names m) ≡ None
missing_part m missing =
    let there = subst (λ steps. Contains steps None) (sym (by_names m)) missing in
    none_given (part_names m) there.0 there.1 there.2
