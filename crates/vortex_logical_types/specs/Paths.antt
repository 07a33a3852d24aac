-- SPDX-License-Identifier: Apache-2.0
-- SPDX-FileCopyrightText: Copyright the Vortex contributors

-- What single calls for paths, sets of paths and masks do: outcomes, and what they find in an object.
use Rattle.std.specs.Prelude.{◌≡◌, ◌≢◌, ◌⊎◌, ℕ, Bool, true, false, List, [], ◌∷◌, fold, length, map, Option, Some, None, slice_get, take, IsTrue}
use Rattle.std.specs.FinSet as set
use Rattle.std.specs.Hash.DefaultHasher as sip
use Rattle.c_objects.specs.declared.object.Object.{Object}
use Rattle.dtype_base.specs.declared.vortex_error.VortexError.TheVariants.{AllMask, ExactRoot}
use Rattle.dtype_paths.specs.Hashes.{path_writes}
use Rattle.dtype_paths.specs.PathOrder.{PathSet, set_of}
use Rattle.dtype_paths.specs.PathPredicates.{AreNames, PathPredicate, after_step, no_path}
use Rattle.dtype_paths.specs.declared.field.Field.{Field}
use Rattle.dtype_paths.specs.declared.field.Field.TheVariants.{ElementType, Name}
use Rattle.dtype_paths.specs.declared.field_mask.FieldMask.{FieldMask}
use Rattle.dtype_paths.specs.declared.field_mask.FieldMask.TheVariants.{All, Exact, Prefix}
use Rattle.vortex_logical_types.specs.Slots.{set_in}
use Rattle.vortex_logical_types.specs.Vocabulary.{Buffer, Failed, FillsWith, Outcome, fails_with, found, gives, gives_some, refuses, tells}

-- the hash of a path by std's hasher
abbrev pub hash_of_path : List Field → ℕ
hash_of_path p = sip.finish (fold sip.write sip.initial (path_writes p))

-- the path without its first step
abbrev pub tail_of : List Field → Option (List Field)
tail_of [] = None
tail_of (f ∷ p) = Some p

-- whether the first step of a path is the step to a name; 5 if it is the step to the element
abbrev pub starts_with : Option Field → List ℕ → Outcome Unit
starts_with None name = refuses 1
starts_with (Some (Name n)) name = tells (n ≡ name)
starts_with (Some ElementType) name = refuses 5

-- A step is written. For a step to a name these are the bytes of the name. For the step to the element only the
-- greatest length is written, and nothing to the buffer.
abbrev pub FillsWithStep : Field → ℕ → Buffer → Buffer → Type 0
FillsWithStep (Name n) code old new = FillsWith n code old new
FillsWithStep ElementType code old new = (code ≡ 0) × (new.0 ≡ old.0) × (new.1 ≡ 18446744073709551615)

-- the result is a step, which is written
abbrev pub FillsStep : Outcome Field → ℕ → Buffer → Buffer → Type 0
FillsStep o code old new = o (λ P. P code × (new ≡ old)) (λ P. ⊥) (λ P. (f : Field) × P f × FillsWithStep f code old new)

-- The same, and a reason is stored in the slot `error`. For example, `FillsStepOr (on (mask_in ..) first_step) result
-- (buffer.old, length.old) (buffer.new, length.new) error.old.value error.new.value`.
abbrev pub FillsStepOr : Outcome Field → ℕ → Buffer → Buffer → Option Object → Option Object → Type 0
FillsStepOr o code old new was is =
    o (λ P. P code × (new ≡ old) × (is ≡ was)) (λ P. Failed P code is × (new ≡ old)) (λ P. ((f : Field) × P f × FillsWithStep f code old new) × (is ≡ was))

-- the number of the kind of a mask, and the path of a mask
abbrev pub mask_number : FieldMask → ℕ
mask_number All = 0
mask_number (Prefix p) = 1
mask_number (Exact p) = 2

abbrev pub mask_path : FieldMask → Option (List Field)
mask_path All = None
mask_path (Prefix p) = Some p
mask_path (Exact p) = Some p

-- the mask that is left after a step; `ExactRoot` if there is none, which is so of the mask that selects only the root
abbrev pub stepped : Option FieldMask → Outcome FieldMask
stepped None = fails_with ExactRoot
stepped (Some m) = gives m

-- the first step of the path of a mask; `AllMask` if it is the mask of everything, which has no path
abbrev pub first_step : FieldMask → Outcome Field
first_step All = fails_with AllMask
first_step (Prefix p) = found (slice_get p 0) gives
first_step (Exact p) = found (slice_get p 0) gives

-- what a call writes of the paths that a set asks for below a path: whether the path itself is one, whether a path goes
-- on with the element, and with how many names paths go on
abbrev pub Below : Type 0
Below = Bool × Bool × ℕ

-- a flag tells whether the paths w go on with the element
abbrev pub TellsElement : PathPredicate → Bool → Type 0
TellsElement w true = (q : List Field) × IsTrue (w (ElementType ∷ q))
TellsElement w false = after_step ElementType w ≡ no_path

-- with how many names the paths w go on
abbrev pub CountsNames : PathPredicate → ℕ → Type 0
CountsNames w count = (ns : List (List ℕ × PathPredicate)) × AreNames w ns × (count ≡ length ns)

-- what is found of the paths w that a set asks for below a path; 1 if there are none
abbrev pub describes_below : PathPredicate → Outcome Below
describes_below w No Why Yes =
    ((w ≢ no_path) × gives_some (λ b. (b.0 ≡ w []) × TellsElement w b.1 × CountsNames w b.2) No Why Yes) ⊎ ((w ≡ no_path) × refuses 1 No Why Yes)

-- Paths of one step each, to the names with which the paths w go on. For example, of the paths `b.c` and `d` they are `b` and `d`.
abbrev pub AreFirstSteps : PathPredicate → List (List Field) → Type 0
AreFirstSteps w ps = (ns : List (List ℕ × PathPredicate)) × AreNames w ns × (ps ≡ map (λ e. Name e.0 ∷ []) ns)

-- the names with which the paths w go on, as paths of one step; 1 if there are no paths
abbrev pub lists_names : PathPredicate → Outcome (List (List Field))
lists_names w No Why Yes = ((w ≢ no_path) × gives_some (AreFirstSteps w) No Why Yes) ⊎ ((w ≡ no_path) × refuses 1 No Why Yes)

-- A set gains the paths of a list, and 0 is returned. After a failed allocation it has those before some position, and 100 is
-- returned.
abbrev pub GainsList : List (List Field) → ℕ → PathSet → PathSet → Type 0
GainsList ps code old new =
    ((code ≡ 0) × (new ≡ set.union old (set_of ps))) ⊎ ((code ≡ 100) × ((k : ℕ) × (new ≡ set.union old (set_of (take k ps)))))

-- the same of the set in one slot and the list in another; 2 if one of them isn't there
abbrev pub GainsListIn : Option PathSet → Option (List (List Field)) → ℕ → Option Object → Option Object → Type 0
GainsListIn None ps code old new = (code ≡ 2) × (new ≡ old)
GainsListIn (Some s) None code old new = (code ≡ 2) × (new ≡ old)
GainsListIn (Some s) (Some ps) code old new =
    ((code ≡ 0) × (set_in new ≡ Some (set.union s (set_of ps)))) ⊎ ((code ≡ 100) × ((k : ℕ) × (set_in new ≡ Some (set.union s (set_of (take k ps))))))

-- a set gains a path, or stays as it was if an allocation fails
abbrev pub Gains : ℕ → PathSet → PathSet → PathSet → Type 0
Gains code old more new = ((code ≡ 0) × (new ≡ more)) ⊎ ((code ≡ 100) × (new ≡ old))

-- a set gains the path in a slot; 2 if it isn't there
abbrev pub GainsPath : Option (List Field) → ℕ → PathSet → PathSet → Type 0
GainsPath None code old new = (code ≡ 2) × (new ≡ old)
GainsPath (Some p) code old new = Gains code old (set.insert old p) new
