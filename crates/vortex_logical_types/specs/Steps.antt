-- SPDX-License-Identifier: Apache-2.0
-- SPDX-FileCopyrightText: Copyright the Vortex contributors

-- Steps of a path, and parts of the message of a path, which come in as one text and the length of each, and why they can't be
-- read. `code` is what the export returns.
use Rattle.std.specs.Prelude.{◌≡◌, ◌⊎◌, ◌<◌, ◌≤◌, ◌==◌, if◌then◌else◌, ℕ, List, [], ◌∷◌, drop, length, take, IsUtf8, Option, Some, None}
use Rattle.std.specs.List.{Contains}
use Rattle.dtype_base.specs.declared.vortex_error.MessageFault.TheVariants.{PathPartMissing}
use Rattle.dtype_base.specs.declared.vortex_error.VortexError.TheVariants.{Message}
use Rattle.dtype_messages.specs.PathNames.{part_names}
use Rattle.dtype_messages.specs.declared.pb.FieldPath.{FieldPath}
use Rattle.dtype_paths.specs.declared.field.Field.{Field}
use Rattle.dtype_paths.specs.declared.field.Field.TheVariants.{ElementType, Name}
use Rattle.vortex_dtype.specs.PathMessage.{path_of, steps_of}
use Rattle.vortex_logical_types.specs.declared.steps.StepFault.{StepFault}
use Rattle.vortex_logical_types.specs.declared.steps.StepFault.TheVariants.{Lengths, NotUtf8, OutOfMemory}
use Rattle.vortex_logical_types.specs.Several.{NamesFault}
use Rattle.vortex_logical_types.specs.Vocabulary.{Outcome, fails_with, gives}

-- The number of bytes of a step of a length: the greatest length stands for what has no name, and has no bytes.
abbrev pub step_size : ℕ → ℕ
step_size l = if l == 18446744073709551615 then 0 else l

-- What `cut` makes of each length and of the bytes that begin where the name of this length does. The bytes of the names are
-- directly one after the other.
abbrev pub cut_by : {X : Type 0} → (List ℕ → ℕ → X) → List ℕ → List ℕ → List X
cut_by cut bytes [] = []
cut_by cut bytes (l ∷ lengths) = cut bytes l ∷ cut_by cut (drop (step_size l) bytes) lengths

-- the step of a length, whose name is at the front of the bytes
abbrev pub step_cut : List ℕ → ℕ → Field
step_cut bytes l = if l == 18446744073709551615 then ElementType else Name (take l bytes)

-- The steps of these lengths. For example, of the bytes `ab` and the lengths 1 and 1 they are the steps to the fields `a` and `b`.
abbrev pub steps_cut : List ℕ → List ℕ → List Field
steps_cut bytes lengths = cut_by step_cut bytes lengths

-- the name of the part of a message, which is at the front of the bytes; a part whose length is the greatest has no kind
abbrev pub part_cut : List ℕ → ℕ → Option (List ℕ)
part_cut bytes l = if l == 18446744073709551615 then None else Some (take l bytes)

-- the names of the parts of these lengths
abbrev pub parts_cut : List ℕ → List ℕ → List (Option (List ℕ))
parts_cut bytes lengths = cut_by part_cut bytes lengths

-- the code of a fault
abbrev pub fault_code : StepFault → ℕ
fault_code OutOfMemory = 100
fault_code NotUtf8 = 3
fault_code Lengths = 9

-- why the name of this size at the front can't be read: 9 if there are too few bytes, 3 if it isn't UTF-8
abbrev pub RefusesName : ℕ → List ℕ → ℕ → Type 0
RefusesName size bytes code =
    (((code ≡ 3) × (size ≤ length bytes) × (IsUtf8 (take size bytes) → ⊥)) ⊎ ((code ≡ 9) × (length bytes < size))) ⊎ (code ≡ 100)

-- the lengths of the steps add up to the number of bytes, and each name is UTF-8
abbrev pub HaveNoFault : List ℕ → List ℕ → Type 0
HaveNoFault bytes lengths = (code : ℕ) → NamesFault step_size bytes lengths code → ⊥

-- The outcome, or the number for the first fault of the names. For example, of the bytes `abc` and the lengths 1 and 1 it is 9,
-- because a byte is left after the last name.
abbrev pub unless_fault : {X : Type 0} → List ℕ → List ℕ → Outcome X → Outcome X
unless_fault bytes lengths o No Why Yes = No (NamesFault step_size bytes lengths) ⊎ (HaveNoFault bytes lengths × o No Why Yes)

-- the path of these steps, or the number for the first fault of the names
abbrev pub reads_steps : List ℕ → List ℕ → Outcome (List Field)
reads_steps bytes lengths = unless_fault bytes lengths (gives (steps_cut bytes lengths))

-- the path, or `Message PathPartMissing` if there is none
abbrev pub path_or_missing : Option (List Field) → Outcome (List Field)
path_or_missing None = fails_with (Message PathPartMissing)
path_or_missing (Some p) = gives p

-- The path of the parts of a message, or the number for the first fault of the names. If the names have no fault and a part has
-- no kind, it is `Message PathPartMissing`. For example, of the bytes `ab` and the lengths 1 and 1 it is the path `a.b`.
abbrev pub reads_parts : List ℕ → List ℕ → Outcome (List Field)
reads_parts bytes lengths = unless_fault bytes lengths (path_or_missing (path_of (parts_cut bytes lengths)))

-- the path that a message describes, or `Message PathPartMissing` if a part of the message has no kind
abbrev pub describes_path : FieldPath → Outcome (List Field)
describes_path m No Why Yes =
    Yes (λ p. path_of (part_names m) ≡ Some p) ⊎ (Contains (steps_of m) None × fails_with (Message PathPartMissing) No Why Yes)
