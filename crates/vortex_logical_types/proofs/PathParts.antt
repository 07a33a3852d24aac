-- SPDX-License-Identifier: Apache-2.0
-- SPDX-FileCopyrightText: Copyright the Vortex contributors

-- The path that a message describes, in the words of the export that reads its parts.
use Rattle.std.proofs.Common.{◌≡◌, ℕ, List, Option, Some, None, inl, inr, ap}
use Rattle.c_objects.specs.declared.object.Object.{Object}
use Rattle.dtype_messages.specs.PathNames.{part_names}
use Rattle.dtype_messages.specs.declared.pb.FieldPath.{FieldPath}
use Rattle.dtype_paths.specs.declared.field.Field.{Field}
use Rattle.vortex_dtype.proofs.lemmas.PathMessages.{missing_part}
use Rattle.vortex_dtype.specs.PathMessage.{path_of}
use Rattle.vortex_logical_types.specs.Slots.{path_in}
use Rattle.vortex_logical_types.specs.Steps.{HaveNoFault, describes_path, parts_cut, path_or_missing, reads_parts}
use Rattle.vortex_logical_types.specs.Vocabulary.{OfThe, PutsOr, unless_memory}

-- the path that is described, or the error if a part has no kind, is what the names of the parts say
described : (m : FieldPath) (o : Option (List Field)) (code : ℕ) (old new was is : Option Object) → path_of (part_names m) ≡ o → PutsOr path_in (unless_memory (describes_path m)) code old new was is
    → PutsOr path_in (unless_memory (path_or_missing o)) code old new was is
described m None code old new was is none (inl (inl put)) = absurd (there (path_in new) put.1) where
  there : (e : Option (List Field)) → OfThe e (λ p. path_of (part_names m) ≡ Some p) → ⊥
  there None h = h
  there (Some p) h = absurd cc
described m (Some p) code old new was is some (inl (inl put)) = inl (put.0, that (path_in new) put.1, put.2) where
  that : (e : Option (List Field)) → OfThe e (λ q. path_of (part_names m) ≡ Some q) → OfThe e (λ q. q ≡ p)
  that None h = absurd h
  that (Some q) h = cc
described m None code old new was is none (inl (inr missing)) = inl missing.1
described m (Some p) code old new was is some (inl (inr missing)) = let none = missing_part m missing.0 in absurd cc
described m o code old new was is e (inr full) = inr full

-- The path that is put is that of the parts that were cut.
pub put_parts : (m : FieldPath) (code : ℕ) (old new was is : Option Object) (bytes lengths : List ℕ) → PutsOr path_in (unless_memory (describes_path m)) code old new was is
    → part_names m ≡ parts_cut bytes lengths → HaveNoFault bytes lengths → PutsOr path_in (unless_memory (reads_parts bytes lengths)) code old new was is
put_parts m code old new was is bytes lengths put parts right =
    right_so (described m (path_of (parts_cut bytes lengths)) code old new was is (ap path_of parts) put)
  where
    right_so : PutsOr path_in (unless_memory (path_or_missing (path_of (parts_cut bytes lengths)))) code old new was is → PutsOr path_in (unless_memory (reads_parts bytes lengths)) code old new was is
    right_so (inl done) = inl (inr (right, done))
    right_so (inr full) = inr full
