-- SPDX-License-Identifier: Apache-2.0
-- SPDX-FileCopyrightText: Copyright the Vortex contributors

-- Reading and writing, for callers' proofs: from a result of reading to the type that the message says and back, what is
-- written of admitted types, and what equal messages and copies of paths give. It is all of the topic, for the laws that
-- go from one to the other; the address of all rulesets has it by question too.
use Rattle.vortex_dtype.proofs.lemmas.InOrder.{read_reads, reads_once, reads_read}
use Rattle.vortex_dtype.proofs.lemmas.PathMessages.{missing_part, no_path, path_root, path_steps, same_path_names, steps_by_names}
use Rattle.vortex_dtype.proofs.lemmas.Reads.{copy_accepted, fault_none, fault_refused, known_ids, normal_again, other_nullability, read_alike, reads_accepted, refused_faulty, same_normal, unread_refused, unregistered_fault, written_accepted, written_normal, written_read}
use Rattle.vortex_dtype.proofs.lemmas.Written.{written_is}

pub ruleset reading = (read_reads, reads_read, refused_faulty, fault_refused, unread_refused, written_read, fault_none, known_ids, unregistered_fault, reads_once, reads_accepted, written_accepted, written_normal, same_normal, normal_again, read_alike, copy_accepted, written_is, other_nullability, steps_by_names, path_steps, path_root, same_path_names, no_path, missing_part)
