-- SPDX-License-Identifier: Apache-2.0
-- SPDX-FileCopyrightText: Copyright the Vortex contributors

-- What a function returns that passes on a fault of another.
use Rattle.std.proofs.Common.{◌≡◌, ℕ, List, Result, Err, ap, ◌∙◌}
use Rattle.c_arrow.specs.Faults.{Fault, IsFault, IsWithin, Stops, deep_in, library_in, names_in, out_of_range, read_within, refusal_of, within}
use Rattle.c_arrow.specs.declared.fault.ArrowFault.{ArrowFault}
use Rattle.c_arrow.specs.declared.fault.ArrowFault.TheVariants.{OutOfMemory, OutOfRange, TooDeep, Library, Refused}

-- a fault is what is read, if that is this fault
pub stops_from_fault : {Y : Type 0} (e : ArrowFault) (f : Fault) (read : Result Y Fault) → IsFault e f → read ≡ Err f → Stops e read
stops_from_fault OutOfMemory f read h is = tt
stops_from_fault OutOfRange f read h is = is ∙ ap Err h
stops_from_fault (TooDeep c) f read h is = is ∙ ap Err h
stops_from_fault (Library c v) f read h is = is ∙ ap Err h
stops_from_fault (Refused r) f read h is = is ∙ ap Err h

-- the fault of a field with a name
pub stops_within : {Y : Type 0} (name : List ℕ) (e outer : ArrowFault) (read : Result Y Fault) → IsWithin name e outer → Stops e read → Stops outer (read_within name read)
stops_within name OutOfMemory outer read h is = rw h tt
stops_within name OutOfRange outer read h is = rw h (ap (read_within name) is)
stops_within name (TooDeep c) outer read h is = stops_from_fault outer (within name (deep_in (names_in c))) (read_within name read) h (ap (read_within name) is)
stops_within name (Library c v) outer read h is = stops_from_fault outer (within name (library_in (names_in c) v)) (read_within name read) h (ap (read_within name) is)
stops_within name (Refused r) outer read h is = stops_from_fault outer (within name (refusal_of r)) (read_within name read) h (ap (read_within name) is)

-- a fault of a part is one of the whole
pub stops_all : {A B : Type 0} (e : ArrowFault) (a : Result A Fault) (b : Result B Fault) → Stops e a → ((f : Fault) → a ≡ Err f → b ≡ Err f) → Stops e b
stops_all OutOfMemory a b h f = tt
stops_all OutOfRange a b h f = f out_of_range h
stops_all (TooDeep c) a b h f = f (deep_in (names_in c)) h
stops_all (Library c v) a b h f = f (library_in (names_in c) v) h
stops_all (Refused r) a b h f = f (refusal_of r) h

pub ruleset faults = (stops_from_fault)
