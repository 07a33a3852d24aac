-- SPDX-License-Identifier: Apache-2.0
-- SPDX-FileCopyrightText: Copyright the Vortex contributors

-- Why a schema has no type here, or a type no schema, as plain data.
use Rattle.std.specs.Prelude.{◌≡◌, ◌==◌, if◌then◌else◌, ℕ, List, [], ◌∷◌, ◌++◌, map, Option, Some, None, Result, Ok, Err}
use Rattle.std.specs.declared.alloc.Global.{Global}
use Rattle.std.specs.declared.vec.Vec.{Vec}
use Rattle.dtype_base.specs.declared.vortex_error.VortexError.{VortexError}
use Rattle.dtype_base.specs.declared.vortex_error.VortexError.TheVariants as error
use Rattle.c_arrow.specs.declared.fault.ArrowFault.{ArrowFault}
use Rattle.c_arrow.specs.declared.fault.ArrowFault.TheVariants.{OutOfMemory, OutOfRange, TooDeep, Library, Refused}
use Rattle.c_arrow.specs.declared.fault.Column.{Column}
use Rattle.c_arrow.specs.declared.fault.Problem.{Problem}
use Rattle.c_arrow.specs.declared.fault.Problem.TheVariants as p
use Rattle.c_arrow.specs.declared.fault.Refusal.{Refusal}

-- A fault: nodes and texts of no schema, a field whose type is nested too deeply, one whose type the library refuses, or one that is
-- refused. The last three tell the names of the fields from this one outwards, and a refusal also the format of the field and what
-- is wrong with it. For example, a refusal tells the names `item` and `a`, and the format `tdX`, for the child of a list in the
-- column `a`.
pub data Fault : Type 0 where
  out_of_range : Fault
  deep_in : List (List ℕ) → Fault
  library_in : List (List ℕ) → VortexError → Fault
  refused : List (List ℕ) → List ℕ → Problem → Fault

-- the fault that a field is nested too deeply, and that the library refuses its type, as the field itself sees them
abbrev pub too_deep : Fault
too_deep = deep_in []

abbrev pub library : VortexError → Fault
library v = library_in [] v

-- The fault of a field with this name, as its parent sees it: the name is added to those of the fault. For example, a refusal with
-- the name `item` is one with the names `item` and `a` for the parent of the field `a`.
abbrev pub within : List ℕ → Fault → Fault
within name out_of_range = out_of_range
within name (deep_in names) = deep_in (names ++ name ∷ [])
within name (library_in names v) = library_in (names ++ name ∷ []) v
within name (refused names format problem) = refused (names ++ name ∷ []) format problem

-- what is read of a field with this name, as its parent sees it
abbrev pub read_within : {Y : Type 0} → List ℕ → Result Y Fault → Result Y Fault
read_within name (Ok y) = Ok y
read_within name (Err f) = Err (within name f)

-- what follows a value that was read
infixl 10 ◌>>=◌
abbrev pub ◌>>=◌ : {A B : Type 0} → Result A Fault → (A → Result B Fault) → Result B Fault
(Ok x) >>= f = f x
(Err e) >>= f = Err e

-- a value, or else this fault
abbrev pub or_fault : {A : Type 0} → Fault → Option A → Result A Fault
or_fault f (Some x) = Ok x
or_fault f None = Err f

-- the names of the fields from the one that a fault is about outwards, of which the root has none
abbrev pub names_of : Option (Vec (Vec ℕ Global) Global) → List (List ℕ)
names_of None = []
names_of (Some names) = map (λ n. n.items) names.items

abbrev pub names_in : Column → List (List ℕ)
names_in c = names_of c.names

-- a refusal as plain data
abbrev pub refusal_of : Refusal → Fault
refusal_of r = refused (names_in r.column) r.format.items r.problem

-- a function returned this fault, unless memory ran out
abbrev pub IsFault : ArrowFault → Fault → Type 0
IsFault OutOfMemory f = Unit {0}
IsFault OutOfRange f = f ≡ out_of_range
IsFault (TooDeep c) f = f ≡ deep_in (names_in c)
IsFault (Library c v) f = f ≡ library_in (names_in c) v
IsFault (Refused r) f = f ≡ refusal_of r

-- the fault that the library refuses the type of a field, as the field itself sees it
abbrev pub IsLibrary : VortexError → ArrowFault → Type 0
IsLibrary v (Library c w) = (names_in c ≡ []) × (w ≡ v)
IsLibrary v _ = ⊥

-- the error of the library, as a function of this crate returns it
abbrev pub IsMemory : VortexError → ArrowFault → Type 0
IsMemory error.OutOfMemory e = e ≡ OutOfMemory
IsMemory v e = IsLibrary v e

-- a function returned the first fault with this name, unless memory ran out
abbrev pub IsWithin : List ℕ → ArrowFault → ArrowFault → Type 0
IsWithin name OutOfMemory e = e ≡ OutOfMemory
IsWithin name OutOfRange e = e ≡ OutOfRange
IsWithin name (TooDeep c) e = IsFault e (within name (deep_in (names_in c)))
IsWithin name (Library c v) e = IsFault e (within name (library_in (names_in c) v))
IsWithin name (Refused r) e = IsFault e (within name (refusal_of r))

-- the fault is what is read, unless memory ran out
abbrev pub Stops : {Y : Type 0} → ArrowFault → Result Y Fault → Type 0
Stops OutOfMemory read = Unit {0}
Stops OutOfRange read = read ≡ Err out_of_range
Stops (TooDeep c) read = read ≡ Err (deep_in (names_in c))
Stops (Library c v) read = read ≡ Err (library_in (names_in c) v)
Stops (Refused r) read = read ≡ Err (refusal_of r)

-- what a function returned, seen by view, is this value or this fault, unless memory ran out
abbrev pub Gives : {X Y : Type 0} → (X → Y) → Result X ArrowFault → Result Y Fault → Type 0
Gives view (Ok x) read = read ≡ Ok (view x)
Gives view (Err e) read = Stops e read

-- the problem that a node tells by this number, if it is one that nodes have
unfoldable pub problem_of_number : ℕ → Option Problem
problem_of_number n =
    if n == 1 then Some p.Released
    else if n == 2 then Some p.NoFormat
    else if n == 3 then Some p.NoChild
    else if n == 4 then Some p.Count
    else if n == 5 then Some p.Nested
    else if n == 6 then Some p.Many
    else None
