-- SPDX-License-Identifier: Apache-2.0
-- SPDX-FileCopyrightText: Copyright the Vortex contributors

-- Which errors other than `OutOfMemory` a session returns and when, and which errors a downcast returns. The numbers of
-- the errors are re-exported from `dtype_base`. From the documentation of `deserialize` and `try_downcast`.
pub use Rattle.dtype_base.specs.Errors.{fault_number, number_of}
use Rattle.std.specs.Prelude.{◌≡◌, ◌≢◌, ℕ, List, Option, Some, None, Bool, false}
use Rattle.dtype_base.specs.declared.vortex_error.VortexError.{VortexError}
use Rattle.dtype_base.specs.declared.vortex_error.VortexError.TheVariants.{OutOfMemory, MetadataRefused, ExtensionIdDiffers, Message}
use Rattle.dtype_base.specs.declared.vortex_error.MessageFault.TheVariants.{ExtensionUnregistered}
use Rattle.dtype_types.specs.tree.Tree.{Tree}
use Rattle.vortex_dtype.specs.Meaning.{Meaning, Rewrites}

-- the registered plugin doesn't accept these bytes over this storage
abbrev pub Refuses : Option Rewrites → List ℕ → Tree → Type 0
Refuses None b s = ⊥
Refuses (Some r) b s = r b s ≡ None

-- the errors of a session: `MetadataRefused` (22) if the registered plugin doesn't accept the metadata, and
-- `ExtensionUnregistered` (35) if no plugin is registered and unknown ids aren't kept
abbrev pub SessionError : Meaning → List ℕ → List ℕ → Tree → VortexError → Type 0
SessionError m id b s MetadataRefused = Refuses (m.registered id) b s
SessionError m id b s (Message ExtensionUnregistered) = (m.registered id ≡ None) × (m.unknown ≡ false)
SessionError m id b s _ = ⊥

-- the bytes can't be read, or what is read doesn't fit
abbrev pub Unfit : {M : Type 0} → Option M → (M → Bool) → Type 0
Unfit None fits = Unit {0}
Unfit (Some m) fits = fits m ≡ false

-- the errors of a downcast, by the id of the extension and the id of the vtable: `ExtensionIdDiffers` (23) only if the
-- ids differ, `MetadataRefused` (22) only if they are the same, and `OutOfMemory` (0) in both cases
abbrev pub DowncastError : List ℕ → List ℕ → VortexError → Type 0
DowncastError i j OutOfMemory = Unit {0}
DowncastError i j ExtensionIdDiffers = i ≢ j
DowncastError i j MetadataRefused = i ≡ j
DowncastError i j _ = ⊥
