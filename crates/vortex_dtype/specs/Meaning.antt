-- SPDX-License-Identifier: Apache-2.0
-- SPDX-FileCopyrightText: Copyright the Vortex contributors

-- What plugins and sessions are in contracts. From the documentation of `ExtDTypePlugin` and `DTypeSession`: a plugin
-- determines which bytes it writes back for the metadata of an extension. A session determines which plugin is
-- registered under an id, and whether the metadata of unknown ids is kept.
use Rattle.std.specs.Prelude.{◌≡◌, ◌↔◌, ℕ, List, Option, Some, None, IsSome, Contains, Bool, true, false, if◌then◌else◌, bytes_eq}
use Rattle.std.specs.Cmp.Lexicographic.{slice_cmp}
use Rattle.std.specs.List.Sorted.{IsStrictlySortedBy}
use Rattle.std.specs.Ordering.{nat_cmp}
pub use Rattle.dtype_base.specs.Bytes.{Bytes}
use Rattle.dtype_base.specs.declared.nullability.Nullability.{Nullability}
use Rattle.dtype_base.specs.declared.vortex_error.VortexError.{VortexError}
use Rattle.dtype_base.specs.declared.vortex_error.VortexError.TheVariants.{MetadataRefused, Message as Faulty}
use Rattle.dtype_base.specs.declared.vortex_error.MessageFault.TheVariants.{ExtensionUnregistered}
use Rattle.dtype_types.specs.tree.Tree.{Tree, no_items, item, null, bool, primitive, decimal, utf8, binary, list, fixed_size_list, map_of, struct, union, variant, extension, Holder, Items}
use Rattle.dtype_types.specs.tree.Valid.{Valid}
use Rattle.dtype_types.specs.nullability.Nullable.{SetNull}

-- a plugin in contracts: the bytes that it writes back for these bytes over this storage, or `None` if it doesn't
-- accept them
abbrev pub Rewrites : Type 0
Rewrites = List ℕ → Tree → Option (List ℕ)

-- the two laws of a plugin: what it writes back consists of bytes and is written back unchanged if it is read again,
-- and the outer nullability of the storage makes no difference
pub record Lawful (r : Rewrites) : Type 0 where
  pub again : (b c : List ℕ) (s : Tree) → Bytes b → Valid s → r b s ≡ Some c → Bytes c × (r c s ≡ Some c)
  pub outer : (b : List ℕ) (s t : Tree) (n : Nullability) → Bytes b → Valid s → SetNull s n t → r b t ≡ r b s

-- a session in contracts: what is registered under an id, and whether unknown ids are kept
pub record Meaning : Type 0 where
  pub registered : List ℕ → Option Rewrites
  pub unknown : Bool

-- a new session: nothing is registered, and unknown ids are an error
unfoldable pub empty_meaning : Meaning
empty_meaning = record { registered = λ id. None; unknown = false }

-- the session after r is registered under i, in place of what was registered under it
unfoldable pub register_in : List ℕ → Rewrites → Meaning → Meaning
register_in i r m = record { registered = λ id. if bytes_eq i id then Some r else m.registered id; unknown = m.unknown }

-- the session that keeps unknown ids from now on
unfoldable pub allow_unknown_in : Meaning → Meaning
allow_unknown_in m = record { registered = m.registered; unknown = true }

-- the ids under which a plugin is registered, each once, sorted by their bytes
pub record ListsIds (m : Meaning) (ids : List (List ℕ)) : Type 0 where
  pub each : (id : List ℕ) → Contains ids id ↔ IsSome (m.registered id)
  pub sorted : IsStrictlySortedBy (slice_cmp nat_cmp) ids

-- every plugin of the session is lawful
pub record LawfulSession (m : Meaning) : Type 0 where
  pub each : (id : List ℕ) (r : Rewrites) → m.registered id ≡ Some r → Lawful r

-- The bytes that are kept in place of these bytes. If a plugin is registered, they are what it writes back, or `None`
-- if it doesn't accept the bytes. If no plugin is registered, they are the bytes themselves if unknown ids are kept,
-- and otherwise `None`.
abbrev pub kept : Option Rewrites → Bool → List ℕ → Tree → Option (List ℕ)
kept None unknown b s = if unknown then Some b else None
kept (Some r) unknown b s = r b s

-- the bytes that the session keeps for an extension of this id with these bytes over this storage
abbrev pub keeps : Meaning → List ℕ → List ℕ → Tree → Option (List ℕ)
keeps m id b s = kept (m.registered id) m.unknown b s

-- the error if nothing is kept: that the plugin doesn't accept the bytes, or that no plugin is registered
abbrev pub unkept_error_of : Option Rewrites → VortexError
unkept_error_of None = Faulty ExtensionUnregistered
unkept_error_of (Some r) = MetadataRefused

-- the error of a session for an id if nothing is kept
abbrev pub unkept_error : Meaning → List ℕ → VortexError
unkept_error m id = unkept_error_of (m.registered id)

-- the session admits a type: it keeps the metadata of every extension in the type unchanged
abbrev mutual
  pub Admits : Meaning → Tree → Type 0
  Admits m null = Unit {0}
  Admits m (bool n) = Unit {0}
  Admits m (primitive p n) = Unit {0}
  Admits m (decimal d n) = Unit {0}
  Admits m (utf8 n) = Unit {0}
  Admits m (binary n) = Unit {0}
  Admits m (list t n) = Admits m t
  Admits m (fixed_size_list t size n) = Admits m t
  Admits m (map_of k v s n) = Admits m k × Admits m v
  Admits m (struct fs n) = AdmitsItems m fs
  Admits m (union vs n) = AdmitsItems m vs
  Admits m (variant n) = Unit {0}
  Admits m (extension id b s) = (keeps m id b s ≡ Some b) × Admits m s

  -- each type of the fields, or of the variants
  pub AdmitsItems : Meaning → {h : Holder} → Items h → Type 0
  AdmitsItems m no_items = Unit {0}
  AdmitsItems m (item n t g rest) = Admits m t × AdmitsItems m rest
