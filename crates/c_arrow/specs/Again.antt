-- SPDX-License-Identifier: Apache-2.0
-- SPDX-FileCopyrightText: Copyright the Vortex contributors

-- What is read again of what was written of an extension.
use Rattle.std.specs.Prelude.{◌≡◌, ◌⊎◌, ◌++◌, ℕ, List, Bool, false, drop, Some}
use Rattle.dtype_base.specs.declared.nullability.Nullability.{Nullability}
use Rattle.dtype_types.specs.tree.Tree.{Tree, extension}
use Rattle.c_arrow.specs.Formats.{format_of}
use Rattle.c_arrow.specs.Kept.{id_of, is_list, storage_of}
use Rattle.c_arrow.specs.Keys.{Said}
use Rattle.c_arrow.specs.Temporal.{Written, date_tree, time_tree, timestamp_tree}
use Rattle.c_arrow.specs.declared.format.Format.TheVariants as f
use Rattle.c_arrow.specs.declared.kept.Kept.{Kept}
use Rattle.c_arrow.specs.declared.temporal.Unit.{Unit as TimeUnit}

-- The format is that of a date, a time or a timestamp, and with this nullability it stands for this type. For example, `tdD`
-- stands for the extension `vortex.date` over i32 with the metadata 4.
abbrev pub IsTemporal : List ℕ → Nullability → Tree → Type 0
IsTemporal format n t = (u : TimeUnit) × (((format_of format ≡ Some (f.Date u)) × (date_tree u n ≡ t)) ⊎ (((format_of format ≡ Some (f.Time u)) × (time_tree u n ≡ t)) ⊎ ((format_of format ≡ Some (f.Timestamp u)) × (timestamp_tree u (drop 4 format) n ≡ Some t))))

-- The format is that of a duration or an interval, and with this nullability it stands for this type, whose storage type is a list
-- if `list` says so. For example, `tDs` stands for `arrow.duration` over i64 with the metadata `tDs`.
abbrev pub IsKept : List ℕ → Nullability → Bool → Tree → Type 0
IsKept format n list t = (it : Kept) × (format_of format ≡ Some (f.Kept it)) × (list ≡ is_list it) × (extension (id_of it) format (storage_of it n) ≡ t)

-- The same of a format that was written. For example, `tss:` with the time zone `UTC` stands for the extension
-- `vortex.timestamp` over i64 whose metadata has the unit of seconds and this time zone.
abbrev pub StandsFor : Written → Tree → Type 0
StandsFor w t = (IsTemporal (w.letters ++ w.zone) w.nullability t × (w.is_list ≡ false)) ⊎ IsKept (w.letters ++ w.zone) w.nullability w.is_list t

-- what metadata says in which both keys of an extension have these values
abbrev pub both_said : List ℕ → List ℕ → Said
both_said id bytes = record { name = Some id; metadata = Some bytes }
