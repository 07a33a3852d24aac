-- SPDX-License-Identifier: Apache-2.0
-- SPDX-FileCopyrightText: Copyright the Vortex contributors

-- The message trees that a message can have: the bytes of metadata are below 256, and each number is in the range of
-- its field's type, which is 32 bits with or without a sign. Only code that reads a message can know this.
use Rattle.std.specs.Prelude.{◌<◌, ◌^◌, ℤ, List, All, FitsSigned}
use Rattle.std.specs.Int.{w32}
use Rattle.dtype_messages.specs.Message.{Message, Child, Messages, missing, null, bool, primitive, decimal, utf8, binary, list, fixed_size_list, map_of, struct, union, variant, extension, absent, present, no_message, more}
use Rattle.vortex_dtype.specs.Meaning.{Bytes}
use Rattle.vortex_dtype.specs.ReadInOrder.{or_empty}

-- the tags are signed 32-bit numbers
abbrev pub AreTags : List ℤ → Type 0
AreTags gs = All (λ g. FitsSigned w32 g) gs

abbrev mutual
  pub IsMessage : Message → Type 0
  IsMessage missing = Unit {0}
  IsMessage null = Unit {0}
  IsMessage (bool f) = Unit {0}
  IsMessage (primitive p f) = FitsSigned w32 p
  IsMessage (decimal p k f) = (p < 2 ^ 32) × FitsSigned w32 k
  IsMessage (utf8 f) = Unit {0}
  IsMessage (binary f) = Unit {0}
  IsMessage (list c f) = IsChild c
  IsMessage (fixed_size_list c k f) = (k < 2 ^ 32) × IsChild c
  IsMessage (map_of c v o f) = IsChild c × IsChild v
  IsMessage (struct ns ms f) = AreMessages ms
  IsMessage (union ns ms gs f) = AreMessages ms × AreTags gs
  IsMessage (variant f) = Unit {0}
  IsMessage (extension id c b) = IsChild c × Bytes (or_empty b)

  pub IsChild : Child → Type 0
  IsChild absent = Unit {0}
  IsChild (present m) = IsMessage m

  pub AreMessages : Messages → Type 0
  AreMessages no_message = Unit {0}
  AreMessages (more m ms) = IsMessage m × AreMessages ms
