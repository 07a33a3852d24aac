-- SPDX-License-Identifier: Apache-2.0
-- SPDX-FileCopyrightText: Copyright the Vortex contributors

-- The program's faults: what is printed of each, and which come before anything is written. From the
-- documentation of `run`.
use Rattle.std.specs.Prelude.{ℕ, List, codes}
use Rattle.dtype_demo.specs.declared.fault.DemoFault.{DemoFault}
use Rattle.dtype_demo.specs.declared.fault.DemoFault.TheVariants.{ReadFailed, WriteFailed, InputTooLong, NotUtf8, OutOfMemory}

abbrev pub fault_text : DemoFault → List ℕ
fault_text ReadFailed = codes "read failed"
fault_text WriteFailed = codes "write failed"
fault_text InputTooLong = codes "input too long"
fault_text NotUtf8 = codes "not UTF-8"
fault_text OutOfMemory = codes "out of memory"

-- with this fault nothing has been written
abbrev pub BeforeWriting : DemoFault → Type 0
BeforeWriting ReadFailed = Unit {0}
BeforeWriting InputTooLong = Unit {0}
BeforeWriting NotUtf8 = Unit {0}
BeforeWriting WriteFailed = ⊥
BeforeWriting OutOfMemory = ⊥
