-- SPDX-License-Identifier: Apache-2.0
-- SPDX-FileCopyrightText: Copyright the Vortex contributors

use Rattle.std.proofs.Common.{◌∷◌, [], arith, inl, inr}
use Rattle.dtype_types.specs.tree.Width.{Fixed}
use Rattle.dtype_types.proofs.Widths.{fixed_parts, wide_push, narrow_push}
use Rattle.dtype_types.proofs.dtype.width.Width.plus.Goals as goal

pub returns-in-Variable : goal.returns-in-Variable
returns-in-Variable c ps p m f n = λ g. (rw c.in-Variable.is at (m n)) (fixed_parts ps (p ∷ []) g).0

pub returns-in-TooWide-field : goal.returns-in-TooWide-field
returns-in-TooWide-field c ps p m f n =
    let h = rw c.in-TooWide.is at (m n) in
    let k : Fixed p.1 = elim c.in-TooWide-field.is [ inl e ↦ (rw e at f).0 | inr w ↦ (rw w.1 at f).0 ] in
    wide_push ps p n h.0 k (inl h.1)

pub returns-in-TooWide-field-2 : goal.returns-in-TooWide-field-2
returns-in-TooWide-field-2 c ps p m f n =
    let k = rw c.in-TooWide-field-2.is at f in
    wide_push ps p n (rw c.in-Bytes.is at (m n)).0 k.0 (inr (inl k.1))

pub returns-in-Some : goal.returns-in-Some
returns-in-Some c ps p m f n =
    let h = rw c.in-Bytes.is at (m n) in
    let k = rw c.in-Bytes-field.is at f in
    narrow_push ps p n c.in-Some.bytes (h.0, h.1) (k.0, k.1) (omega arith) (omega arith)

pub returns-in-None : goal.returns-in-None
returns-in-None c ps p m f n =
    let h = rw c.in-Bytes.is at (m n) in
    let k = rw c.in-Bytes-field.is at f in
    wide_push ps p n h.0 k.0 (inr (inr (omega arith)))
