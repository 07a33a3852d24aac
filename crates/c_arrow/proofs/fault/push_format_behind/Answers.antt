-- SPDX-License-Identifier: Apache-2.0
-- SPDX-FileCopyrightText: Copyright the Vortex contributors

use Rattle.std.proofs.Common.{◌≡◌, ℕ, ◌≤◌, List, [], ◌∷◌, ◌++◌, length, false, refl, sym, ap, arith, string_bytes}
use Rattle.std.specs.Prelude.{codes}
use Rattle.c_arrow.specs.Messages.{behind, shown_text}
use Rattle.c_arrow.proofs.fault.push_format_behind.Goals as goal

is_behind : (format : List ℕ) → 1 ≤ length format → behind false format ≡ codes ", at the Arrow format \"" ++ (shown_text format ++ codes "\"")
is_behind [] some = absurd (omega (arith, some))
is_behind (b ∷ format) some = refl

pub returns-in_ok-push_format-in-len1-up : goal.returns-in_ok-push_format-in-len1-up
returns-in_ok-push_format-in-len1-up c =
    rw c.in_ok-push_format-in-len1-up.ensures (ap (λ (text : List ℕ). string_bytes c.args.out.now ++ text) (sym (is_behind c.args.format.now (omega (arith, c.in-len1-up.len_at_least)))))
