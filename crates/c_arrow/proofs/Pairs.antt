-- SPDX-License-Identifier: Apache-2.0
-- SPDX-FileCopyrightText: Copyright the Vortex contributors

-- The pairs of metadata, read one after the other as the loop does.
use Rattle.std.proofs.Common.{◌≡◌, ℕ, suc, ◌+◌, ◌-◌, ◌<◌, List, Option, Some, refl, sym, ◌∙◌, arith}
use Rattle.c_arrow.specs.Keys.{Said, said_with, text_at, with_pair}

pub one_more : (said : Said) (count i : ℕ) (rest : List ℕ) (total : Option Said) (key behind value after : List ℕ) (more : Said) → i < count
    → text_at rest ≡ Some (key, behind) → text_at behind ≡ Some (value, after) → with_pair said key value ≡ Some more
    → said_with said (count - i) rest ≡ total → said_with more (count - (i + 1)) after ≡ total
one_more said count i rest total key behind value after more lt h v w so_far =
    let k : count - i ≡ suc (count - (i + 1)) = omega arith in
    let one : said_with said (count - i) rest ≡ said_with more (count - (i + 1)) after = rw (k, h, v, w) refl in
    sym one ∙ so_far
