-- SPDX-License-Identifier: Apache-2.0
-- SPDX-FileCopyrightText: Copyright the Vortex contributors

-- The fields of a struct with the type of one of them replaced, and with other names, as lists of pairs of a name and a
-- type. As elsewhere, the first field with a name counts. For example, `a=i32, b=utf8, a=u8` with the field `a` of type
-- `bool` are `a=bool, b=utf8, a=u8`, and renamed by the table that has `x` for `a` they are `x=i32, b=utf8, x=u8`.
use Rattle.std.specs.Prelude.{◌≡◌, ◌≢◌, ◌<◌, ℕ, List, [], ◌∷◌, Some, if◌then◌else◌, map, slice_get}
use Rattle.std.specs.Str.{bytes_eq}
use Rattle.dtype_types.specs.tree.Tree.{Tree}

-- the fields, with the type of the first field named `m` replaced by `u`; or, if no field has this name, with one more
-- field at the end
abbrev pub with_named : List (List ℕ × Tree) → List ℕ → Tree → List (List ℕ × Tree)
with_named [] m u = (m, u) ∷ []
with_named (p ∷ ps) m u = if bytes_eq p.0 m then (p.0, u) ∷ ps else p ∷ with_named ps m u

-- A table of names is a list of pairs of an old name and a new name. This is the new name that it has for `n`: that of
-- the first pair whose old name is `n`, or `n` itself if there is no such pair.
abbrev pub new_name : List (List ℕ × List ℕ) → List ℕ → List ℕ
new_name [] n = n
new_name (r ∷ rs) n = if bytes_eq r.0 n then r.1 else new_name rs n

-- the fields, each with the new name that the table has for its name
abbrev pub renamed : List (List ℕ × List ℕ) → List (List ℕ × Tree) → List (List ℕ × Tree)
renamed rs ps = map (λ p. (new_name rs p.0, p.1)) ps

-- `n` is the first name that repeats in a list: it is at `place` and at an earlier place, and no name repeats before
-- `place`
pub record IsFirstRepeat (names : List (List ℕ)) (n : List ℕ) : Type 0 where
  pub place : ℕ
  pub here : slice_get names place ≡ Some n
  pub earlier : ℕ
  pub before : earlier < place
  pub same : slice_get names earlier ≡ Some n
  pub first : (j k : ℕ) (m : List ℕ) → j < k → k < place → slice_get names j ≡ Some m → slice_get names k ≢ Some m
