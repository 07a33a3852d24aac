-- SPDX-License-Identifier: Apache-2.0
-- SPDX-FileCopyrightText: Copyright the Vortex contributors

-- Lists of the fields of a struct and of the variants of a union. A field is a pair `(name, type)`, and a variant is a
-- triple `(name, (type, tag))`, so that `zip` of std makes these lists from a list of names, a list of types and a list
-- of tags. The types are of any kind. From `StructFields` and `UnionVariants`.
use Rattle.std.specs.Prelude.{List, map}
use Rattle.std.specs.Borrow.{Bor}

-- the types of a list of triples
abbrev pub types_of : {N T G : Type 0} → List (N × (T × G)) → List T
types_of ps = map (λ p. p.1.0) ps

-- the tags of a list of triples
abbrev pub tags_of : {N T G : Type 0} → List (N × (T × G)) → List G
tags_of ps = map (λ p. p.1.1) ps

-- the pair that a reference to a name and a reference to a type refer to
abbrev pub borrowed_pair : {N T : Type 0} → Bor N × Bor T → N × T
borrowed_pair p = (p.0.now, p.1.now)

-- the triple that a reference to a name, a tag and a reference to a type refer to
abbrev pub borrowed_triple : {N T G : Type 0} → Bor N × G × Bor T → N × (T × G)
borrowed_triple p = (p.0.now, (p.2.now, p.1))
