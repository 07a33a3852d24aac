-- SPDX-License-Identifier: Apache-2.0
-- SPDX-FileCopyrightText: Copyright the Vortex contributors

-- The reading function agrees with the relations: it gives a type exactly where the message reads as that type, and
-- else a fault of the message.
use Rattle.std.proofs.Common.{◌≡◌, inl, inr, ℕ, ℤ, pos, negsuc, ◌<◌, List, [], ◌∷◌, length, map, Some, Result, Ok, Err, MatchResult, refl, sym, ap, ◌∙◌, arith}
use Rattle.std.specs.List.{AllByRecursion, zip}
use Rattle.std.proofs.lemmas.Bool.Decides.{Decides-eqb, nat_tests}
use Rattle.std.proofs.lemmas.Int.{ints}
use Rattle.std.proofs.lemmas.Result.{MatchResult-at_err, MatchResult-at_ok, MatchResult-weaker}
use Rattle.dtype_base.specs.declared.nullability.Nullability.{Nullability}
use Rattle.dtype_base.specs.declared.nullability.Nullability.TheVariants.{NonNullable, Nullable}
use Rattle.dtype_base.specs.declared.ptype.PType.{PType}
use Rattle.dtype_base.specs.declared.ptype.PType.TheVariants.{U8}
use Rattle.dtype_base.specs.declared.vortex_error.VortexError.{VortexError}
use Rattle.dtype_base.specs.declared.vortex_error.VortexError.TheVariants.{MapKeyNullable, Message as Faulty}
use Rattle.dtype_base.specs.declared.vortex_error.MessageFault.{MessageFault}
use Rattle.dtype_base.specs.declared.vortex_error.MessageFault.TheVariants.{ListElementMissing, FixedElementMissing, MapKeyMissing, MapValueMissing, TypeIdRange, StorageMissing}
use Rattle.dtype_base.specs.Nullability.{nullability_of}
use Rattle.dtype_types.specs.nullability.Nullable.{nullability}
use Rattle.dtype_types.specs.parts.Unions.{MakesUnion}
use Rattle.dtype_types.specs.tree.Tree as of
use Rattle.dtype_types.specs.tree.Tree.{Tree, variants}
use Rattle.dtype_messages.specs.Message.{Message, Child, Messages, missing, primitive, decimal, list, fixed_size_list, map_of, struct, union, extension, absent, present, no_message, more}
use Rattle.dtype_messages.specs.PTypeNumbers.{ptype_at}
use Rattle.dtype_messages.proofs.lemmas.Numbers.{number_at}
use Rattle.vortex_dtype.specs.Meaning.{Meaning}
use Rattle.vortex_dtype.specs.Numbers.{integer_byte}
use Rattle.vortex_dtype.specs.Reads.{Reads, ReadsChild, ReadsAll, AreBytes, Fault, ChildFault, SomeFault, SomeTagFault, UnionFault, number, message_count}
use Rattle.vortex_dtype.specs.ReadInOrder.{◌>>=◌, decimal_made, read, read_child, read_all, read_tags, primitive_read, decimal_read, map_read, when_required, struct_read, union_read, extension_read}
use Rattle.vortex_dtype.proofs.Constructors.{union_making, union_ok}

-- ---- what holds of the result of two steps in turn

-- the second step takes what the first gives; its error is that of both
bind_result : {A B : Type 0} (r : Result A VortexError) (f : A → Result B VortexError) (P : A → Type 0) (Q : VortexError → Type 0) (R : B → Type 0) (S : VortexError → Type 0)
    → MatchResult r P Q → ((x : A) → P x → MatchResult (f x) R S) → ((e : VortexError) → Q e → S e) → MatchResult (r >>= f) R S
bind_result (Ok x) f P Q R S h next stop = next x h
bind_result (Err e) f P Q R S h next stop = stop e h

-- ---- numbers

pub ptype_at-number : (p : PType) → ptype_at (number p) ≡ Some p
ptype_at-number U8 = refl
ptype_at-number _ = refl

pub byte_is : (g : ℤ) (k : ℕ) → integer_byte g ≡ Some k → (g ≡ pos k) × (k < 256)
byte_is (pos n) k e = grind (arith, nat_tests)
byte_is (negsuc n) k e = cc

pub bytes_are : (gs : List ℤ) (tags : List ℕ) → AreBytes gs tags → (gs ≡ map pos tags) × AllByRecursion (λ k. k < 256) tags
bytes_are [] [] h = (refl, tt)
bytes_are (g ∷ gs) (k ∷ tags) h = let is = byte_is g k h.0 in let rest = bytes_are gs tags h.1 in ((λ i. is.0 i ∷ rest.0 i), (is.1, rest.1))
bytes_are _ _ h = absurd h

-- ---- lists of messages

pub count_all : (s : Meaning) (ms : Messages) (ts : List Tree) → ReadsAll s ms ts → length ts ≡ message_count ms
count_all s no_message [] h = refl
count_all s (more m ms) (t ∷ ts) h = let rest = count_all s ms ts h.1 in omega (arith, rest)
count_all s _ _ h = absurd h

-- ---- what reading gives

pub tags_reading : (gs : List ℤ) → MatchResult (read_tags gs) (AreBytes gs) (λ e. (e ≡ Faulty TypeIdRange) × SomeTagFault gs)
unfolding read_tags
tags_reading [] = tt
tags_reading (g ∷ gs) = grind (arith, tags_reading gs)

union_reading : (ns : List (List ℕ)) (ts : List Tree) (gs : List ℤ) (n : Nullability)
    → MatchResult (union_read ns ts gs n)
    (λ t. (tags : List ℕ) × AreBytes gs tags × MakesUnion ns (length ts) tags × (t ≡ of.union (variants (zip ns (zip ts tags))) n)) (UnionFault ns (length ts) gs)
unfolding union_read
union_reading ns ts gs n = grind (arith, tags_reading gs, union_making ns ts, bytes_are gs)

key_reading : (n : Nullability) (t : Tree) → MatchResult (when_required n t) (λ u. (n ≡ NonNullable) × (u ≡ t)) (λ e. (e ≡ MapKeyNullable) × (n ≡ Nullable))
key_reading NonNullable t = (refl, refl)
key_reading Nullable t = (refl, refl)

mutual
  unfolding read primitive_read decimal_read decimal_made map_read struct_read extension_read

  pub reading : (s : Meaning) (m : Message) → MatchResult (read s m) (Reads s m) (Fault s m)
  reading s (primitive k f) = grind (arith, number_at, ptype_at-number)
  reading s (decimal p (pos k) f) = grind (arith, nat_tests, ints)
  reading s (decimal p (negsuc k) f) = grind (arith, nat_tests, ints)
  reading s (list c f) = bind_result (read_child s ListElementMissing c) _ _ _ _ _ (child_reading s ListElementMissing c) (λ x h. (x, h, refl)) (λ e j. j)
  reading s (fixed_size_list c k f) = bind_result (read_child s FixedElementMissing c) _ _ _ _ _ (child_reading s FixedElementMissing c) (λ x h. (x, h, refl)) (λ e j. j)
  reading s (map_of c v o f) =
      bind_result (read_child s MapKeyMissing c) _ _ _ _ _ (child_reading s MapKeyMissing c)
      (λ x h. bind_result (read_child s MapValueMissing v) _ _ _ _ _ (child_reading s MapValueMissing v)
      (λ y k. MatchResult-weaker (when_required (nullability x) (of.map_of x y o (nullability_of f))) (key_reading (nullability x) (of.map_of x y o (nullability_of f)))
      (λ t a. (x, y, h, k, a.0, a.1)) (λ e j. inr (inr (j.0, x, h, j.1))))
      (λ e j. inr (inl j))) (λ e. inl)
  reading s (struct ns ms f) = grind (arith, nat_tests, all_reading s ms, count_all s ms)
  reading s (union ns ms gs f) = grind (arith, all_reading s ms, union_reading ns, count_all s ms)
  reading s (extension id c b) =
      bind_result (read_child s StorageMissing c) _ _ _ _ _ (child_reading s StorageMissing c)
      (λ x h. grind (arith, h)) (λ e. inl)
  reading s _ = refl

  child_reading : (s : Meaning) (j : MessageFault) (c : Child) → MatchResult (read_child s j c) (ReadsChild s c) (ChildFault s j c)
  child_reading s j absent = refl
  child_reading s j (present m) = reading s m

  all_reading : (s : Meaning) (ms : Messages) → MatchResult (read_all s ms) (ReadsAll s ms) (SomeFault s ms)
  all_reading s no_message = tt
  all_reading s (more m ms) = grind (arith, reading s m, all_reading s ms)

-- a type that is given is one that the message reads as, and an error is a fault of the message
pub read_reads : (s : Meaning) (m : Message) (t : Tree) → read s m ≡ Ok t → Reads s m t
read_reads s m t e = MatchResult-at_ok (Reads s m) (Fault s m) t e (reading s m)

pub read_fault : (s : Meaning) (m : Message) (e : VortexError) → read s m ≡ Err e → Fault s m e
read_fault s m e is = MatchResult-at_err (Reads s m) (Fault s m) e is (reading s m)

-- ---- a message gives the type that it reads as

tags_ok : (gs : List ℤ) (tags : List ℕ) → AreBytes gs tags → read_tags gs ≡ Ok tags
unfolding read_tags
tags_ok [] [] h = refl
tags_ok (g ∷ gs) (k ∷ tags) h = rw (h.0, tags_ok gs tags h.1) refl
tags_ok _ _ h = absurd h

mutual
  unfolding read primitive_read decimal_read decimal_made map_read struct_read union_read extension_read

  pub reads_read : (s : Meaning) (m : Message) (t : Tree) → Reads s m t → read s m ≡ Ok t
  reads_read s missing t h = absurd h
  reads_read s (primitive k f) t h = rw (h.1, ptype_at-number h.0) (ap Ok (sym h.2))
  reads_read s (decimal p (pos k) f) t h = grind (arith, nat_tests, ints, h)
  reads_read s (decimal p (negsuc k) f) t h = grind (arith, nat_tests, ints, h)
  reads_read s (list c f) t h = rw (child_read s ListElementMissing c h.0 h.1) (ap Ok (sym h.2))
  reads_read s (fixed_size_list c k f) t h = rw (child_read s FixedElementMissing c h.0 h.1) (ap Ok (sym h.2))
  reads_read s (map_of c v o f) t h = rw (child_read s MapKeyMissing c h.0 h.2, child_read s MapValueMissing v h.1 h.3, h.4) (ap Ok (sym h.5))
  reads_read s (struct ns ms f) t h = rw (all_read s ms h.0 h.1, (Decides-eqb (length ns) (length h.0)).1 h.2) (ap Ok (sym h.3))
  reads_read s (union ns ms gs f) t h = rw (all_read s ms h.0 h.2, tags_ok gs h.1 h.3, union_ok ns h.0 h.1 (nullability_of f) h.4) (ap Ok (sym h.5))
  reads_read s (extension id c b) t h = rw (child_read s StorageMissing c h.0 h.2, h.3) (ap Ok (sym h.4))
  reads_read s _ t h = ap Ok (sym h)

  child_read : (s : Meaning) (j : MessageFault) (c : Child) (t : Tree) → ReadsChild s c t → read_child s j c ≡ Ok t
  child_read s j absent t h = absurd h
  child_read s j (present m) t h = reads_read s m t h

  all_read : (s : Meaning) (ms : Messages) (ts : List Tree) → ReadsAll s ms ts → read_all s ms ≡ Ok ts
  all_read s no_message [] h = refl
  all_read s (more m ms) (t ∷ ts) h = rw (reads_read s m t h.0, all_read s ms ts h.1) refl
  all_read s _ _ h = absurd h

-- a message reads as one type at most
pub reads_once : (s : Meaning) (m : Message) (t u : Tree) → Reads s m t → Reads s m u → t ≡ u
reads_once s m t u h k = let e : ◌≡◌ {A = Result Tree VortexError} (Ok t) (Ok u) = sym (reads_read s m t h) ∙ reads_read s m u k in cc

pub child_once : (s : Meaning) (c : Child) (t u : Tree) → ReadsChild s c t → ReadsChild s c u → t ≡ u
child_once s absent t u h k = absurd h
child_once s (present m) t u h k = reads_once s m t u h k
