-- SPDX-License-Identifier: Apache-2.0
-- SPDX-FileCopyrightText: Copyright the Vortex contributors

-- Reading the types of a struct or a union one at a time, and from a result of reading to the relations of `Reads`.
use Rattle.std.proofs.Common.{◌≡◌, ◌≢◌, ◌⊎◌, ℕ, ◌+◌, ◌<◌, ◌≤◌, ℤ, pos, List, [], ◌∷◌, ◌++◌, length, map, take, All, zero, suc, get_or, Result, Ok, Err, IfOk, MatchResult, refl, sym, ap, subst, arith}
use Rattle.std.specs.Int.{w32}
use Rattle.std.specs.List.{filter_map, AllByRecursion}
use Rattle.std.specs.Prelude.{FitsSigned}
use Rattle.std.proofs.lemmas.Grind.{common_steps}
use Rattle.std.proofs.lemmas.Int.{ints}
use Rattle.std.proofs.lemmas.List.Elements.{All-from_recursion, recursion_from_All, All-map, All-more}
use Rattle.std.proofs.lemmas.Result.{MatchResult-at_ok}
use Rattle.std.proofs.lemmas.List.{take_all}
use Rattle.dtype_base.specs.declared.vortex_error.VortexError.{VortexError}
use Rattle.dtype_base.specs.declared.vortex_error.VortexError.TheVariants.{OutOfMemory, Message as Faulty}
use Rattle.dtype_base.specs.declared.vortex_error.MessageFault.TheVariants.{TypeIdRange}
use Rattle.dtype_types.specs.tree.Tree.{Tree}
use Rattle.dtype_types.specs.tree.TreeOf.{tree}
use Rattle.dtype_types.specs.tree.Valid.{Valid}
use Rattle.dtype_types.specs.declared.dtype.DType.{DType as Logical}
use Rattle.dtype_messages.specs.Message.{Message, messages}
use Rattle.dtype_messages.specs.MessageOf.{message}
use Rattle.vortex_dtype.specs.Accepts.{Accepts}
use Rattle.vortex_dtype.specs.IsMessage.{IsMessage, AreMessages, AreTags}
use Rattle.vortex_dtype.specs.Meaning.{Meaning, Admits, LawfulSession}
use Rattle.vortex_dtype.specs.Numbers.{integer_byte}
use Rattle.vortex_dtype.specs.ReadInOrder.{read, read_all, read_tags, ◌>>=◌, Gives, Fails}
use Rattle.vortex_dtype.specs.Reads.{AreBytes, Fault}
use Rattle.vortex_dtype.specs.Written.{written}
use Rattle.vortex_dtype.proofs.lemmas.InOrder.{bytes_are, read_fault, read_reads, tags_reading}
use Rattle.vortex_dtype.proofs.lemmas.Reads.{reads_accepted, written_read}
use Rattle.dtype_messages.specs.declared.pb.DType.{DType}

bind_fails : {A B : Type 0} (e : VortexError) (r : Result A VortexError) (f : A → Result B VortexError) → Fails e r → Fails e (r >>= f)
bind_fails OutOfMemory r f h = tt
bind_fails e r f h = ap (λ x. x >>= f) h

-- ---- the types of a struct or a union

-- each of the messages is one, and reads as the type at its position
pub record AreRead (s : Meaning) (ds : List DType) (vs : List Logical) : Type 0 where
  pub types : map (λ d. read s (message d)) ds ≡ map (λ v. Ok (tree v)) vs
  pub messages : All (λ d. IsMessage (message d)) ds

pub read_more : (s : Meaning) (ds : List DType) (i : ℕ) (d : DType) (vs longer : List Logical) (v : Logical) → AreRead s (take i ds) vs → i < length ds → d ≡ get_or ds i d
    → read s (message d) ≡ Ok (tree v) → IsMessage (message d) → longer ≡ vs ++ v ∷ [] → AreRead s (take (i + 1) ds) longer
read_more s ds i d vs longer v so_far less at r m pushed = grind (arith, common_steps, so_far, at, r, m, pushed, All-more (λ d. IsMessage (message d)) ds i d less)

all_read : (s : Meaning) (ds : List DType) (vs : List Logical) → map (λ d. read s (message d)) ds ≡ map (λ v. Ok (tree v)) vs → AllByRecursion (λ d. IsMessage (message d)) ds
    → (read_all s (messages (map message ds)) ≡ Ok (map tree vs)) × AreMessages (messages (map message ds))
unfolding read
all_read s [] [] e h = (refl, tt)
all_read s (d ∷ ds) (v ∷ vs) e h = grind (arith, all_read s ds vs, e, h)
all_read s _ _ e h = cc

-- after the last, all messages are read
pub ends : (s : Meaning) (ds : List DType) (i : ℕ) (vs : List Logical) → AreRead s (take i ds) vs → length ds ≤ i
    → (read_all s (messages (map message ds)) ≡ Ok (map tree vs)) × AreMessages (messages (map message ds))
ends s ds i vs so_far over = grind (arith, so_far, take_all i ds over, all_read s ds vs, recursion_from_All (λ d. IsMessage (message d)) ds)

-- an error of one message, after those that read as types, is that of all
one_fails : (s : Meaning) (ds : List DType) (vs : List Logical) (i : ℕ) (d : DType) (e : VortexError) → map (λ d. read s (message d)) (take i ds) ≡ map (λ v. Ok (tree v)) vs
    → i < length ds → d ≡ get_or ds i d → Fails e (read s (message d)) → Fails e (read_all s (messages (map message ds)))
unfolding read
one_fails s [] vs i d e is less at f = absurd (omega arith)
one_fails s (x ∷ ds) vs zero d e is less at f = grind (arith, at, f)
one_fails s (x ∷ ds) [] (suc i) d e is less at f = cc
one_fails s (x ∷ ds) (v ∷ vs) (suc i) d e is less at f = grind (arith, one_fails s ds vs i d e, is, at, f)

pub stops : (s : Meaning) (ds : List DType) (i : ℕ) (vs : List Logical) (d : DType) (e : VortexError) (r : Result Logical VortexError) → AreRead s (take i ds) vs → i < length ds → d ≡ get_or ds i d
    → Fails e (read s (message d)) → r ≡ Err e → (made : List Tree → Result Tree VortexError) → Gives tree r (read_all s (messages (map message ds)) >>= made)
stops s ds i vs d e r so_far less at f is made = rw is (bind_fails e _ made (one_fails s ds vs i d e so_far.types less at f))

-- ---- the tags of a union

-- the tags are read where all of them are bytes: then they are as many
bytes_at_most : (gs : List ℤ) → length (filter_map integer_byte gs) ≤ length gs
bytes_at_most [] = omega arith
bytes_at_most (g ∷ gs) = grind (arith, bytes_at_most gs)

pub tags_kept : (gs : List ℤ) (bs : List ℕ) → bs ≡ filter_map integer_byte gs → length bs ≡ length gs → read_tags gs ≡ Ok bs
unfolding read_tags
tags_kept [] bs e same = grind (arith, e)
tags_kept (g ∷ gs) bs e same = grind (arith, tags_kept gs (filter_map integer_byte gs) refl, bytes_at_most gs, e)

pub tag_lacking : (gs : List ℤ) (bs : List ℕ) → bs ≡ filter_map integer_byte gs → length bs ≢ length gs → read_tags gs ≡ Err (Faulty TypeIdRange)
unfolding read_tags
tag_lacking [] bs e other = absurd (other (ap length e))
tag_lacking (g ∷ gs) bs e other = grind (arith, tag_lacking gs (filter_map integer_byte gs) refl, e)

-- tags that are read fit 32 bits
pub tags_fit : (gs : List ℤ) (tags : List ℕ) → read_tags gs ≡ Ok tags → AreTags gs
tags_fit gs tags e =
    let are = bytes_are gs tags (MatchResult-at_ok (AreBytes gs) _ tags e (tags_reading gs)) in
    let small = All-from_recursion (λ k. k < 256) tags are.1 in
    subst AreTags (sym are.0) (All-map (λ g. FitsSigned w32 g) pos tags (λ k d lt. let below = small k d lt in omega (arith, ints, below)))

-- ---- from a result to the relations

pub gives_in_order : (s : Meaning) (m : Message) (r : Result Logical VortexError) → Gives tree r (read s m) → MatchResult r (λ t. read s m ≡ Ok (tree t)) (λ e. (e ≡ OutOfMemory) ⊎ (read s m ≡ Err e))
gives_in_order s m r g = grind (arith, g)

pub gives_accepts : (s : Meaning) → LawfulSession s → (m : Message) (r : Result Logical VortexError) → IfOk r (λ _. IsMessage m) → Gives tree r (read s m)
    → MatchResult r (λ t. Accepts s m (tree t)) (λ e. (e ≡ OutOfMemory) ⊎ Fault s m e)
gives_accepts s l m r i g = grind (arith, i, g, reads_accepted s m, read_reads s m, read_fault s m, l)

-- the message of an admitted type reads as that type
pub gives_back : (s : Meaning) (m : Message) (r : Result Logical VortexError) → Gives tree r (read s m) → (t : Tree) → Valid t → Admits s t → m ≡ written t → MatchResult r (λ u. tree u ≡ t) (λ e. e ≡ OutOfMemory)
gives_back s m r g t v a e = grind (arith, g, written_read s m t v a e)
