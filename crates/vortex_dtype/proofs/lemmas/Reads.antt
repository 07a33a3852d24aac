-- SPDX-License-Identifier: Apache-2.0
-- SPDX-FileCopyrightText: Copyright the Vortex contributors

-- Laws of reading, over message trees and types alone.
use Rattle.std.proofs.Common.{◌≡◌, ◌≢◌, ◌↔◌, ⊎_elim, ℕ, suc, ◌<◌, ℤ, pos, List, [], ◌∷◌, length, map, Option, Some, None, Ok, Err, IsErr, Bool, true, false, refl, sym, ap, ◌∙◌, subst, arith}
use Rattle.std.specs.List.{AllByRecursion, zip}
use Rattle.std.proofs.lemmas.Bool.Decides.{nat_tests}
use Rattle.std.proofs.lemmas.Int.{ints}
use Rattle.std.proofs.lemmas.List.Elements.{All-from_recursion, recursion_from_All}
use Rattle.std.proofs.lemmas.Option.{none-some, same_Some}
use Rattle.dtype_base.specs.Nullability.{nullability_of}
use Rattle.dtype_base.specs.declared.nullability.Nullability.{Nullability}
use Rattle.dtype_base.specs.declared.vortex_error.VortexError.{VortexError}
use Rattle.dtype_base.specs.declared.vortex_error.VortexError.TheVariants.{Message as Faulty}
use Rattle.dtype_base.specs.declared.vortex_error.MessageFault.{MessageFault}
use Rattle.dtype_base.specs.declared.vortex_error.MessageFault.TheVariants.{ListElementMissing, FixedElementMissing, MapKeyMissing, MapValueMissing, StorageMissing, ExtensionUnregistered}
use Rattle.dtype_types.specs.nullability.Nullable.{set_null}
use Rattle.dtype_types.specs.parts.Lookups.{variant_tags}
use Rattle.dtype_types.specs.tree.Tree as of
use Rattle.dtype_types.specs.tree.Tree.{Tree, Fields, no_items, field, fields, Variants, item, variants, triples}
use Rattle.dtype_types.specs.tree.Valid.{Valid, ValidItems}
use Rattle.dtype_types.proofs.lemmas.ValidLists.{variants_are, zipped_variants}
use Rattle.dtype_messages.specs.Message.{Message, Child, Messages, messages, missing, null, primitive, decimal, list, fixed_size_list, map_of, struct, union, extension, absent, present, no_message, more}
use Rattle.vortex_dtype.specs.Meaning.{Meaning, Rewrites, LawfulSession, Admits, AdmitsItems, keeps, kept, unkept_error_of}
use Rattle.vortex_dtype.specs.ReadInOrder.{or_empty, read}
use Rattle.vortex_dtype.specs.Reads.{Reads, ReadsChild, ReadsAll, AreBytes, Fault, ChildFault, DecimalFault, SomeFault, SomeTagFault, UnionFault, message_count}
use Rattle.vortex_dtype.specs.Accepts.{Accepts}
use Rattle.vortex_dtype.specs.Written.{is_nullable, written, written_names, written_items, written_variant_names, written_tags, Normal, NormalChild, NormalAll}
use Rattle.vortex_dtype.specs.IsMessage.{IsMessage, IsChild, AreMessages}
use Rattle.vortex_dtype.proofs.lemmas.Sessions.{admits-set_null, keeps_again}
use Rattle.vortex_dtype.proofs.lemmas.Written.{nullability_of-is, written_is}
use Rattle.dtype_types.proofs.lemmas.Validity.{set_valid}
use Rattle.vortex_dtype.proofs.lemmas.InOrder.{bytes_are, child_once, count_all, read_fault, reading, reads_once, reads_read}

-- ---- a message with a fault reads as no type

same_tags : (gs hs : List ℕ) → map pos gs ≡ map pos hs → gs ≡ hs
same_tags [] [] e = refl
same_tags (g ∷ gs) (h ∷ hs) e = let first : g ≡ h = cc in let rest : map pos gs ≡ map pos hs = cc in let later = same_tags gs hs rest in cc
same_tags _ _ e = cc

no_tag_fault : (gs : List ℤ) (tags : List ℕ) → AreBytes gs tags → SomeTagFault gs → ⊥
no_tag_fault [] tags h f = f
no_tag_fault (g ∷ gs) [] h f = h
no_tag_fault (g ∷ gs) (k ∷ tags) h f = ⊎_elim (λ a. none-some k (sym a ∙ h.0)) (no_tag_fault gs tags h.1) f

mutual
  pub fault_none : (s : Meaning) (m : Message) (k : VortexError) (t : Tree) → Fault s m k → Reads s m t → ⊥
  fault_none s missing k t f h = h
  fault_none s (primitive p x) k t f h = f.1 h.0 h.1
  fault_none s (decimal p c x) k t f h = grind (arith, ints, h.0, f)
  fault_none s (list c x) k t f h = child_none s ListElementMissing c k h.0 f h.1
  fault_none s (fixed_size_list c n x) k t f h = child_none s FixedElementMissing c k h.0 f h.1
  fault_none s (map_of c v o x) k t f h = grind (arith, f, h, child_none s MapKeyMissing c k h.0, child_none s MapValueMissing v k h.1, child_once s c h.0)
  fault_none s (struct ns ms x) k t f h = ⊎_elim (λ a. some_none s ms k h.0 a h.1) (λ a. a.1 (h.2 ∙ count_all s ms h.0 h.1)) f
  fault_none s (union ns ms gs x) k t f h = grind (arith, f, h, some_none s ms k h.0, no_tag_fault gs h.1, same_tags h.1, bytes_are gs h.1 h.3, count_all s ms h.0 h.2)
  fault_none s (extension id c b) k t f h = grind (arith, f, h, child_none s StorageMissing c k h.0, child_once s c)
  fault_none s _ k t f h = f

  child_none : (s : Meaning) (j : MessageFault) (c : Child) (k : VortexError) (t : Tree) → ChildFault s j c k → ReadsChild s c t → ⊥
  child_none s j absent k t f h = h
  child_none s j (present m) k t f h = fault_none s m k t f h

  some_none : (s : Meaning) (ms : Messages) (k : VortexError) (ts : List Tree) → SomeFault s ms k → ReadsAll s ms ts → ⊥
  some_none s (more m ms) k (t ∷ ts) f h = ⊎_elim (λ a. fault_none s m k t a h.0) (λ a. some_none s ms k ts a h.1) f
  some_none s no_message k [] f h = f
  some_none s _ k _ f h = h

-- the error is a fault of the message, which reads as no type
pub refused_faulty : (s : Meaning) (m : Message) (e : VortexError) → read s m ≡ Err e → Fault s m e × ((t : Tree) → ¬ (Reads s m t))
refused_faulty s m e is = let f = read_fault s m e is in (f, λ t h. fault_none s m e t f h)

-- a message that reads as no type gives an error, and so does one with a fault
pub unread_refused : (s : Meaning) (m : Message) → ((t : Tree) → ¬ (Reads s m t)) → IsErr (read s m)
unread_refused s m none = grind (arith, none, reading s m)

pub fault_refused : (s : Meaning) (m : Message) (e : VortexError) → Fault s m e → IsErr (read s m)
fault_refused s m e f = unread_refused s m (λ t h. fault_none s m e t f h)

-- ---- only a session that doesn't keep unknown ids refuses an id as unknown

unregistered_kept : (o : Option Rewrites) (unknown : Bool) (b : List ℕ) (t : Tree) → Faulty ExtensionUnregistered ≡ unkept_error_of o → kept o unknown b t ≡ None → unknown ≡ false
unregistered_kept None true b t e none = cc
unregistered_kept None false b t e none = refl
unregistered_kept (Some r) unknown b t e none = cc

unregistered_decimal : (p : ℕ) (k : ℤ) → DecimalFault p k (Faulty ExtensionUnregistered) → ⊥
unregistered_decimal p k f = ⊎_elim (λ a. let e = a.0 in cc) (λ r. ⊎_elim (λ a. let e = a.0 in cc) (λ x. x) r) f

unregistered_union : (ns : List (List ℕ)) (types : ℕ) (gs : List ℤ) → UnionFault ns types gs (Faulty ExtensionUnregistered) → ⊥
unregistered_union ns types gs f = ⊎_elim (λ a. let e = a.0 in cc) (λ b. b.2) f

mutual
  pub unregistered_fault : (s : Meaning) (m : Message) → Fault s m (Faulty ExtensionUnregistered) → s.unknown ≡ false
  unregistered_fault s missing f = cc
  unregistered_fault s (primitive n x) f = let e = f.0 in cc
  unregistered_fault s (decimal p k x) f = absurd (unregistered_decimal p k f)
  unregistered_fault s (list c x) f = unregistered_child s ListElementMissing c (λ e. cc) f
  unregistered_fault s (fixed_size_list c n x) f = unregistered_child s FixedElementMissing c (λ e. cc) f
  unregistered_fault s (map_of c v o x) f =
      ⊎_elim (unregistered_child s MapKeyMissing c (λ e. cc)) (λ r. ⊎_elim (unregistered_child s MapValueMissing v (λ e. cc)) (λ a. let e = a.0 in cc) r) f
  unregistered_fault s (struct ns ms x) f = ⊎_elim (unregistered_part s ms) (λ a. let e = a.0 in cc) f
  unregistered_fault s (union ns ms gs x) f = ⊎_elim (unregistered_part s ms) (λ a. absurd (unregistered_union ns (message_count ms) gs a)) f
  unregistered_fault s (extension id c b) f =
      ⊎_elim (unregistered_child s StorageMissing c (λ e. cc)) (λ a. unregistered_kept (s.registered id) s.unknown (or_empty b) a.1 a.0 a.3) f
  unregistered_fault s _ f = absurd f

  unregistered_child : (s : Meaning) (j : MessageFault) (c : Child) → j ≢ ExtensionUnregistered → ChildFault s j c (Faulty ExtensionUnregistered) → s.unknown ≡ false
  unregistered_child s j absent other f = absurd (other cc)
  unregistered_child s j (present m) other f = unregistered_fault s m f

  unregistered_part : (s : Meaning) (ms : Messages) → SomeFault s ms (Faulty ExtensionUnregistered) → s.unknown ≡ false
  unregistered_part s no_message f = absurd f
  unregistered_part s (more m ms) f = ⊎_elim (unregistered_fault s m) (unregistered_part s ms) f

-- a session that keeps unknown ids refuses none as unknown
pub known_ids : (s : Meaning) (m : Message) (e : VortexError) → s.unknown ≡ true → Fault s m e → e ≢ Faulty ExtensionUnregistered
known_ids s m e allowed f is = let none = unregistered_fault s m (subst (λ x. Fault s m x) is f) in cc

-- ---- what reads has one normal form: its message

is_nullable-of : (f : Bool) → is_nullable (nullability_of f) ≡ f
is_nullable-of true = refl
is_nullable-of false = refl

-- the message of a struct or a union that was read, from its parts
field_messages : (ns : List (List ℕ)) (ts : List Tree) → length ns ≡ length ts
    → (written_names (fields (zip ns ts)) ≡ ns) × (written_items (fields (zip ns ts)) ≡ messages (map written ts))
field_messages [] [] e = (refl, refl)
field_messages (n ∷ ns) (t ∷ ts) e = grind (arith, field_messages ns ts, e)
field_messages _ _ e = cc

variant_messages : (ns : List (List ℕ)) (ts : List Tree) (gs : List ℕ) → length ns ≡ length ts → length ns ≡ length gs → let vs = variants (zip ns (zip ts gs)) in
    (written_variant_names vs ≡ ns) × (written_items vs ≡ messages (map written ts)) × (written_tags vs ≡ map pos gs)
variant_messages [] [] [] e f = (refl, refl, refl)
variant_messages (n ∷ ns) (t ∷ ts) (g ∷ gs) e f = grind (arith, variant_messages ns ts gs, e, f)
variant_messages _ _ _ e f = cc

-- of parts that have one form each, what is made has one
one_part : {X Y : Type 0} (P : X → Type 0) (make : X → Y) (x : X) (y : Y) → ((z : X) → P z ↔ (z ≡ x)) → ((z : X) × P z × (y ≡ make z)) ↔ (y ≡ make x)
one_part P make x y h = (λ k. k.2 ∙ ap make ((h k.0).0 k.1), λ e. (x, (h x).1 refl, e))

two_parts : {X Z Y : Type 0} (P : X → Type 0) (Q : Z → Type 0) (make : X → Z → Y) (x : X) (z : Z) (y : Y) → ((a : X) → P a ↔ (a ≡ x)) → ((b : Z) → Q b ↔ (b ≡ z))
    → ((a : X) × (b : Z) × P a × Q b × (y ≡ make a b)) ↔ (y ≡ make x z)
two_parts P Q make x z y h k = grind (arith, h, k)

mutual
  pub written_normal : (s : Meaning) (m n : Message) (t : Tree) → Reads s m t → (Normal s m n → n ≡ written t) × (n ≡ written t → Normal s m n)
  written_normal s missing n t h = absurd h
  written_normal s null n t h = rw h (λ e. e, λ e. e)
  written_normal s (primitive p f) n t h = rw (h.2, is_nullable-of f, ← h.1) (λ e. e, λ e. e)
  written_normal s (decimal p k f) n t h = rw (h.1, is_nullable-of f) (λ e. e, λ e. e)
  written_normal s (list c f) n t h = rw (h.2, is_nullable-of f) (one_part _ (λ d. list d f) (present (written h.0)) n (λ d. child_normal s c d h.0 h.1))
  written_normal s (fixed_size_list c k f) n t h = rw (h.2, is_nullable-of f) (one_part _ (λ d. fixed_size_list d k f) (present (written h.0)) n (λ d. child_normal s c d h.0 h.1))
  written_normal s (map_of c v o f) n t h = grind (arith, h, is_nullable-of f, child_normal s c, child_normal s v)
  written_normal s (struct ns ms f) n t h = grind (arith, h, is_nullable-of f, field_messages ns h.0 h.2, all_normal s ms)
  written_normal s (union ns ms gs f) n t h = grind (arith, h, is_nullable-of f, variant_messages ns h.0 h.1, all_normal s ms, bytes_are gs h.1 h.3)
  written_normal s (extension id c b) n t h =
      let storage = λ (d : Child). child_normal s c d h.0 h.2 in
      rw h.4 (
        λ k. let same : k.1 ≡ h.0 = child_once s c k.1 h.0 k.4 h.2 in
            let bytes : k.2 ≡ h.1 = same_Some k.2 h.1 (sym k.5 ∙ ap (keeps s id (or_empty b)) same ∙ h.3) in
            k.6 ∙ ap (λ d. extension id d (Some k.2)) ((storage k.0).0 k.3) ∙ ap (λ x. extension id (present (written h.0)) (Some x)) bytes,
        λ e. (present (written h.0), h.0, h.1, (storage (present (written h.0))).1 refl, h.2, h.3, e),
      )
  written_normal s _ n t h = rw (h, is_nullable-of) (λ e. e, λ e. e)

  child_normal : (s : Meaning) (c d : Child) (t : Tree) → ReadsChild s c t → NormalChild s c d ↔ (d ≡ present (written t))
  child_normal s absent d t h = absurd h
  child_normal s (present m) d t h = one_part (Normal s m) present (written t) d (λ r. written_normal s m r t h)

  all_normal : (s : Meaning) (ms qs : Messages) (ts : List Tree) → ReadsAll s ms ts → NormalAll s ms qs ↔ (qs ≡ messages (map written ts))
  all_normal s no_message qs [] h = (λ e. e, λ e. e)
  all_normal s (more m ms) qs (t ∷ ts) h = two_parts _ _ more (written t) (messages (map written ts)) qs (λ r. written_normal s m r t h.0) (λ rest. all_normal s ms rest ts h.1)
  all_normal s _ qs _ h = absurd h

-- ---- what reads is valid and admitted

abbrev Sound : Meaning → Tree → Type 0
Sound s t = Valid t × Admits s t

sound_fields : (s : Meaning) (ns : List (List ℕ)) (ts : List Tree) → AllByRecursion (Sound s) ts → let fs = fields (zip ns ts) in ValidItems fs × AdmitsItems s fs
sound_fields s (n ∷ ns) (t ∷ ts) h = let rest = sound_fields s ns ts h.1 in ((h.0.0, rest.0), (h.0.1, rest.1))
sound_fields s _ _ h = (tt, tt)

sound_variants : (s : Meaning) (ns : List (List ℕ)) (ts : List Tree) (gs : List ℕ) → AllByRecursion (Sound s) ts → let vs = variants (zip ns (zip ts gs)) in ValidItems vs × AdmitsItems s vs
sound_variants s (n ∷ ns) (t ∷ ts) (g ∷ gs) h = let rest = sound_variants s ns ts gs h.1 in ((h.0.0, rest.0), (h.0.1, rest.1))
sound_variants s _ _ _ h = (tt, tt)

mutual
  pub reads_sound : (s : Meaning) → LawfulSession s → (m : Message) (t : Tree) → IsMessage m → Reads s m t → Sound s t
  reads_sound s l missing t i h = absurd h
  reads_sound s l (primitive p f) t i h = subst (Sound s) (sym h.2) (tt, tt)
  reads_sound s l (decimal p k f) t i h = subst (Sound s) (sym h.1) (h.0, tt)
  reads_sound s l (list c f) t i h = subst (Sound s) (sym h.2) (child_sound s l c h.0 i h.1)
  reads_sound s l (fixed_size_list c k f) t i h = let a = child_sound s l c h.0 i.1 h.1 in subst (Sound s) (sym h.2) ((i.0, a.0), a.1)
  reads_sound s l (map_of c v o f) t i h = grind (arith, h, i, child_sound s l c, child_sound s l v)
  reads_sound s l (struct ns ms f) t i h = subst (Sound s) (sym h.3) (sound_fields s ns h.0 (all_sound s l ms h.0 i h.1))
  reads_sound s l (union ns ms gs f) t i h = grind (arith, h, i, sound_variants s ns h.0 h.1, all_sound s l ms h.0, zipped_variants ns h.0 h.1, All-from_recursion (λ k. k < 256) h.1, bytes_are gs h.1 h.3)
  reads_sound s l (extension id c b) t i h = grind (arith, h, i, child_sound s l c h.0, keeps_again s l id (or_empty b) h.1 h.0)
  reads_sound s l _ t i h = subst (Sound s) (sym h) (tt, tt)

  child_sound : (s : Meaning) → LawfulSession s → (c : Child) (t : Tree) → IsChild c → ReadsChild s c t → Sound s t
  child_sound s l absent t i h = absurd h
  child_sound s l (present m) t i h = reads_sound s l m t i h

  all_sound : (s : Meaning) → LawfulSession s → (ms : Messages) (ts : List Tree) → AreMessages ms → ReadsAll s ms ts → AllByRecursion (Sound s) ts
  all_sound s l no_message [] i h = tt
  all_sound s l (more m ms) (t ∷ ts) i h = (reads_sound s l m t i.0 h.0, all_sound s l ms ts i.1 h.1)
  all_sound s l _ _ i h = absurd h

-- ---- an admitted type is read back from its message

of_both : {X : Type 0} (made : X → Nullability → Tree) (x y : X) (n : Nullability) → x ≡ y → made x n ≡ made y (nullability_of (is_nullable n))
of_both made x y n e = ap (λ z. made z n) e ∙ ap (made y) (sym (nullability_of-is n))

mutual
  pub written_reads : (s : Meaning) (t : Tree) → Valid t → Admits s t → Reads s (written t) t
  written_reads s of.null v a = refl
  written_reads s (of.primitive p n) v a = (p, refl, simp nullability_of-is)
  written_reads s (of.decimal d n) v a = (v, simp nullability_of-is)
  written_reads s (of.list x n) v a = (x, written_reads s x v a, simp nullability_of-is)
  written_reads s (of.fixed_size_list x k n) v a = (x, written_reads s x v.1 a, simp nullability_of-is)
  written_reads s (of.map_of x y o n) v a = (x, y, written_reads s x v.1 a.0, written_reads s y v.2 a.1, v.0, simp nullability_of-is)
  written_reads s (of.struct fs n) v a = let r = written_fields_read s fs v a in (r.0, r.1, r.2, of_both of.struct fs (fields (zip (written_names fs) r.0)) n r.3)
  written_reads s (of.union vs n) v a =
      let tags = variant_tags (triples vs) in let is = variants_are vs v.0 in
      let r = written_variants_read s vs v.1 (recursion_from_All (λ k. k < 256) tags is.1) a in
      (r.0, tags, r.1, r.2, ((r.3, is.0.0.1, is.0.0.2), is.0.1, is.0.2), of_both of.union vs (variants (zip (written_variant_names vs) (zip r.0 tags))) n r.4)
  written_reads s (of.extension id b x) v a = (x, b, written_reads s x v.1 a.1, a.0, refl)
  written_reads s _ v a = simp nullability_of-is

  written_fields_read : (s : Meaning) (fs : Fields) → ValidItems fs → AdmitsItems s fs →
      (ts : List Tree) × ReadsAll s (written_items fs) ts × (length (written_names fs) ≡ length ts) × (fs ≡ fields (zip (written_names fs) ts))
  written_fields_read s no_items v a = ([], tt, refl, refl)
  written_fields_read s (item n x _ rest) v a =
      let r = written_fields_read s rest v.1 a.1 in (x ∷ r.0, (written_reads s x v.0 a.0, r.1), ap suc r.2, ap (field n x) r.3)

  written_variants_read : (s : Meaning) (vs : Variants) → ValidItems vs → AllByRecursion (λ k. k < 256) (variant_tags (triples vs)) → AdmitsItems s vs →
      let tags = variant_tags (triples vs) in
      (ts : List Tree) × ReadsAll s (written_items vs) ts × AreBytes (written_tags vs) tags × (length (written_variant_names vs) ≡ length ts)
      × (vs ≡ variants (zip (written_variant_names vs) (zip ts tags)))
  written_variants_read s no_items v b a = ([], tt, tt, refl, refl)
  written_variants_read s (item n x g rest) v b a =
      let r = written_variants_read s rest v.1 b.1 a.1 in
      (x ∷ r.0, (written_reads s x v.0 a.0, r.1), (grind (arith, nat_tests, b.0), r.2), ap suc r.3, ap (item n x g) r.4)

-- what is written of an admitted type gives that type
pub written_read : (s : Meaning) (m : Message) (t : Tree) → Valid t → Admits s t → m ≡ written t → read s m ≡ Ok t
written_read s m t v a e = ap (read s) e ∙ reads_read s (written t) t (written_reads s t v a)

-- ---- accepted types

pub reads_accepted : (s : Meaning) (m : Message) (t : Tree) → LawfulSession s → IsMessage m → Reads s m t → Accepts s m t
reads_accepted s m t l i h = let a = reads_sound s l m t i h in record { reads = h; valid = a.0; admitted = a.1 }

pub written_accepted : (s : Meaning) (t : Tree) → Valid t → Admits s t → Accepts s (written t) t
written_accepted s t v a = record { reads = written_reads s t v a; valid = v; admitted = a }

-- accepted types are equal where their normal forms are, and a normal form is its own
pub same_normal : (s : Meaning) (m n : Message) (t u : Tree) (a b : Message) → Accepts s m t → Accepts s n u → Normal s m a → Normal s n b → (t ≡ u → a ≡ b) × (a ≡ b → t ≡ u)
same_normal s m n t u a b h k p q = grind (arith, written_normal s m a t h.reads, written_normal s n b u k.reads, p, q, written_is t u)

pub normal_again : (s : Meaning) (m n : Message) (t : Tree) → Accepts s m t → Normal s m n → Normal s n n
normal_again s m n t h k = grind (arith, k, h, written_normal s m n t h.reads, written_normal s n n t, written_reads s t)

-- equal messages read as equal types
pub read_alike : (s : Meaning) (m n : Message) (t u : Tree) → m ≡ n → Accepts s m t → Accepts s n u → t ≡ u
read_alike s m n t u e a b = reads_once s n t u (subst (λ (x : Message). Reads s x t) e a.reads) b.reads

pub copy_accepted : (s : Meaning) (m n : Message) (t : Tree) → m ≡ n → Accepts s m t → Accepts s n t
copy_accepted s m n t e a = subst (λ (x : Message). Accepts s x t) e a

-- what a session admits it admits with another outer nullability, and reads back
pub other_nullability : (s : Meaning) → LawfulSession s → (t u : Tree) (n : Nullability) → Valid t → Admits s t → set_null t n ≡ Some u → Valid u × Admits s u × Accepts s (written u) u
other_nullability s l t u n v a e = grind (arith, set_valid t u n e v, admits-set_null s l t u n v e, a, written_accepted s u)
