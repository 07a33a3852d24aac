-- SPDX-License-Identifier: Apache-2.0
-- SPDX-FileCopyrightText: Copyright the Vortex contributors

-- What is written of the lines so far, and of the cover of their paths.
use Rattle.std.proofs.Common.{◌≡◌, ℕ, ◌+◌, ◌<◌, ◌≤◌, ◌==◌, List, [], ◌∷◌, ◌++◌, length, get_or, map, Option, append-nil, append_assoc, true, false, sym, ap, subst, ◌∙◌, arith}
use Rattle.std.specs.Cmp.Lexicographic.{slice_cmp}
use Rattle.std.specs.FinSet as set
use Rattle.std.specs.Io.KnownBytes.{Appends, Keeps}
use Rattle.std.specs.List.Sorted.{IsSorted}
use Rattle.std.specs.Ordering.{nat_cmp, is_lt}
use Rattle.std.specs.String.{string_bytes, string_cmp}
use Rattle.std.specs.declared.string.String.{String}
use Rattle.std.proofs.KnownBytes.{Appends-kept, Appends-trans}
use Rattle.std.proofs.lemmas.Bool.Decides.{Decides-eqb}
use Rattle.std.proofs.lemmas.List.{flat_map_more, get_or-map, length-map, nil_from_length, map-append}
use Rattle.vortex_dtype.specs.Tree.{Tree}
use Rattle.dtype_paths.proofs.lemmas.Covering.{of_push}
use Rattle.vortex_dtype.specs.PathOrder.{PathSet, set_of}
use Rattle.vortex_dtype.specs.Types.Field.{Field}
use Rattle.dtype_demo.specs.Lines.{lines_of, parts_of}
use Rattle.dtype_demo.specs.Output.{answer_text, answers_to, cover_text, WritesCover, WritesOutput}

-- the lines before the rest of the text are answered, and the set of their paths is kept
pub record Answered (t : Tree) (old now : Option (List ℕ)) (kept : PathSet) (text rest : List ℕ) : Type 0 where
  pub lines : List (List ℕ)
  pub before : lines ++ lines_of rest ≡ lines_of text
  pub written : Appends old now (answers_to t lines)
  pub gathered : kept ≡ set_of (map parts_of lines)

pub answered_more : (t : Tree) (a b c : Option (List ℕ)) (kept new : PathSet) (text rest line after : List ℕ) (path : List Field) → Answered t a b kept text rest → lines_of rest ≡ line ∷ lines_of after → path ≡ parts_of line
    → Appends b c (answer_text t path) → new ≡ set.insert kept path → Answered t a c new text after
answered_more t a b c kept new text rest line after path done first means wrote put = record {
  lines = done.lines ++ line ∷ [];
  before = append_assoc done.lines (line ∷ []) (lines_of after) ∙ ap (λ ls. done.lines ++ ls) (sym first) ∙ done.before;
  written = subst (Appends a c) (flat_map_more (λ l. answer_text t (parts_of l)) [] done.lines line) (Appends-trans a b c _ _ done.written (subst (λ p. Appends b c (answer_text t p)) means wrote));
  gathered = put ∙ (λ i. set.insert (done.gathered i) (means i)) ∙ sym (of_push (map parts_of done.lines) (parts_of line)) ∙ ap set_of (sym (map-append parts_of done.lines (line ∷ [])));
}

-- at the end, with what is written of the cover
pub output : (t : Tree) (a b c d : Option (List ℕ)) (kept : PathSet) (text rest : List ℕ) → Answered t a b kept text rest → (length rest == 0) ≡ true
    → WritesCover kept b c → Keeps c d → WritesOutput t text a d
output t a b c d kept text rest done end cover flushed =
    let all : done.lines ≡ lines_of text = sym (append-nil done.lines) ∙ ap (λ r. done.lines ++ lines_of r) (sym (nil_from_length rest ((Decides-eqb (length rest) 0).0 end))) ∙ done.before in
    let w : WritesCover (set_of (map parts_of (lines_of text))) b c = subst (λ s. WritesCover s b c) (done.gathered ∙ ap (λ ls. set_of (map parts_of ls)) all) cover in record {
      answered = b;
      answers = subst (λ ls. Appends a b (answers_to t ls)) all done.written;
      cover = record { texts = w.texts; cover = w.cover; written = Appends-kept b c d (cover_text w.texts ++ 10 ∷ []) w.written flushed };
    }

sorted_at : {Z : Type 0} (ss : List (String Z)) (s : String Z) (k : ℕ) (d : List ℕ) → IsSorted string_cmp ss → 0 ≤ k → k + 1 < length ss → is_lt (slice_cmp nat_cmp (get_or (map (λ t. string_bytes t) ss) (k + 1) d) (get_or (map (λ t. string_bytes t) ss) k d)) ≡ false
sorted_at {Z} ss s k d h low high =
    let f = λ (t : String Z). string_bytes t in rw (get_or-map f ss (k + 1) s d high, get_or-map f ss k s d (omega (arith, high))) (h k s low high)

pub sorted_texts : {Z : Type 0} (ss : List (String Z)) → IsSorted string_cmp ss → IsSorted (slice_cmp nat_cmp) (map (λ t. string_bytes t) ss)
sorted_texts [] h k d low high = absurd (omega (arith, high))
sorted_texts {Z} (s ∷ ss) h k d low high = sorted_at (s ∷ ss) s k d h low (omega (arith, high, length-map (s ∷ ss) (λ (t : String Z). string_bytes t)))
