-- The words of a line are where the cuts say.
use Prim.Native.Nat.{ℕ, ◌-◌, ◌≤◌}
use native.Mathlib.Numerals.{one-add}
use native.Mathlib.Omega.{arith}
use mathlib.Core.Path.{◌≡◌, refl, sym, ap, ◌∙◌, subst}
use mathlib.Core.List.{List, [], ◌∷◌}
use mathlib.Core.Bool.{Bool, true, false}
use lib.ListN.{length, get_or, take, drop, take-append-drop, length-drop}
use lib.Seq.{drop-drop}
use Rattle.model.proofs.Bools.{choose, or_then}
use Rattle.notation.specs.Words.{line_in, line_feed, blank, mark, stops, words_of}
use Rattle.notation.proofs.Words.{size_inside, Plain, Gap, past_blank, at_mark, no_words, word_first}
use Rattle.cutter.proofs.Passing.{passes}
use Rattle.cutter.specs.declared.Line.{Line}
use Rattle.cutter.specs.declared.Word.{Word}
use Rattle.cutter.specs.Cuts.{first_line, passing, past, plain, first_word}

-- the bytes of a line or a text from one place up to another
abbrev pub between : List ℕ → ℕ → ℕ → List ℕ
between s from to = take (to - from) (drop from s)

-- past its blanks a line has the same words, and begins with no blank
Bare : List ℕ → Type 0
Bare [] = Unit
Bare (b ∷ s) = blank b ≡ false

skips : (r : List ℕ) → (words_of r ≡ words_of (drop (passing blank r) r)) × Bare (drop (passing blank r) r)
unfolding passing Bare Plain
skips [] = (refl, tt)
skips (b ∷ r) = go (blank b) refl (skips r)
  where
    go : (t : Bool) → blank b ≡ t → (words_of r ≡ words_of (drop (passing blank r) r)) × Bare (drop (passing blank r) r)
        → (words_of (b ∷ r) ≡ words_of (drop (passing blank (b ∷ r)) (b ∷ r))) × Bare (drop (passing blank (b ∷ r)) (b ∷ r))
    go true q again = rw (q, one-add) (past_blank b r q ∙ again.0, again.1)
    go false q again = rw q (refl, q)

-- plain bytes, up to where no word goes on
plain_front : (r : List ℕ) → Plain (take (passing plain r) r) × Gap (drop (passing plain r) r)
unfolding passing Plain Gap
plain_front [] = (tt, tt)
plain_front (b ∷ r) = go (stops b) refl (plain_front r)
  where
    go : (t : Bool) → stops b ≡ t → Plain (take (passing plain r) r) × Gap (drop (passing plain r) r)
        → Plain (take (passing plain (b ∷ r)) (b ∷ r)) × Gap (drop (passing plain (b ∷ r)) (b ∷ r))
    go true q again = rw q (tt, q)
    go false q again = rw (q, one-add) ((q, again.0), again.1)

-- the first word of a line that begins with no blank, and those behind it
abbrev FirstAndRest : List ℕ → Type 0
FirstAndRest r = (get_or (words_of r) 0 [] ≡ take (passing plain r) r) × (drop 1 (words_of r) ≡ words_of (drop (passing plain r) r))

first_and_rest : (r : List ℕ) → Bare r → FirstAndRest r
unfolding passing Bare Plain
first_and_rest [] e = (rw no_words, rw no_words)
first_and_rest (b ∷ r) e = go (stops b) refl
  where
    go : (t : Bool) → stops b ≡ t → FirstAndRest (b ∷ r)
    go true q = let w = at_mark b r (or_then (blank b) (mark b) q e) in rw q (rw w, rw w)
    go false q =
        let f = plain_front r in
        let n = passing plain r in
        let w : words_of (b ∷ r) ≡ (b ∷ take n r) ∷ words_of (drop n r) =
        ap (λ (x : List ℕ). words_of (b ∷ x)) (sym (take-append-drop n r)) ∙ word_first b (take n r) (drop n r) (q, f.0) f.1 in
        rw (q, one-add) (rw w, rw w)

-- THE WORD FROM A PLACE ON

-- a cut goes forward, and stays inside
module _ (test : ℕ → Bool) (s : List ℕ) (i : ℕ) where
  forward : i ≤ past test s i
  unfolding past
  forward = omega arith

  inside : i ≤ length s → past test s i ≤ length s
  unfolding past
  inside h = let p = passes test (drop i s) in let l = length-drop i s in omega arith

  span : past test s i - i ≡ passing test (drop i s)
  unfolding past
  span = omega arith

  behind : drop (passing test (drop i s)) (drop i s) ≡ drop (past test s i) s
  unfolding past
  behind = drop-drop (passing test (drop i s)) i s

module _ (s : List ℕ) (at : ℕ) where
  -- what stands from the place on has the words that it has behind its blanks
  bare : (words_of (drop at s) ≡ words_of (drop (past blank s at) s)) × Bare (drop (past blank s at) s)
  bare = subst (λ (r : List ℕ). (words_of (drop at s) ≡ words_of r) × Bare r) (behind blank s at) (skips (drop at s))

  -- the first word is the one that is cut out, empty if there is none
  pub word_here : get_or (words_of (drop at s)) 0 [] ≡ between s (first_word s at).from (first_word s at).to
  unfolding first_word
  word_here =
      let from = past blank s at in
      ap (λ (ws : List (List ℕ)). get_or ws 0 []) bare.0
      ∙ (first_and_rest (drop from s) bare.1).0
      ∙ ap (λ (k : ℕ). take k (drop from s)) (sym (span plain s from))

  -- and the words behind it stand from its end on
  pub words_behind : drop 1 (words_of (drop at s)) ≡ words_of (drop (first_word s at).to s)
  unfolding first_word
  words_behind =
      let from = past blank s at in
      ap (drop 1) bare.0 ∙ (first_and_rest (drop from s) bare.1).1 ∙ ap words_of (behind plain s from)

  -- it lies inside the line
  pub word_inside : at ≤ length s → ((first_word s at).from ≤ (first_word s at).to) × ((first_word s at).to ≤ length s)
  unfolding first_word
  word_inside h = (forward plain s (past blank s at), inside plain s (past blank s at) (inside blank s at h))

-- and so it does as the code hands it over
pub cut_inside : (s : List ℕ) (at : ℕ) (w : Word) → w ≡ first_word s at → at ≤ length s → (w.from ≤ w.to) × (w.to ≤ length s)
cut_inside s at w p h = rw p (word_inside s at h)

-- THE FIRST LINE

-- it is the front of the text
pub line_here : (s : List ℕ) → take (length (line_in s)) s ≡ line_in s
unfolding line_in
line_here [] = refl
line_here (b ∷ s) =
    choose (λ (l : List ℕ). take (length l) (b ∷ s) ≡ l) (line_feed b) [] (b ∷ line_in s) (λ q. refl) (λ q. ap (λ (l : List ℕ). b ∷ l) (line_here s))

pub line_inside : (s : List ℕ) → length (line_in s) ≤ length s
unfolding line_in
line_inside [] = omega arith
line_inside (b ∷ s) =
    let i = line_inside s in
    choose (λ (l : List ℕ). length l ≤ length (b ∷ s)) (line_feed b) [] (b ∷ line_in s) (λ q. omega arith) (λ q. omega arith)

-- and so does what the code hands over of it
pub line_cut_inside : (s : List ℕ) (l : Line) → l ≡ first_line s → (l.size ≤ length s) × (l.taken ≤ length s)
unfolding first_line
line_cut_inside s l p = rw p (line_inside s, (size_inside s).0)
