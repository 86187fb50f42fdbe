-- A word looked for in a line: one word after the other, up to the word or to where there is none.
use Prim.Native.Nat.{ℕ, ◌+◌, ◌-◌, ◌≤◌, ◌<◌}
use native.Mathlib.Omega.{arith}
use mathlib.Core.Path.{◌≡◌, refl, sym, ap, ◌∙◌}
use mathlib.Core.List.{List, [], ◌∷◌}
use lib.ListN.{length, get_or, take, drop}
use lib.Seq.{get_or-drop}
use Rattle.notation.specs.Words.{pieces, not_empty, blank, uncommented, words_of}
use Rattle.cutter.specs.declared.Word.{Word}
use Rattle.cutter.specs.Cuts.{first_word}
use Rattle.cutter.proofs.Words.{word_here, words_behind, cut_inside}
use Rattle.complaints.specs.Saying.{Finds}

-- where the first word is empty there is none
none_follow : (ps : List (List ℕ)) (k : ℕ) → length (get_or (not_empty ps) 0 []) ≡ 0 → get_or (not_empty ps) k [] ≡ []
unfolding not_empty
none_follow [] k h = refl
none_follow ([] ∷ ps) k h = none_follow ps k h
none_follow ((b ∷ p) ∷ ps) k h = absurd (omega arith)

module _ (s : List ℕ) (at : ℕ) (w : Word) (p : w ≡ first_word s at) (h : at ≤ length s) where
  -- the word that is cut out is the first
  first : take (w.to - w.from) (drop w.from s) ≡ get_or (words_of (drop at s)) 0 []
  first = rw p (sym (word_here s at))

  module _ (number left : ℕ) (same : get_or (words_of s) number [] ≡ get_or (words_of (drop at s)) left []) where
    -- the words behind it have numbers one lower
    pub looks_on : 0 < left → get_or (words_of s) number [] ≡ get_or (words_of (drop w.to s)) (left - 1) []
    looks_on some =
        let k : 1 + (left - 1) ≡ left = omega arith in
        same ∙ ap (λ (i : ℕ). get_or (words_of (drop at s)) i []) (sym k) ∙ sym (get_or-drop 1 (words_of (drop at s)) (left - 1) [])
        ∙ rw p (ap (λ (ws : List (List ℕ)). get_or ws (left - 1) []) (words_behind s at))

    -- it is the word, or there is none
    pub finds_it : left ≤ 0 → Finds s number w
    finds_it all =
        let i = cut_inside s at w p h in
        let z : left ≡ 0 = omega arith in
        record { forward = i.0; inside = i.1; is = first ∙ sym (rw z at same) }

    pub finds_none : w.from ≡ w.to → Finds s number w
    unfolding words_of
    finds_none e =
        let i = cut_inside s at w p h in
        let z : w.to - w.from ≡ 0 = omega arith in
        let f : [] ≡ get_or (words_of (drop at s)) 0 [] = rw z at first in
        record {
          forward = i.0;
          inside = i.1;
          is = rw z (sym (same ∙ none_follow (pieces blank (uncommented (drop at s))) left (sym (ap length f))));
        }
