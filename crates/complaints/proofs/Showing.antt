-- A word as it is shown, byte after byte; and what is found.
use Prim.Native.Nat.{ℕ, zero, suc, ◌+◌, ◌≤◌, ◌<◌}
use native.Mathlib.Omega.{arith}
use mathlib.Core.Path.{◌≡◌, refl}
use mathlib.Core.Logic.{◌⊎◌, inl, inr}
use mathlib.Core.List.{List, [], ◌∷◌, ◌++◌, append-nil}
use lib.ListN.{length, get_or, take, length-append}
use lib.Seq.{take_all}
use borrow.Author.Tests.{eq-eqb, ne_eqb, lt-ltb, le-ltb}
use Rattle.spelling.specs.Text.{text}
use Rattle.notation.specs.declared.Field.{Field}
use Rattle.notation.specs.declared.Field.TheVariants.{Opening, Bay, Address, Code, Word, Ohms, Millivolts, Present, Ticks, Rest, Length}
use Rattle.notation.specs.Complaints.{number_up_to, expected, shown, all_shown, word_shown, word_found, found}
use Rattle.notation.proofs.Complaints.{shown_long}

-- a byte of it
pub shown_at : (t : List ℕ) (i : ℕ) → i < length t → shown (get_or t i 0) ≡ get_or (all_shown t) i 0
unfolding all_shown
shown_at [] i h = absurd (omega arith)
shown_at (b ∷ t) zero h = refl
shown_at (b ∷ t) (suc i) h = shown_at t i (omega arith)

-- no word, a word that is cut, and one that is not
module _ (w : List ℕ) where
  pub none_found : length w ≡ 0 → word_found w ≡ text "the end of the line"
  unfolding word_found
  none_found h = rw (eq-eqb (length w) 0 h)

  pub part_found : 32 < length w → word_found w ≡ all_shown (take 32 w) ++ text ".."
  unfolding word_found word_shown
  part_found h = rw (ne_eqb (length w) 0 (λ z. omega arith), lt-ltb 32 (length w) h)

  pub part_long : 32 < length w → length (word_found w) ≡ length (take 32 w) + 2
  unfolding text
  part_long h = rw (part_found h, length-append, shown_long)

  pub all_found : (length w ≡ 0 → ⊥) → length w ≤ 32 → word_found w ≡ all_shown w
  unfolding word_found word_shown
  all_found some h = rw (ne_eqb (length w) 0 some, le-ltb 32 (length w) h, take_all 32 w h, append-nil)

  pub all_long : (length w ≡ 0 → ⊥) → length w ≤ 32 → length (word_found w) ≡ length w
  all_long some h = rw (all_found some h, shown_long)

-- of every field but the line's length, a word
pub found_word : (f : Field) (w : List ℕ) → (f ≡ Length → ⊥) → found f w ≡ word_found w
unfolding found
found_word Opening w other = refl
found_word Bay w other = refl
found_word Address w other = refl
found_word Code w other = refl
found_word Word w other = refl
found_word Ohms w other = refl
found_word Millivolts w other = refl
found_word Present w other = refl
found_word Ticks w other = refl
found_word Rest w other = refl
found_word Length w other = absurd (other refl)

-- WHAT WAS EXPECTED: fields that hold numbers up to one limit

module _ (f : Field) where
  pub byte_expected : (f ≡ Bay) ⊎ ((f ≡ Address) ⊎ (f ≡ Code)) → expected f ≡ number_up_to 255
  unfolding expected
  byte_expected (inl p) = rw p
  byte_expected (inr (inl p)) = rw p
  byte_expected (inr (inr p)) = rw p

  pub word_expected : (f ≡ Word) ⊎ (f ≡ Millivolts) → expected f ≡ number_up_to 65535
  unfolding expected
  word_expected (inl p) = rw p
  word_expected (inr p) = rw p

  pub long_expected : (f ≡ Ohms) ⊎ (f ≡ Ticks) → expected f ≡ number_up_to 4294967295
  unfolding expected
  long_expected (inl p) = rw p
  long_expected (inr p) = rw p
