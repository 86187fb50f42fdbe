-- Where a request that counts came from.
use Rattle.std.specs.Prelude.{◌≡◌, ◌⊎◌, true, false, [], ◌∷◌, ◌++◌, ℕ}
use Rattle.model.specs.declared.Event.{Event}
use Rattle.model.specs.Words.{names}
use Rattle.model.specs.Events.{Kind, is, word_of, bay_of, from_bay, swaps_at}
use Rattle.model.specs.Facts.{Past, some, pack_at, connected, asked}

-- each of the events `later`, which came after `h`, left n connected, and none put in or pulled a pack at that bay
abbrev pub Undisturbed : ℕ → Past → Past → Type 0
Undisturbed n [] h = Unit {0}
Undisturbed n (e ∷ later) h = (connected (e ∷ later ++ h) ≡ n) × (swaps_at n e ≡ false) × Undisturbed n later h

-- the word of kind k that counts in the past h
pub record Counted (k : Kind) (h : Past) : Type 0 where
  pub later : Past
  pub word : Event
  pub before : Past
  -- where it stands in the past
  pub stands : h ≡ later ++ word ∷ before
  -- it is the latest of its kind, and what is asked is its value
  pub kind : is k word ≡ true
  pub newest : some (is k) later ≡ false
  pub value : word_of word ≡ asked k h
  -- the bay that is connected now was connected before it, with a pack in
  pub connection : connected before ≡ connected h
  pub pack : pack_at (connected h) before ≡ true
  -- and since it nothing was put in, pulled or reconnected there
  pub steady : Undisturbed (connected h) later (word ∷ before)
  -- the host sent it, or the pack in that bay
  pub sender : (from_bay word ≡ false) ⊎ (names (connected h) (bay_of word) ≡ true)
