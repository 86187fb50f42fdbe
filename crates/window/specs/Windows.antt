-- A window on a file: what is left in it, and what a refill does to it.
use Rattle.std.specs.Prelude.{ℕ, ◌+◌, ◌-◌, ◌≤◌, ◌<◌, ◌⊎◌, min, ◌≡◌, Bool, true, false, ◌||◌, List, ◌++◌, Option, Some, None, ⊤, eqb, leb, length, take, drop}
use Rattle.std.specs.Io.KnownBytes.{IsAtEnd}
use Rattle.window.specs.declared.Window.{Window}

-- the bytes of a buffer from one place up to another
unfoldable pub between : List ℕ → ℕ → ℕ → List ℕ
between l from to = take (to - from) (drop from l)

-- what is at hand in a window on the buffer l
abbrev pub at_hand : List ℕ → Window → List ℕ
at_hand l w = between l w.from w.to

-- a window behind so many bytes of what is at hand
unfoldable pub behind : Window → ℕ → Window
behind w k = record { from = min (w.from + k) w.to; to = w.to; last = w.last }

-- nothing is to be read: no more will come, what is at hand is as much as is wanted, or the buffer is full
unfoldable pub rests : List ℕ → ℕ → Window → Bool
rests l wanted w = w.last || leb wanted (length (at_hand l w)) || eqb (length (at_hand l w)) (length l)

-- a refill that leaves the buffer l₁: the window lies inside it, and what was at hand is, in front of what is read, and alone if nothing
-- is to be
pub record Refilled (l l₁ : List ℕ) (wanted : ℕ) (w r : Window) : Type 0 where
  pub ordered : r.from ≤ r.to
  pub inside : r.to ≤ length l₁
  pub kept : take (length (at_hand l w)) (at_hand l₁ r) ≡ at_hand l w
  pub rested : rests l wanted w ≡ true → (l₁ ≡ l) × (at_hand l₁ r ≡ at_hand l w) × (r.last ≡ w.last)

-- one that fails: something was to be read, and what was at hand stands at the front of the buffer
pub record Stays (l l₁ : List ℕ) (wanted : ℕ) (w : Window) : Type 0 where
  pub kept : take (length (at_hand l w)) l₁ ≡ at_hand l w
  pub asked : rests l wanted w ≡ false

-- what a file still holds before and after, where that is known: what is at hand, and behind it what is left in the file, are the same bytes
abbrev pub Streams : Option (List ℕ) → Option (List ℕ) → List ℕ → List ℕ → Type 0
Streams None left hand hand₁ = ⊤
Streams (Some xs) None hand hand₁ = ⊥
Streams (Some xs) (Some ys) hand hand₁ = hand ++ xs ≡ hand₁ ++ ys

-- bytes that are said to be the last are so: nothing is left in the file, if that was true before
abbrev pub Ends : Option (List ℕ) → Option (List ℕ) → Bool → Bool → Type 0
Ends old left last last₁ = (last ≡ true → IsAtEnd old) → last₁ ≡ true → IsAtEnd left

-- there is no less at hand then, and as much as is wanted, or the last, or more than before
pub record Grows (wanted : ℕ) (hand hand₁ : List ℕ) (last : Bool) : Type 0 where
  pub no_less : length hand ≤ length hand₁
  pub more : (wanted ≤ length hand₁) ⊎ ((last ≡ true) ⊎ (length hand < length hand₁))
