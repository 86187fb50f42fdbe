-- What is promised of windows. `proofs/Places.antt` proves it.
use Rattle.std.specs.Prelude.{ℕ, ◌≡◌, List, drop}
use Rattle.window.specs.declared.Window.{Window}
use Rattle.window.specs.Windows.{at_hand, behind}

-- behind so many bytes of what is at hand the rest of it is
abbrev pub RestIsAtHand : Type 0
RestIsAtHand = (l : List ℕ) (w : Window) (k : ℕ) → at_hand l (behind w k) ≡ drop k (at_hand l w)
