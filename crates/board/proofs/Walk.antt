-- A walk over edges, from the one at a place on.
use Prim.Native.Nat.{ℕ, ◌+◌, ◌≤◌, ◌<◌}
use native.Mathlib.Numerals.{add-one}
use mathlib.Core.Path.{◌≡◌}
use mathlib.Core.List.{List}
use lib.ListN.{length, get_or, drop}
use lib.Seq.{drop-cons}
use borrow.Author.Tests.{le-ltb}
use Rattle.model.specs.declared.Edge.{Edge}
use Rattle.model.specs.Board.{walk}

module _ (es : List Edge) (i ohms : ℕ) where
  -- an edge that is reached is passed
  pub goes_on : (d : Edge) → i < length es → (get_or es i d).0 ≤ ohms → walk (drop i es) ohms ≡ walk (drop (i + 1) es) ohms
  goes_on d h t = rw (drop-cons es i d h, le-ltb _ _ t, add-one)
