-- Bytes that pass a test, one after the other; and what they tell of lines and words.
use Rattle.std.specs.Prelude.{Option, Some, None, unwrap_or}
use Rattle.std.specs.List.{prefix_len}
use Rattle.model.proofs.Bools.{choose}
use Prim.Native.Nat.{ℕ, ◌+◌, ◌≤◌, ◌<◌, min}
use native.Mathlib.Numerals.{add-one}
use native.Mathlib.Omega.{arith}
use mathlib.Core.Path.{◌≡◌, refl}
use mathlib.Core.List.{List, [], ◌∷◌}
use mathlib.Core.Bool.{Bool, true, false, not, cond}
use lib.Dec.{ltb}
use borrow.Author.Tests.{ltb-false}
use lib.ListN.{length, get_or, drop_of_length-le}
use lib.Seq.{drop-cons}
use Rattle.notation.specs.Words.{line_feed, line_in, size_in}
use Rattle.cutter.specs.Cuts.{first_line, passing, past, unbroken}

-- no more than there are
pub passes : (test : ℕ → Bool) (s : List ℕ) → passing test s ≤ length s
unfolding passing
passes test [] = omega arith
passes test (b ∷ s) = let i = passes test s in choose (λ (n : ℕ). n ≤ length (b ∷ s)) (test b) (1 + passing test s) 0 (λ q. omega arith) (λ q. omega arith)

-- where a byte is looked for that does not pass: the first, or the end
pub found : (test other : ℕ → Bool) → ((b : ℕ) → not (other b) ≡ test b) → (s : List ℕ) (o : Option ℕ) (d n : ℕ)
    → o ≡ cond (ltb (prefix_len (λ b. not (other b)) s) (length s)) (Some (prefix_len (λ b. not (other b)) s)) None → d ≡ length s → n ≡ unwrap_or o d → n ≡ passing test s
unfolding passing
found test other h s o d n p q r = rw (r, p, q, same s) (go (ltb (passing test s) (length s)) refl)
  where
    same : (s : List ℕ) → prefix_len (λ b. not (other b)) s ≡ passing test s
    same [] = refl
    same (b ∷ s) = rw (h b, same s)

    go : (t : Bool) → ltb (passing test s) (length s) ≡ t → unwrap_or (cond t (Some (passing test s)) None) (length s) ≡ passing test s
    go true e = refl
    go false e = let l = ltb-false _ _ e in let w = passes test s in omega arith

-- from a place on
module _ (test : ℕ → Bool) (s : List ℕ) (i : ℕ) where
  -- a byte that passes: the same place is reached from the next
  pub goes_on : i < length s → test (get_or s i 0) ≡ true → past test s i ≡ past test s (i + 1)
  unfolding past passing
  goes_on h t = rw (drop-cons s i 0 h, t, add-one) (omega arith)

  -- one that does not, and the end
  pub stops_here : i < length s → test (get_or s i 0) ≡ false → past test s i ≡ i
  unfolding past passing
  stops_here h t = rw (drop-cons s i 0 h, t) (omega arith)

  pub ends_here : length s ≤ i → past test s i ≡ i
  unfolding past passing
  ends_here h = rw (drop_of_length-le s h) (omega arith)

-- from a place on as from another, by what a test may answer of each byte
unfoldable pub Reaches : (ℕ → Bool → Type 0) → List ℕ → ℕ → ℕ → Type 0
Reaches answers s at place = (test : ℕ → Bool) → ((b : ℕ) (answer : Bool) → answers b answer → answer ≡ test b) → past test s at ≡ past test s place

-- LINES

line_counts : (s : List ℕ) → (length (line_in s) ≡ passing unbroken s) × (size_in s ≡ min (passing unbroken s + 1) (length s))
unfolding line_in size_in passing
line_counts [] = (refl, refl)
line_counts (b ∷ s) = go (line_feed b) refl (line_counts s)
  where
    go : (t : Bool) → line_feed b ≡ t → (length (line_in s) ≡ passing unbroken s) × (size_in s ≡ min (passing unbroken s + 1) (length s))
        → (length (line_in (b ∷ s)) ≡ passing unbroken (b ∷ s)) × (size_in (b ∷ s) ≡ min (passing unbroken (b ∷ s) + 1) (length (b ∷ s)))
    go true q again = (rw q, rw q (omega arith))
    go false q again = (rw q (omega (arith, again.0)), rw q (omega (arith, again.1)))

pub first_line_found : (s : List ℕ) (n : ℕ) → n ≡ passing unbroken s → record { size = n; taken = min (length s) (n + 1) } ≡ first_line s
unfolding first_line
first_line_found s n e =
    let c = line_counts s in
    let k : min (length s) (passing unbroken s + 1) ≡ min (passing unbroken s + 1) (length s) = omega arith in
    rw (e, c.0, c.1, k)
