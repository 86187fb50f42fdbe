-- The places of a window, and what is at hand between them.
use Prim.Native.Nat.{ℕ, zero, suc, ◌+◌, ◌-◌, min}
use native.Mathlib.Nat.{sub-zero}
use native.Mathlib.Omega.{arith}
use mathlib.Core.Path.{◌≡◌, refl, sym, ap, ◌∙◌}
use mathlib.Core.List.{List, [], ◌∷◌}
use mathlib.Core.Bool.{Bool, true, false}
use lib.Dec.{leb}
use lib.ListN.{take, drop}
use lib.Seq.{take_all, drop-drop}
use borrow.Author.Tests.{leb-true, leb-false}
use Rattle.window.specs.Windows.{between, behind}
use Rattle.window.specs.Promises.{RestIsAtHand}

drop_of_take : (k n : ℕ) (s : List ℕ) → drop k (take n s) ≡ take (n - k) (drop k s)
drop_of_take zero n s = rw sub-zero
drop_of_take (suc k) zero s = let z : 0 - suc k ≡ 0 = omega arith in rw z
drop_of_take (suc k) (suc n) [] = sym (take_all (suc n - suc k) [] (omega arith))
drop_of_take (suc k) (suc n) (b ∷ s) = let z : suc n - suc k ≡ n - k = omega arith in rw z (drop_of_take k n s)

pub rest_is_at_hand : RestIsAtHand
unfolding between behind
rest_is_at_hand l w k = sym (drop_of_take k (w.to - w.from) (drop w.from l) ∙ ap (take (w.to - w.from - k)) (drop-drop k w.from l) ∙ go (leb (w.from + k) w.to) refl)
  where
    go : (b : Bool) → leb (w.from + k) w.to ≡ b → take (w.to - w.from - k) (drop (w.from + k) l) ≡ take (w.to - min (w.from + k) w.to) (drop (min (w.from + k) w.to) l)
    go true q =
        let h = leb-true (w.from + k) w.to q in
        let m : min (w.from + k) w.to ≡ w.from + k = omega arith in
        let n : w.to - w.from - k ≡ w.to - (w.from + k) = omega arith in
        rw (m, n)
    go false q =
        let h = leb-false (w.from + k) w.to q in
        let m : w.to - min (w.from + k) w.to ≡ 0 = omega arith in
        let n : w.to - w.from - k ≡ 0 = omega arith in
        rw (m, n)
