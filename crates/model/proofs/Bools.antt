-- Tests: what a conjunction, a disjunction and a choice tell.
use Prim.Native.Nat.{ℕ}
use mathlib.Core.Path.{◌≡◌, refl}
use lib.Dec.{eqb}
use borrow.Author.Tests.{eq-eqb}
use mathlib.Core.Bool.{Bool, true, false, cond, ◌&&◌, ◌||◌, true≢false, false≢true, and-false}

pub cond_same : {A : Type 0} (b : Bool) (n : A) → cond b n n ≡ n
cond_same true n = refl
cond_same false n = refl

-- what holds of both choices, each under its test, holds of the choice
pub choose : {A : Type 0} (P : A → Type 0) (t : Bool) (x y : A) → (t ≡ true → P x) → (t ≡ false → P y) → P (cond t x y)
choose P true x y f g = f refl
choose P false x y f g = g refl

pub and_l : (a b : Bool) → (a && b) ≡ true → a ≡ true
and_l true b q = refl
and_l false b q = q

pub and_r : (a b : Bool) → (a && b) ≡ true → b ≡ true
and_r true b q = q
and_r false b q = absurd (false≢true q)

pub or_l : (a b : Bool) → (a || b) ≡ false → a ≡ false
or_l true b q = q
or_l false b q = refl

pub or_r : (a b : Bool) → (a || b) ≡ false → b ≡ false
or_r true b q = absurd (true≢false q)
or_r false b q = q

pub or_then : (a b : Bool) → (a || b) ≡ true → a ≡ false → b ≡ true
or_then true b q p = absurd (true≢false p)
or_then false b q p = q

pub and_then : (a b : Bool) → (a && b) ≡ false → a ≡ true → b ≡ false
and_then true b q p = q
and_then false b q p = absurd (false≢true p)

pub and_swap : (a b c : Bool) → (a && (b && c)) ≡ (b && (a && c))
and_swap true b c = refl
and_swap false b c = rw and-false

-- a number is itself
pub eqb_self : (n : ℕ) → eqb n n ≡ true
eqb_self n = eq-eqb n n refl
