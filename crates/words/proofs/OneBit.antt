-- One bit by the count of ones, and its place by the trailing zeros, at a nibble; what stands past a word's end.
use mathlib.Core.Path.{◌≡◌, refl, ◌∙◌, subst}
use mathlib.Core.Bool.{Bool, true, false, cond, ◌&&◌, ◌||◌, false≢true}
use Prim.Native.Nat.{ℕ, ◌/◌, ◌^◌, ◌<◌, ◌≤◌}
use native.Mathlib.Omega.{arith}
use native.Mathlib.Nat.{div-eq_of_lt, lt_of_lt_of_le}
use lib.Dec.{T, eqb, ltb, eqb→eq}
use lib.Pow.{pow_mono}
use lib.Count.{ones, ones_in, count_trailing_zeros}
use borrow.Author.Tests.{ltb-true, ltb-false, lt-ltb, ne_eqb}
use Rattle.model.specs.Words.{named, bay_number}
use Rattle.model.proofs.Bays.{number_small}
use Rattle.words.proofs.Below.{at, agree, agreed, by_test}

-- one bit by the count of ones

one_bit : (n : ℕ) → n < 16 → eqb (ones n) 1 ≡ named n
unfolding ones ones_in named
one_bit n h = agreed (eqb (ones n) 1) (named n) (at (λ n. agree (eqb (ones n) 1) (named n)) 16 tt n h)

pub bit_test : (n : ℕ) → (ltb n 16 && eqb (ones n) 1) ≡ named n
unfolding named
bit_test n =
    by_test (ltb n 16) (λ e. simp e (one_bit n (ltb-true n 16 e)))
    (λ e.
    let h : 16 ≤ n = ltb-false n 16 e in
    simp (e, ne_eqb n 1 (λ q. omega arith), ne_eqb n 2 (λ q. omega arith), ne_eqb n 4 (λ q. omega arith), ne_eqb n 8 (λ q. omega arith)))

pub named_lt : (n : ℕ) → named n ≡ true → n < 16
named_lt n e = by_test (ltb n 16) (λ q. ltb-true n 16 q) (λ q. absurd (false≢true (simp q at (bit_test n) ∙ e)))

-- the bay's number by trailing zeros

pub bay_place : (n : ℕ) → named n ≡ true → count_trailing_zeros 16 n ≡ bay_number n
unfolding count_trailing_zeros named bay_number
bay_place n e =
    eqb→eq (count_trailing_zeros 16 n) (bay_number n)
    (rw e at (at (λ n. cond (named n) (eqb (count_trailing_zeros 16 n) (bay_number n)) true) 16 tt n (named_lt n e)))

pub bay_nibble : (n : ℕ) → named n ≡ true → 2 ^ bay_number n ≡ n
unfolding named bay_number
bay_nibble n e = eqb→eq (2 ^ bay_number n) n (rw e at (at (λ n. cond (named n) (eqb (2 ^ bay_number n) n) true) 16 tt n (named_lt n e)))

pub bay_none : (n : ℕ) → named n ≡ false → bay_number n ≡ 3
unfolding named bay_number
bay_none n e = go (eqb n 1) (eqb n 2) (eqb n 4) (eqb n 8) e
  where
    go : (a b c d : Bool) → (a || b || c || d) ≡ false → cond {A = ℕ} a 0 (cond b 1 (cond c 2 3)) ≡ 3
    go true b c d q = absurd (subst T q tt)
    go false true c d q = absurd (subst T q tt)
    go false false true d q = absurd (subst T q tt)
    go false false false d q = refl

pub bay_ltb : (n : ℕ) → ltb (bay_number n) 4 ≡ true
bay_ltb n = lt-ltb _ 4 (number_small n)

-- a number has nothing past its bits
pub past_end : (j k w : ℕ) → j ≤ k → w < 2 ^ j → w / 2 ^ k ≡ 0
past_end j k w h l = div-eq_of_lt (lt_of_lt_of_le l (pow_mono h))
