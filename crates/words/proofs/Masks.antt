-- Masks: what a nibble's tests by `&` tell of the bay that it names, and of the first bay of a mask.
use mathlib.Core.Path.{◌≡◌, refl, sym, ◌∙◌}
use mathlib.Core.Bool.{Bool, true, false, not, cond, ◌&&◌}
use Prim.Native.Nat.{ℕ, suc, ◌+◌, ◌-◌, ◌*◌, ◌/◌, ◌%◌, ◌^◌, ◌≤◌, ◌<◌}
use native.Mathlib.Omega.{arith}
use native.Mathlib.Nat.{mod-lt, mod-mod_of_dvd, dvd-mul_left, pow-suc, one-mul, zero-mul}
use lib.Dec.{eqb, ltb, eqb→eq, lit<}
use lib.Bits.{bit_and, and_mod, and_le_r}
use lib.Pow.{pow_pos, mod-pow-add, high}
use borrow.Author.Tests.{ltb-true, ltb-false, eqb-true, ne_eqb}
use Rattle.model.specs.Words.{bit, named, bay_number}
use Rattle.model.proofs.Bools.{choose}
use Rattle.model.proofs.Bays.{below_four, number_small}
use Rattle.words.specs.Masks.{four, among, one_of, first_in}
use Rattle.words.proofs.Below.{at, at_both, agree, agreed, by_test}
use Rattle.words.proofs.OneBit.{named_lt}

-- only the low nibble of a mask is looked at

low_bit : (k i n : ℕ) → bit k (n % 2 ^ (suc i + k)) ≡ bit k n
unfolding bit
low_bit k i n = rw (mod-pow-add n (suc i) k, high (n / 2 ^ k % 2 ^ suc i) k (mod-lt n (pow_pos k)), pow-suc 2 i, mod-mod_of_dvd 2 {b = 2 ^ i * 2} (n / 2 ^ k) (dvd-mul_left 2 (2 ^ i)))

low_bay : (n b : ℕ) → b < 4 → bit b (n % 16) ≡ bit b n
low_bay n = below_four (λ b. bit b (n % 16) ≡ bit b n) (low_bit 0 3 n) (low_bit 1 2 n) (low_bit 2 1 n) (low_bit 3 0 n)

low_among : (mask n : ℕ) → among (mask % 16) n ≡ among mask n
unfolding among
low_among mask n = rw (low_bay mask (bay_number n) (number_small n))

low_and : (mask w : ℕ) → w < 16 → bit_and (mask % 16) w ≡ bit_and mask w
low_and mask w h =
    let q : bit_and mask w % 16 ≡ bit_and (mask % 16) (w % 16) = and_mod mask w 4 in
    let r : w % 16 ≡ w = omega arith in
    let small : bit_and mask w % 16 ≡ bit_and mask w = omega (arith, and_le_r mask w) in
    sym (rw r at q) ∙ small

low_bits : (n : ℕ) → first_in (n % 16) ≡ first_in n
unfolding first_in
low_bits n = rw (low_bit 0 3 n, low_bit 1 2 n, low_bit 2 1 n, low_bit 3 0 n)

-- the first bay is the lowest bit
pub lowest : (mask : ℕ) → bit_and (mask % 16) (16 - mask % 16) ≡ first_in mask
unfolding first_in bit
lowest mask =
    eqb→eq _ _ (at (λ n. eqb (bit_and n (16 - n)) (first_in n)) 16 tt (mask % 16) (omega arith)) ∙ low_bits mask

-- one bay of a mask

past : (n : ℕ) → ltb n 16 ≡ false → named n ≡ false
past n q = by_test (named n) (λ e. let h : n < 16 = named_lt n e in absurd (omega (arith, ltb-false n 16 q))) (λ e. e)

not_among : (mask n : ℕ) → named n ≡ false → among mask n ≡ false
unfolding among
not_among mask n q = rw q

first_lt : (n : ℕ) → first_in n < 16
unfolding first_in
first_lt n =
    choose (λ x. x < 16) (bit 0 n) 1 _ (λ _. lit< tt)
    (λ _. choose (λ x. x < 16) (bit 1 n) 2 _ (λ _. lit< tt)
    (λ _. choose (λ x. x < 16) (bit 2 n) 4 _ (λ _. lit< tt) (λ _. choose (λ x. x < 16) (bit 3 n) 8 0 (λ _. lit< tt) (λ _. lit< tt))))

nibble_one : (n k : ℕ) → n < 16 → k < 16 → eqb (bit_and k (first_in n)) n ≡ one_of k n
unfolding among named bay_number bit first_in
nibble_one n k hn hk = agreed _ _ (at_both (λ n k. agree (eqb (bit_and k (first_in n)) n) (one_of k n)) 16 tt n k hn hk)

-- none or a bay of the mask
pub first_one : (mask n : ℕ) → eqb (bit_and mask (first_in n)) n ≡ one_of mask n
first_one mask n =
    by_test (ltb n 16)
    (λ q. rw (← low_and mask (first_in n) (first_lt n), ← low_among mask n) (nibble_one n (mask % 16) (ltb-true n 16 q) (omega arith)))
    (λ q.
    let h : 16 ≤ n = ltb-false n 16 q in
    simp (ne_eqb (bit_and mask (first_in n)) n (λ z. omega (arith, and_le_r mask (first_in n), first_lt n)), ne_eqb n 0 (λ z. omega arith), not_among mask n (past n q)))

-- a bay of the mask, if not none
pub some_among : (mask n : ℕ) → (not (eqb n 0) && one_of mask n) ≡ among mask n
unfolding among named
some_among mask n = by_test (eqb n 0) (λ q. simp (eqb-true n 0 q)) (λ q. simp q)

-- a mask of four tests holds each of them

abbrev Holds : Bool → Bool → Bool → Bool → Type 0
Holds a b c d = (bit 0 (four a b c d) ≡ a) × (bit 1 (four a b c d) ≡ b) × (bit 2 (four a b c d) ≡ c) × (bit 3 (four a b c d) ≡ d)

holds : (a b c d : Bool) → Holds a b c d
unfolding bit
holds true true true true = (refl, refl, refl, refl)
holds true true true false = (refl, refl, refl, refl)
holds true true false true = (refl, refl, refl, refl)
holds true true false false = (refl, refl, refl, refl)
holds true false true true = (refl, refl, refl, refl)
holds true false true false = (refl, refl, refl, refl)
holds true false false true = (refl, refl, refl, refl)
holds true false false false = (refl, refl, refl, refl)
holds false true true true = (refl, refl, refl, refl)
holds false true true false = (refl, refl, refl, refl)
holds false true false true = (refl, refl, refl, refl)
holds false true false false = (refl, refl, refl, refl)
holds false false true true = (refl, refl, refl, refl)
holds false false true false = (refl, refl, refl, refl)
holds false false false true = (refl, refl, refl, refl)
holds false false false false = (refl, refl, refl, refl)

pub bit_four : (test : ℕ → Bool) (b : ℕ) → b < 4 → bit b (four (test 0) (test 1) (test 2) (test 3)) ≡ test b
bit_four test =
    let h = holds (test 0) (test 1) (test 2) (test 3) in
    below_four (λ b. bit b (four (test 0) (test 1) (test 2) (test 3)) ≡ test b) h.0 h.1 h.2 h.3

-- and its first bay is that of the first test
pub first_four : (a b c d : Bool) → first_in (four a b c d) ≡ cond a 1 (cond b 2 (cond c 4 (cond d 8 0)))
unfolding first_in
first_four a b c d = let h = holds a b c d in rw (h.0, h.1, h.2, h.3)

-- a nibble is among them exactly if it names a bay whose test passes
pub among_four : (test : ℕ → Bool) (n : ℕ) → among (four (test 0) (test 1) (test 2) (test 3)) n ≡ (named n && test (bay_number n))
unfolding among
among_four test n = rw (bit_four test (bay_number n) (number_small n))

-- two masks of four tests

nibble_and : (n k : ℕ) → n < 16 → k < 16 → bit_and n k ≡ four (bit 0 n && bit 0 k) (bit 1 n && bit 1 k) (bit 2 n && bit 2 k) (bit 3 n && bit 3 k)
unfolding bit
nibble_and n k hn hk =
    eqb→eq _ _ (at_both (λ n k. eqb (bit_and n k) (four (bit 0 n && bit 0 k) (bit 1 n && bit 1 k) (bit 2 n && bit 2 k) (bit 3 n && bit 3 k))) 16 tt n k hn hk)

flag_le : (b : Bool) (v : ℕ) → cond b v 0 ≤ v
flag_le true v = omega arith
flag_le false v = omega arith

pub four_lt : (a b c d : Bool) → four a b c d < 16
four_lt a b c d = omega (arith, flag_le a 1, flag_le b 2, flag_le c 4, flag_le d 8)

pub and_four : (a b c d x y z w : Bool) → bit_and (four a b c d) (four x y z w) ≡ four (a && x) (b && y) (c && z) (d && w)
and_four a b c d x y z w =
    let h = holds a b c d in
    let g = holds x y z w in
    nibble_and (four a b c d) (four x y z w) (four_lt a b c d) (four_lt x y z w)
    ∙ rw (h.0, h.1, h.2, h.3, g.0, g.1, g.2, g.3)

other_flag : (b : Bool) (v : ℕ) → cond (not b) v 0 + cond b v 0 ≡ v
other_flag true v = omega arith
other_flag false v = omega arith

pub not_four : (a b c d : Bool) → 15 - four a b c d ≡ four (not a) (not b) (not c) (not d)
not_four a b c d = omega (arith, other_flag a 1, other_flag b 2, other_flag c 4, other_flag d 8)

-- a mask by its ones

one_times : (b : Bool) (v : ℕ) → cond b 1 0 * v ≡ cond b v 0
one_times true v = one-mul v
one_times false v = zero-mul v

pub ones_four : (a b c d : Bool) → cond {A = ℕ} a 1 0 + cond b 1 0 * 2 + cond c 1 0 * 4 + cond d 1 0 * 8 ≡ four a b c d
ones_four a b c d = rw (one_times b 2, one_times c 4, one_times d 8)
