-- The model's rules by bay are the same as the code's by mask.
use Prim.Native.Nat.{ℕ, ◌-◌, ◌%◌, ◌^◌, ◌≤◌}
use mathlib.Core.Path.{◌≡◌, refl, sym, ap, subst, ◌∙◌}
use mathlib.Core.Bool.{Bool, true, false, not, cond, ◌&&◌, and-true, false≢true}
use mathlib.Core.List.{List}
use native.Mathlib.Omega.{arith}
use lib.Dec.{eqb}
use lib.Bits.{bit_and}
use borrow.Author.Tests.{eqb-true}
use Rattle.model.proofs.Bools.{cond_same}
use Rattle.model.proofs.Bays.{below_four, number_small}
use Rattle.model.specs.declared.Bay.{Bay}
use Rattle.model.specs.declared.Machine.{Machine}
use Rattle.model.specs.Words.{bit, nibble, named, bay_number}
use Rattle.model.specs.Bays.{empty_bay, bay_at, bay_named, candidate}
use Rattle.model.specs.Settling.{kept_smb, kept_power, first_by_letter, takes_over}
use Rattle.model.specs.Reads.{present_nibble, ok_nibble, may_follow, shown_next}
use Rattle.words.specs.Masks.{four, among, one_of, first_in}
use Rattle.words.proofs.Below.{by_test}
use Rattle.words.proofs.OneBit.{bay_nibble, named_lt}
use Rattle.words.proofs.Masks.{among_four, first_four, and_four, not_four}
use Rattle.selector.specs.ByMask.{MaskOf, low_nibble, candidate_nibble, follower_nibble, kept_in, taken_from}

-- what a test can only answer in one way is one mask
pub exactly : (answers : Bay → Bool → Type 0) (test : Bay → Bool) → ((bay : Bay) (answer : Bool) → answers bay answer → answer ≡ test bay) → (bays : List Bay) (mask : ℕ) →
    MaskOf answers bays mask → mask ≡ four (test (bay_at bays 0)) (test (bay_at bays 1)) (test (bay_at bays 2)) (test (bay_at bays 3))
exactly answers test one bays mask m =
    let t = m.tested in
    m.is ∙ rw (one _ _ t.0, one _ _ t.1, one _ _ t.2, one _ _ t.3)

-- a test of the bay that a nibble names, by the mask of that test
of_named : (test : Bay → Bool) → test empty_bay ≡ false → (bays : List Bay) (n : ℕ) →
    among (four (test (bay_at bays 0)) (test (bay_at bays 1)) (test (bay_at bays 2)) (test (bay_at bays 3))) n ≡ test (bay_named bays n)
unfolding bay_named
of_named test none bays n = among_four (λ b. test (bay_at bays b)) n ∙ go (named n)
  where
    go : (t : Bool) → (t && test (bay_at bays (bay_number n))) ≡ test (cond t (bay_at bays (bay_number n)) empty_bay)
    go true = refl
    go false = sym none

-- 0 is kept as any other nibble of the mask
pub kept_one : (mask n : ℕ) → cond (one_of mask n) n 0 ≡ kept_in mask n
unfolding kept_in
kept_one mask n = by_test (eqb n 0) (λ q. rw (eqb-true n 0 q) (sym (cond_same (among mask 0) 0))) (λ q. rw q)

module _ (bays : List Bay) where
  pub present_among : (n : ℕ) → among (present_nibble bays) n ≡ (bay_named bays n).present
  unfolding present_nibble
  present_among = of_named (λ bay. bay.present) refl bays

  pub ok_among : (n : ℕ) → among (ok_nibble bays) n ≡ (bay_named bays n).ok
  unfolding ok_nibble
  ok_among = of_named (λ bay. bay.ok) refl bays

  pub candidate_among : (n : ℕ) → among (candidate_nibble bays) n ≡ candidate (bay_named bays n)
  unfolding candidate_nibble candidate
  candidate_among = of_named candidate refl bays

  -- the named bay is present, and a word has its bit 0
  pub present_without : (n w : ℕ) → (among (present_nibble bays) n && not (among w n)) ≡ ((bay_named bays n).present && not (bit (bay_number n) w))
  unfolding among bay_named
  present_without n w = rw (present_among n) (go (named n))
    where
      go : (t : Bool) →
          ((cond t (bay_at bays (bay_number n)) empty_bay).present && not (t && bit (bay_number n) w))
          ≡ ((cond t (bay_at bays (bay_number n)) empty_bay).present && not (bit (bay_number n) w))
      go true = refl
      go false = refl

  -- present, OK and not low, as masks
  pub candidates : bit_and (bit_and (present_nibble bays) (ok_nibble bays)) (15 - low_nibble bays) ≡ candidate_nibble bays
  unfolding present_nibble ok_nibble low_nibble candidate_nibble candidate
  candidates = rw (not_four, and_four, and_four)

  pub kept_smb_lem : (n : ℕ) → kept_in (present_nibble bays) n ≡ kept_smb bays n
  unfolding kept_in kept_smb
  kept_smb_lem n = rw (present_among n)

  pub kept_power_lem : (n : ℕ) → kept_in (candidate_nibble bays) n ≡ kept_power bays n
  unfolding kept_in kept_power
  kept_power_lem n = rw (candidate_among n)

  first_candidate : first_in (candidate_nibble bays) ≡ first_by_letter bays
  unfolding candidate_nibble first_by_letter bay_named named bay_number
  first_candidate = rw first_four

  pub taken_over : (wanted : ℕ) → taken_from (candidate_nibble bays) wanted ≡ takes_over bays wanted
  unfolding taken_from takes_over
  taken_over wanted = rw (candidate_among wanted, first_candidate)

-- a mask without the bay that a nibble names
module _ (a b c d : Bool) (p : ℕ) where
  abbrev Without : ℕ → Type 0
  Without n = four (a && not (eqb 1 n)) (b && not (eqb 2 n)) (c && not (eqb 4 n)) (d && not (eqb 8 n)) ≡ bit_and (four a b c d) (15 - n)

  without_one : named p ≡ true → Without p
  without_one e =
      subst Without (bay_nibble p e)
      (below_four (λ k. Without (2 ^ k)) (sym (and_four a b c d false true true true)) (sym (and_four a b c d true false true true))
      (sym (and_four a b c d true true false true)) (sym (and_four a b c d true true true false)) (bay_number p) (number_small p))

  other : named p ≡ false → (k : ℕ) → named k ≡ true → eqb k p ≡ false
  other e k h = by_test (eqb k p) (λ q. absurd (false≢true (sym e ∙ ap named (sym (eqb-true k p q)) ∙ h))) (λ q. q)

  without_none : named p ≡ false → four (a && not (eqb 1 p)) (b && not (eqb 2 p)) (c && not (eqb 4 p)) (d && not (eqb 8 p)) ≡ four a b c d
  unfolding named
  without_none e = simp (other e 1 refl, other e 2 refl, other e 4 refl, other e 8 refl, and-true)

module _ (m : Machine) where
  follower_among : (n : ℕ) → among (follower_nibble m) n ≡ may_follow m n
  unfolding follower_nibble may_follow bay_named candidate
  follower_among n = among_four (λ b. may_follow m (2 ^ b)) n ∙ go (named n) refl
    where
      go : (t : Bool) → named n ≡ t → (t && may_follow m (2 ^ bay_number n)) ≡ may_follow m n
      go true e = rw (bay_nibble n e)
      go false e = rw e

  pub followers : named m.selector.power ≡ true → bit_and (candidate_nibble m.bays) (15 - m.selector.power) ≡ follower_nibble m
  unfolding candidate_nibble follower_nibble may_follow bay_named named bay_number
  followers e = sym (without_one _ _ _ _ m.selector.power e)

  pub all_follow : named m.selector.power ≡ false → candidate_nibble m.bays ≡ follower_nibble m
  unfolding candidate_nibble follower_nibble may_follow bay_named named bay_number
  all_follow e = sym (without_none _ _ _ _ m.selector.power e)

  first_follower : first_in (follower_nibble m) ≡ cond (may_follow m 1) 1 (cond (may_follow m 2) 2 (cond (may_follow m 4) 4 (cond (may_follow m 8) 8 0)))
  unfolding follower_nibble
  first_follower = rw first_four

  pub shown_next_lem : taken_from (follower_nibble m) m.selector.next ≡ shown_next m
  unfolding taken_from shown_next
  shown_next_lem = rw (follower_among m.selector.next, first_follower)

-- a nibble's own bits
pub low_four_bits : (n : ℕ) → nibble 0 n ≡ n % 16
unfolding nibble
low_four_bits n = omega arith

-- a nibble that names a bay is a nibble
pub named_small : (n : ℕ) → named n ≡ true → n ≤ 15
named_small n e = omega (arith, named_lt n e)
