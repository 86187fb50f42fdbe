-- The three steps, as a law: what holds of every candidate's nibble, and of 0, holds of POWER_BY and SMB after them.
use Prim.Native.Nat.{ℕ, ◌<◌}
use mathlib.Core.Path.{◌≡◌, refl}
use mathlib.Core.Bool.{Bool, true, false, not, cond, ◌&&◌, false≢true}
use mathlib.Core.List.{List}
use lib.Dec.{eqb}
use Rattle.model.specs.declared.Bay.{Bay}
use Rattle.model.specs.declared.Machine.{Machine}
use Rattle.model.specs.Words.{named, bay_number}
use Rattle.model.specs.Bays.{empty_bay, bay_at, bay_named, candidate}
use Rattle.model.specs.Settling.{kept_smb, kept_power, unpowered, first_by_letter, takes_over, settled_power, settled_smb}
use Rattle.model.proofs.Bools.{choose}
use Rattle.model.proofs.Bays.{below_four}

-- the nibble of a candidate names a bay, and that bay is the candidate
pub of_candidate : (bays : List Bay) (n : ℕ) → candidate (bay_named bays n) ≡ true → (named n ≡ true) × (candidate (bay_at bays (bay_number n)) ≡ true)
unfolding bay_named candidate
of_candidate bays n = go (named n)
  where
    go : (t : Bool) → candidate (cond t (bay_at bays (bay_number n)) empty_bay) ≡ true → (t ≡ true) × (candidate (bay_at bays (bay_number n)) ≡ true)
    go true c = (refl, c)
    go false c = absurd (false≢true c)

abbrev pub NoCandidate : List Bay → Type 0
NoCandidate bays = (b : ℕ) → b < 4 → candidate (bay_at bays b) ≡ false

module _ (P : ℕ → Type 0) (bays : List Bay) (each : (n : ℕ) → candidate (bay_named bays n) ≡ true → P n) where
  -- the first candidate by letter; 0 only where there is none
  of_first : (NoCandidate bays → P 0) → P (first_by_letter bays)
  unfolding first_by_letter bay_named named bay_number
  of_first none =
      choose P (candidate (bay_named bays 1)) 1 _ (each 1)
      (λ q₀. choose P (candidate (bay_named bays 2)) 2 _ (each 2)
      (λ q₁. choose P (candidate (bay_named bays 4)) 4 _ (each 4)
      (λ q₂. choose P (candidate (bay_named bays 8)) 8 _ (each 8)
      (λ q₃. none (below_four (λ b. candidate (bay_at bays b) ≡ false) q₀ q₁ q₂ q₃)))))

  -- the bay that is taken
  pub of_taken : (NoCandidate bays → P 0) → (wanted : ℕ) → P (takes_over bays wanted)
  unfolding takes_over
  of_taken none wanted = choose P (candidate (bay_named bays wanted)) wanted _ (each wanted) (λ _. of_first none)

  -- the bay that is kept
  pub of_kept : P 0 → (power : ℕ) → P (kept_power bays power)
  unfolding kept_power
  of_kept none power = choose P (candidate (bay_named bays power)) power 0 (each power) (λ _. none)

module _ (P : ℕ → Type 0) (m : Machine) where
  pub of_power : ((n : ℕ) → candidate (bay_named m.bays n) ≡ true → P n) → P 0 → P (settled_power m)
  unfolding settled_power
  of_power each none =
      choose P (unpowered m) _ _ (λ _. of_taken P m.bays each (λ _. none) m.selector.next) (λ _. of_kept P m.bays each none m.selector.power)

  pub of_smb : P (settled_power m) → ((bay_named m.bays m.selector.smb).present ≡ true → P m.selector.smb) → P 0 → P (settled_smb m)
  unfolding settled_smb kept_smb
  of_smb power present none =
      choose P (unpowered m && not (eqb (settled_power m) 0)) _ _ (λ _. power)
      (λ _. choose P (bay_named m.bays m.selector.smb).present _ 0 present (λ _. none))
