-- Every machine of a run is settled: the three steps once more would change nothing.
use Prim.Native.Nat.{ℕ}
use mathlib.Core.Path.{◌≡◌, refl, sym, ◌∙◌, ap}
use mathlib.Core.Bool.{Bool, true, false, not, cond, ◌&&◌, ◌||◌, or-false, true≢false}
use mathlib.Core.List.{List}
use lib.Dec.{eqb}
use borrow.Author.Tests.{eq-eqb}
use Rattle.model.specs.declared.Bay.{Bay}
use Rattle.model.specs.declared.Machine.{Machine}
use Rattle.model.specs.declared.Setup.{Setup}
use Rattle.model.specs.Words.{named, bay_number}
use Rattle.model.specs.Bays.{bay_at, bay_named, candidate}
use Rattle.model.specs.Machines.{with_selector, with_notice, power_on, act}
use Rattle.model.specs.Settling.{kept_smb, kept_power, unpowered, first_by_letter, takes_over, settled_power, settled_smb, power_changed, settle}
use Rattle.model.specs.Promises.{AllSettled}
use Rattle.model.proofs.Bools.{choose}
use Rattle.model.proofs.Taking.{of_power, of_smb}
use Rattle.model.proofs.Induction.{along}

-- a nibble that step two keeps, and one that step one keeps
module _ (bays : List Bay) where
  abbrev Powers : ℕ → Type 0
  Powers n = kept_power bays n ≡ n

  abbrev Speaks : ℕ → Type 0
  Speaks n = kept_smb bays n ≡ n

  powers_candidate : (n : ℕ) → candidate (bay_named bays n) ≡ true → Powers n
  unfolding kept_power
  powers_candidate n c = rw c

  powers_none : Powers 0
  unfolding kept_power bay_named named candidate
  powers_none = refl

  speaks_none : Speaks 0
  unfolding kept_smb bay_named named
  speaks_none = refl

  -- a power bay is present
  speaks_power : (n : ℕ) → Powers n → Speaks n
  unfolding kept_smb kept_power candidate
  speaks_power n = go (bay_named bays n).present
    where
      go : (pr : Bool) → cond (pr && (bay_named bays n).ok && not (bay_named bays n).low) n 0 ≡ n → cond pr n 0 ≡ n
      go true q = refl
      go false q = q

module _ (m : Machine) where
  power_settled : Powers m.bays (settled_power m)
  power_settled = of_power (Powers m.bays) m (powers_candidate m.bays) (powers_none m.bays)

  smb_settled : Speaks m.bays (settled_smb m)
  unfolding kept_smb
  smb_settled = of_smb (Speaks m.bays) m (speaks_power m.bays (settled_power m) power_settled) (λ q. rw q) (speaks_none m.bays)

  -- the same steps once more

  unpowered_again : unpowered (settle m) ≡ (eqb (settled_power m) 0 && not m.ac)
  unfolding unpowered settle
  unpowered_again = rw power_settled

  power_kept : unpowered m ≡ false → settled_power m ≡ kept_power m.bays m.selector.power
  unfolding settled_power
  power_kept u = rw u

  power_taken : unpowered m ≡ true → settled_power m ≡ takes_over m.bays m.selector.next
  unfolding settled_power
  power_taken u = rw u

  still_powered : unpowered m ≡ false → unpowered (settle m) ≡ false
  unfolding unpowered
  still_powered u = unpowered_again ∙ rw (power_kept u) u

  power_again : settled_power (settle m) ≡ settled_power m
  unfolding settled_power settle
  power_again = go (unpowered m) refl
    where
      go : (t : Bool) → unpowered m ≡ t → cond (unpowered (settle m)) (takes_over m.bays m.selector.next) (kept_power m.bays (settled_power m)) ≡ settled_power m
      go true u = choose (λ n. n ≡ settled_power m) (unpowered (settle m)) _ _ (λ _. sym (power_taken u)) (λ _. power_settled)
      go false u = choose (λ n. n ≡ settled_power m) (unpowered (settle m)) _ _ (λ v. absurd (true≢false (sym v ∙ still_powered u))) (λ _. power_settled)

  smb_again : settled_smb (settle m) ≡ settled_smb m
  unfolding settled_smb settle
  smb_again =
      choose (λ n. n ≡ settled_smb m) (unpowered (settle m) && not (eqb (settled_power (settle m)) 0)) _ _
      (λ v. absurd (not_both (eqb (settled_power m) 0) (not m.ac) (rw (unpowered_again, power_again) at v)))
      (λ _. smb_settled)
    where
      not_both : (x y : Bool) → (x && y && not x) ≡ true → ⊥
      not_both true true q = true≢false (sym q)
      not_both true false q = true≢false (sym q)
      not_both false y q = true≢false (sym q)

  unchanged : power_changed (settle m) ≡ false
  unfolding power_changed settle
  unchanged = ap not (eq-eqb (settled_power (settle m)) (settled_power m) power_again)

  notice_again : (m.notice || power_changed m || power_changed (settle m)) ≡ (m.notice || power_changed m)
  notice_again = rw (unchanged, or-false)

  pub settled_once : settle (settle m) ≡ settle m
  unfolding settle
  settled_once =
      λ i. with_notice
      (with_selector m (record { smb = smb_again i; power = power_again i; charge = m.selector.charge; next = m.selector.next }))
      (notice_again i)

at_power_on : (s : Setup) → settle (power_on s) ≡ power_on s
unfolding power_on settle settled_smb settled_power unpowered kept_power kept_smb takes_over first_by_letter power_changed bay_named bay_at named bay_number candidate
at_power_on s = refl

pub all_settled : AllSettled
all_settled s = along (λ m h. settle m ≡ m) (λ m e h p a. settled_once (act m e)) s (at_power_on s)
