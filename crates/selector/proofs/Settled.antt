-- A machine of which the three steps change nothing.
use mathlib.Core.Path.{◌≡◌, sym, ◌∙◌}
use mathlib.Core.Bool.{Bool, true, false, not, ◌&&◌, ◌||◌, or-false, false≢true}
use lib.Dec.{eqb}
use Rattle.model.specs.declared.Machine.{Machine}
use Rattle.model.specs.Machines.{with_selector, with_notice}
use Rattle.model.specs.Reads.{present_nibble}
use Rattle.model.specs.Settling.{kept_smb, kept_power, unpowered, settled_power, settled_smb, power_changed}
use Rattle.model.specs.Settling as settling
use Rattle.model.proofs.Bools.{and_l, and_r, eqb_self}
use Rattle.words.specs.Masks.{one_of}
use Rattle.selector.specs.ByMask.{candidate_nibble, settled_by}
use Rattle.selector.proofs.ByMask.{kept_one, kept_smb_lem, kept_power_lem}

-- POWER_BY is there, or AC is
powered : (x ac : Bool) → (not x || ac) ≡ true → (x && not ac) ≡ false
powered true true q = λ i. false
powered true false q = absurd (false≢true q)
powered false ac q = λ i. false

module _ (m : Machine) (h : settled_by m (candidate_nibble m.bays) (present_nibble m.bays) ≡ true) where
  abbrev power : Bool
  power = one_of (candidate_nibble m.bays) m.selector.power

  abbrev smb : Bool
  smb = one_of (present_nibble m.bays) m.selector.smb

  abbrev supplied : Bool
  supplied = not (eqb m.selector.power 0) || m.ac

  two : (power && smb) ≡ true
  unfolding settled_by
  two = and_l (power && smb) supplied h

  same_power : kept_power m.bays m.selector.power ≡ m.selector.power
  same_power = sym (kept_power_lem m.bays m.selector.power) ∙ sym (kept_one (candidate_nibble m.bays) m.selector.power) ∙ rw (and_l power smb two)

  same_smb : kept_smb m.bays m.selector.smb ≡ m.selector.smb
  same_smb = sym (kept_smb_lem m.bays m.selector.smb) ∙ sym (kept_one (present_nibble m.bays) m.selector.smb) ∙ rw (and_r power smb two)

  is_powered : unpowered m ≡ false
  unfolding unpowered settled_by
  is_powered = rw same_power (powered (eqb m.selector.power 0) m.ac (and_r (power && smb) supplied h))

  power_stays : settled_power m ≡ m.selector.power
  unfolding settled_power
  power_stays = rw is_powered same_power

  smb_stays : settled_smb m ≡ m.selector.smb
  unfolding settled_smb
  smb_stays = rw is_powered same_smb

  notice_stays : (m.notice || power_changed m) ≡ m.notice
  unfolding power_changed
  notice_stays = rw (power_stays, eqb_self, or-false)

  pub stays_as_it_is : m ≡ settling.settle m
  unfolding settling.settle
  stays_as_it_is =
      sym (λ i. with_notice (with_selector m (record { smb = smb_stays i; power = power_stays i; charge = m.selector.charge; next = m.selector.next })) (notice_stays i))
