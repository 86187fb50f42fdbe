-- The decision over sender, address and code is the model's: a host's word by its address, a bay's by its code.
use Prim.Native.Nat.{ℕ}
use mathlib.Core.Path.{◌≡◌, refl, sym, ◌∙◌}
use mathlib.Core.Bool.{Bool, true, false, not, cond, ◌&&◌, ◌||◌, false≢true}
use lib.Dec.{ltb, eqb}
use borrow.Author.Tests.{eqb-true}
use Rattle.model.specs.declared.Bay.{Bay}
use Rattle.model.specs.declared.Machine.{Machine}
use Rattle.model.specs.declared.Event.{Event}
use Rattle.model.specs.declared.Event.TheVariants.{HostWrite, HostRead, BayWord}
use Rattle.model.specs.declared.Refusal.TheVariants.{UnsupportedBay, NoSuchWord, NotChargingBay}
use Rattle.model.specs.Numbers.{done}
use Rattle.model.specs.Words.{names}
use Rattle.model.specs.Events.{no_such_word, bay_writes, host_writes_charger, host_writes_selector, host_reads_charger, host_reads_selector, by_address, kind_of, from_bay, kind_number, is, at_bay}
use Rattle.model.specs.Bays.{empty_bay, bay_at}
use Rattle.model.specs.Machines.{act}
use Rattle.model.specs.Step.{reply}
use Rattle.model.specs.Refusals.{supports, unsupported_bay, fault}
use Rattle.model.proofs.Bools.{choose}
use Rattle.model.proofs.Computes.{computes}
use Rattle.machine.specs.ByNumber.{bay_in}
use Rattle.actions.specs.declared.Sender.TheVariants.{HostWrites, HostReads, ChargeBay, OtherBay}
use Rattle.actions.specs.declared.Action.{Action}
use Rattle.actions.specs.declared.Action.TheVariants.{SetCurrent, SetVoltage, SetAlarm, Refuse}
use Rattle.actions.specs.Meaning.{done_with, refused_with, unsettled, meant, meant_by}
use Rattle.actions.specs.Decision as decision
use Rattle.actions.specs.Decision.{chosen}
use Rattle.actions.proofs.Faults.{tests, by_fault, on_current, on_voltage, on_alarm, on_mode, on_spec_read, on_status_read, on_state_read, on_presets_read, on_info_read, supports_small}

-- 3
no_such : (m : Machine) (e : Event) → kind_of e ≡ no_such_word → from_bay e ≡ false → meant m e ≡ refused_with 3 m
unfolding meant unsettled fault unsupported_bay is kind_number at_bay
no_such m e k f = simp (k, f)

module _ (m : Machine) (a c w : ℕ) where
  abbrev Written : Type 0
  Written = meant_by m (chosen HostWrites a c w) ≡ meant m (HostWrite a c w)

  pub host_writes : Written
  unfolding meant_by chosen kind_of by_address host_writes_charger host_writes_selector bay_writes from_bay
  host_writes = go (eqb a 0x12) refl (eqb a 0x14) refl
    where
      charger : eqb a 0x12 ≡ true → (t u v x : Bool) → eqb c 0x12 ≡ t → eqb c 0x14 ≡ u → eqb c 0x15 ≡ v → eqb c 0x16 ≡ x → Written
      charger p true u v x q r s z = rw (eqb-true a 0x12 p, eqb-true c 0x12 q) (sym (on_mode m w))
      charger p false true v x q r s z = rw (eqb-true a 0x12 p, eqb-true c 0x14 r) (sym (on_current m w))
      charger p false false true x q r s z = rw (eqb-true a 0x12 p, eqb-true c 0x15 s) (sym (on_voltage m w))
      charger p false false false true q r s z = rw (eqb-true a 0x12 p, eqb-true c 0x16 z) (sym (on_alarm m w))
      charger p false false false false q r s z = rw (eqb-true a 0x12 p) (simp (q, r, s, z) (sym (no_such m (HostWrite 0x12 c w) (simp (q, r, s, z)) refl)))

      selector : eqb a 0x14 ≡ true → (t u : Bool) → eqb c 0x01 ≡ t → eqb c 0x02 ≡ u → Written
      selector p true u q r = rw (eqb-true a 0x14 p, eqb-true c 0x01 q)
      selector p false true q r = rw (eqb-true a 0x14 p, eqb-true c 0x02 r)
      selector p false false q r = rw (eqb-true a 0x14 p) (simp (q, r) (sym (no_such m (HostWrite 0x14 c w) (simp (q, r)) refl)))

      go : (t : Bool) → eqb a 0x12 ≡ t → (u : Bool) → eqb a 0x14 ≡ u → Written
      go true p u q = charger p (eqb c 0x12) (eqb c 0x14) (eqb c 0x15) (eqb c 0x16) refl refl refl refl
      go false p true q = selector q (eqb c 0x01) (eqb c 0x02) refl refl
      go false p false q = simp (p, q) (sym (no_such m (HostWrite a c w) (simp (p, q)) refl))

module _ (m : Machine) (a c : ℕ) where
  abbrev Shown : Type 0
  Shown = meant_by m (chosen HostReads a c 0) ≡ meant m (HostRead a c)

  pub host_reads : Shown
  unfolding meant_by chosen kind_of by_address host_reads_charger host_reads_selector from_bay
  host_reads = go (eqb a 0x12) refl (eqb a 0x14) refl
    where
      charger : eqb a 0x12 ≡ true → (t u : Bool) → eqb c 0x11 ≡ t → eqb c 0x13 ≡ u → Shown
      charger p true u q r = rw (eqb-true a 0x12 p, eqb-true c 0x11 q) (sym (on_spec_read m))
      charger p false true q r = rw (eqb-true a 0x12 p, eqb-true c 0x13 r) (sym (on_status_read m))
      charger p false false q r = rw (eqb-true a 0x12 p) (simp (q, r) (sym (no_such m (HostRead 0x12 c) (simp (q, r)) refl)))

      selector : eqb a 0x14 ≡ true → (t u v : Bool) → eqb c 0x01 ≡ t → eqb c 0x02 ≡ u → eqb c 0x04 ≡ v → Shown
      selector p true u v q r s = rw (eqb-true a 0x14 p, eqb-true c 0x01 q) (sym (on_state_read m))
      selector p false true v q r s = rw (eqb-true a 0x14 p, eqb-true c 0x02 r) (sym (on_presets_read m))
      selector p false false true q r s = rw (eqb-true a 0x14 p, eqb-true c 0x04 s) (sym (on_info_read m))
      selector p false false false q r s = rw (eqb-true a 0x14 p) (simp (q, r, s) (sym (no_such m (HostRead 0x14 c) (simp (q, r, s)) refl)))

      go : (t : Bool) → eqb a 0x12 ≡ t → (u : Bool) → eqb a 0x14 ≡ u → Shown
      go true p u q = charger p (eqb c 0x11) (eqb c 0x13) refl refl
      go false p true q = selector q (eqb c 0x01) (eqb c 0x02) (eqb c 0x04) refl refl refl
      go false p false q = simp (p, q) (sym (no_such m (HostRead a c) (simp (p, q)) refl))

-- a bay's word: 2, 3, 4, then as the host's

module _ (m : Machine) (b c w : ℕ) where
  abbrev Sent : Type 0
  Sent = meant_by m (decision.word_from_bay m b c w) ≡ meant m (BayWord b c w)

  -- a word that exists
  known : (a : Action) →
      fault m (BayWord b c w)
      ≡ cond (not (supports m.setup b)) 2 (cond (not (bay_at m.bays b).present || not (names m.selector.charge b)) 4 0) →
      reply m (BayWord b c w) ≡ done →
      meant_by m a ≡ done_with (act m (BayWord b c w)) →
      chosen ChargeBay 0x12 c w ≡ a →
      chosen OtherBay 0x12 c w ≡ Refuse NotChargingBay →
      Sent
  unfolding decision.word_from_bay decision.sender_at unsettled meant_by bay_in
  known a f r q heard other =
      sym (by_fault m (BayWord b c w) _ f ∙ go (supports m.setup b) (ltb b 4) (supports_small m.setup b) (bay_at m.bays b) (names m.selector.charge b))
    where
      sent : (p n : Bool) → unsettled (cond (not p || not n) 4 0) m (BayWord b c w) ≡ meant_by m (chosen (cond (p && n) ChargeBay OtherBay) 0x12 c w)
      sent true true = rw (heard, r) (sym q)
      sent true false = rw other
      sent false n = rw other

      go : (s t : Bool) → (s ≡ true → t ≡ true) → (x : Bay) (n : Bool) →
          unsettled (cond (not s) 2 (cond (not x.present || not n) 4 0)) m (BayWord b c w)
          ≡ meant_by m (cond s (chosen (cond ((cond t x empty_bay).present && n) ChargeBay OtherBay) 0x12 c w) (Refuse UnsupportedBay))
      go true true h x n = sent x.present n
      go true false h x n = absurd (false≢true (h refl))
      go false t h x n = refl

  -- a word that does not
  unknown : bay_writes c ≡ no_such_word → chosen ChargeBay 0x12 c w ≡ Refuse NoSuchWord → chosen OtherBay 0x12 c w ≡ Refuse NoSuchWord → Sent
  unfolding decision.word_from_bay decision.sender_at meant unsettled meant_by tests
  unknown k heard other = rw (k, choose (λ s. chosen s 0x12 c w ≡ Refuse NoSuchWord) _ ChargeBay OtherBay (λ _. heard) (λ _. other)) (go (supports m.setup b))
    where
      go : (s : Bool) → meant_by m (cond s (Refuse NoSuchWord) (Refuse UnsupportedBay)) ≡ unsettled (cond (not s) 2 3) m (BayWord b c w)
      go true = refl
      go false = refl

current_sent : (m : Machine) (b w : ℕ) → Sent m b 0x14 w
unfolding computes chosen meant_by
current_sent m b w = known m b 0x14 w (SetCurrent w) refl refl refl refl refl

voltage_sent : (m : Machine) (b w : ℕ) → Sent m b 0x15 w
unfolding computes chosen meant_by
voltage_sent m b w = known m b 0x15 w (SetVoltage w) refl refl refl refl refl

alarm_sent : (m : Machine) (b w : ℕ) → Sent m b 0x16 w
unfolding computes chosen meant_by
alarm_sent m b w = known m b 0x16 w (SetAlarm w) refl refl refl refl refl

pub bay_sends : (m : Machine) (b c w : ℕ) → Sent m b c w
unfolding bay_writes chosen
bay_sends m b c w = go (eqb c 0x14) (eqb c 0x15) (eqb c 0x16) refl refl refl
  where
    go : (t u v : Bool) → eqb c 0x14 ≡ t → eqb c 0x15 ≡ u → eqb c 0x16 ≡ v → Sent m b c w
    go true u v p q r = rw (eqb-true c 0x14 p) (current_sent m b w)
    go false true v p q r = rw (eqb-true c 0x15 q) (voltage_sent m b w)
    go false false true p q r = rw (eqb-true c 0x16 r) (alarm_sent m b w)
    go false false false p q r = unknown m b c w (simp (p, q, r)) (simp (p, q, r)) (simp (p, q, r))
