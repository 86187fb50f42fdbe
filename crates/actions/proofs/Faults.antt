-- What each event means before the machine settles, as the code tests it.
use Prim.Native.Nat.{ℕ}
use mathlib.Core.Path.{◌≡◌, refl, sym, ◌∙◌}
use mathlib.Core.Bool.{Bool, true, false, not, cond, or-false, false≢true, not-not}
use lib.Dec.{ltb}
use Rattle.model.specs.declared.Setup.{Setup}
use Rattle.model.specs.declared.Bay.{Bay}
use Rattle.model.specs.declared.Machine.{Machine}
use Rattle.model.specs.declared.Event.{Event}
use Rattle.model.specs.declared.Event.TheVariants.{HostWrite, HostRead, Insertion, Removal, Signal, Terminal, Ac, Tick}
use Rattle.model.specs.declared.Refusal.TheVariants.{UnsupportedBay, WrongPresence}
use Rattle.model.specs.Numbers.{done, word}
use Rattle.model.specs.Words.{next_in}
use Rattle.model.specs.Events.{bay_writes, host_writes_charger, host_writes_selector, host_reads_charger, host_reads_selector, by_address, kind_of, word_of, bay_of, from_bay, kind_number, is, at_bay, swaps, swaps_at, resets, connects, state_word, presets_word, state_read, ac_event}
use Rattle.model.specs.Bays.{empty_bay, bay_at, bays_after}
use Rattle.model.specs.SelectorRules.{ac_after, ac_arrives, ac_goes, smb_after, power_after, drops_charge, charge_after, next_after, notice_after}
use Rattle.model.specs.ChargerRules.{fresh}
use Rattle.model.specs.Machines.{act, with_notice}
use Rattle.model.specs.Reads.{status_word, state_shown, presets_shown, info_shown, is_read, word_shown}
use Rattle.model.specs.Refusals.{supports, unsupported_bay, not_charging_bay, one_bay, state_formed, bad_nibble, smb_elsewhere, not_usable, same_bay, wrong_presence, fault}
use Rattle.model.specs.Step.{reply}
use Rattle.model.proofs.Bools.{and_l, eqb_self}
use Rattle.machine.specs.ByNumber.{bay_in}
use Rattle.charger.specs.ByEvent.{fresh_if, arrived_if}
use Rattle.charger.proofs.Afresh.{Quiet, fresh_or_arrived}
use Rattle.actions.specs.declared.Action.{Action}
use Rattle.actions.specs.declared.Action.TheVariants.{Insert, Remove, TakeSignal, TakeTerminal, Refuse}
use Rattle.actions.specs.Meaning.{done_with, shown_with, refused_with, unsettled, meant, meant_by}
use Rattle.actions.specs.Decision as decision

-- the tests of an event, opened under one name
unfoldable pub tests : Unit {0}
unfolding bay_writes host_writes_charger host_writes_selector host_reads_charger host_reads_selector by_address kind_of word_of bay_of from_bay kind_number is at_bay is_read word_shown unsupported_bay not_charging_bay bad_nibble wrong_presence fault reply
tests = tt

-- an event by the number of its refusal
pub by_fault : (m : Machine) (e : Event) (n : ℕ) → fault m e ≡ n → meant m e ≡ unsettled n m e
unfolding meant
by_fault m e n q = rw q

-- an event that nothing refuses, and that is no read
acts : (m : Machine) (e : Event) → fault m e ≡ 0 → reply m e ≡ done → meant m e ≡ done_with (act m e)
unfolding unsettled
acts m e f r = by_fault m e 0 f ∙ rw r

-- words of the charger, AC, a tick

pub on_current : (m : Machine) (w : ℕ) → meant m (HostWrite 0x12 0x14 w) ≡ done_with (act m (HostWrite 0x12 0x14 w))
unfolding tests
on_current m w = acts m (HostWrite 0x12 0x14 w) refl refl

pub on_voltage : (m : Machine) (w : ℕ) → meant m (HostWrite 0x12 0x15 w) ≡ done_with (act m (HostWrite 0x12 0x15 w))
unfolding tests
on_voltage m w = acts m (HostWrite 0x12 0x15 w) refl refl

pub on_alarm : (m : Machine) (w : ℕ) → meant m (HostWrite 0x12 0x16 w) ≡ done_with (act m (HostWrite 0x12 0x16 w))
unfolding tests
on_alarm m w = acts m (HostWrite 0x12 0x16 w) refl refl

pub on_mode : (m : Machine) (w : ℕ) → meant m (HostWrite 0x12 0x12 w) ≡ done_with (act m (HostWrite 0x12 0x12 w))
unfolding tests
on_mode m w = acts m (HostWrite 0x12 0x12 w) refl refl

pub on_ac : (m : Machine) (p : Bool) → meant m (Ac p) ≡ done_with (act m (Ac p))
unfolding tests
on_ac m p = acts m (Ac p) refl refl

pub on_tick : (m : Machine) → meant m Tick ≡ done_with (act m Tick)
unfolding tests
on_tick m = acts m Tick refl refl

-- words of the selector

state_fault : (m : Machine) (w : ℕ) →
    fault m (HostWrite 0x14 0x01 w)
    ≡ cond (not (state_formed m.setup w)) 5 (cond (smb_elsewhere w) 6 (cond (not_usable m w) 7 (cond (same_bay m w) 8 0)))
unfolding tests
state_fault m w = simp or-false

pub on_state : (m : Machine) (w : ℕ) →
    meant m (HostWrite 0x14 0x01 w)
    ≡ cond (state_formed m.setup w)
    (cond (smb_elsewhere w) (refused_with 6 m)
    (cond (not_usable m w) (refused_with 7 m) (cond (same_bay m w) (refused_with 8 m) (done_with (act m (HostWrite 0x14 0x01 w))))))
    (refused_with 5 m)
unfolding unsettled tests
on_state m w = by_fault m _ _ (state_fault m w) ∙ go (state_formed m.setup w) (smb_elsewhere w) (not_usable m w) (same_bay m w)
  where
    go : (a b c d : Bool) →
        unsettled (cond (not a) 5 (cond b 6 (cond c 7 (cond d 8 0)))) m (HostWrite 0x14 0x01 w)
        ≡ cond a
        (cond b (refused_with 6 m) (cond c (refused_with 7 m) (cond d (refused_with 8 m) (done_with (act m (HostWrite 0x14 0x01 w))))))
        (refused_with 5 m)
    go false b c d = refl
    go true true c d = refl
    go true false true d = refl
    go true false false true = refl
    go true false false false = refl

pub on_presets : (m : Machine) (w : ℕ) →
    meant m (HostWrite 0x14 0x02 w) ≡ cond (one_bay m.setup (next_in w)) (done_with (act m (HostWrite 0x14 0x02 w))) (refused_with 5 m)
unfolding meant unsettled tests
on_presets m w = go (one_bay m.setup (next_in w))
  where
    go : (a : Bool) →
        unsettled (cond (not a) 5 0) m (HostWrite 0x14 0x02 w) ≡ cond a (done_with (act m (HostWrite 0x14 0x02 w))) (refused_with 5 m)
    go true = refl
    go false = refl

-- reads: nothing changes but the notice, by a read of SelectorState

-- no word that is written, and nothing that happens at a bay or to AC
abbrev Reads : Event → Type 0
Reads e = Quiet e × (is state_word e ≡ false) × (is presets_word e ≡ false) × (is ac_event e ≡ false) × (at_bay e ≡ false) × (swaps e ≡ false)

keeps : (m : Machine) (e : Event) → Reads e → act m e ≡ with_notice m (cond (is state_read e) false m.notice)
unfolding act bays_after ac_after ac_arrives ac_goes smb_after power_after drops_charge charge_after next_after notice_after connects fresh resets swaps_at fresh_if arrived_if
keeps m e (q, s, p, a, b, w) = simp (fresh_or_arrived e q, q.3, s, p, a, b, w, eqb_self)

shows : (m : Machine) (e : Event) (w : ℕ) → fault m e ≡ 0 → reply m e ≡ word w → Reads e → meant m e ≡ shown_with w (with_notice m (cond (is state_read e) false m.notice))
unfolding unsettled
shows m e w f r q = by_fault m e 0 f ∙ rw (r, keeps m e q)

pub on_spec_read : (m : Machine) → meant m (HostRead 0x12 0x11) ≡ shown_with 0x0002 m
unfolding tests swaps
on_spec_read m = shows m (HostRead 0x12 0x11) 0x0002 refl refl ((refl, refl, refl, refl, refl), refl, refl, refl, refl, refl)

pub on_status_read : (m : Machine) → meant m (HostRead 0x12 0x13) ≡ shown_with (status_word m) m
unfolding tests swaps
on_status_read m = shows m (HostRead 0x12 0x13) (status_word m) refl refl ((refl, refl, refl, refl, refl), refl, refl, refl, refl, refl)

pub on_state_read : (m : Machine) → meant m (HostRead 0x14 0x01) ≡ shown_with (state_shown m) (with_notice m false)
unfolding tests swaps
on_state_read m = shows m (HostRead 0x14 0x01) (state_shown m) refl refl ((refl, refl, refl, refl, refl), refl, refl, refl, refl, refl)

pub on_presets_read : (m : Machine) → meant m (HostRead 0x14 0x02) ≡ shown_with (presets_shown m) m
unfolding tests swaps
on_presets_read m = shows m (HostRead 0x14 0x02) (presets_shown m) refl refl ((refl, refl, refl, refl, refl), refl, refl, refl, refl, refl)

pub on_info_read : (m : Machine) → meant m (HostRead 0x14 0x04) ≡ shown_with (info_shown m) m
unfolding tests swaps
on_info_read m = shows m (HostRead 0x14 0x04) (info_shown m) refl refl ((refl, refl, refl, refl, refl), refl, refl, refl, refl, refl)

-- at a bay: 2 where it is not supported, 9 where it is not as the event needs it

pub supports_small : (s : Setup) (b : ℕ) → supports s b ≡ true → ltb b 4 ≡ true
unfolding supports
supports_small s b = and_l (ltb b 4) _

-- `right`: a bay that holds a pack or not is as the event needs it
at_a_bay : (m : Machine) (e : Event) (b : ℕ) (right : Bool → Bool) (a : Action) →
    fault m e ≡ cond (not (supports m.setup b)) 2 (cond (not (right (bay_at m.bays b).present)) 9 0) →
    reply m e ≡ done →
    meant_by m a ≡ done_with (act m e) →
    meant_by m (cond (supports m.setup b) (cond (right (bay_in m.bays b).present) a (Refuse WrongPresence)) (Refuse UnsupportedBay)) ≡ meant m e
unfolding unsettled meant_by bay_in
at_a_bay m e b right a f r q = sym (by_fault m e _ f ∙ go (supports m.setup b) (ltb b 4) (supports_small m.setup b) (bay_at m.bays b))
  where
    go : (s t : Bool) → (s ≡ true → t ≡ true) → (x : Bay) →
        unsettled (cond (not s) 2 (cond (not (right x.present)) 9 0)) m e
        ≡ meant_by m (cond s (cond (right (cond t x empty_bay).present) a (Refuse WrongPresence)) (Refuse UnsupportedBay))
    go true true h x = pack (right x.present)
      where
        pack : (p : Bool) → unsettled (cond (not p) 9 0) m e ≡ meant_by m (cond p a (Refuse WrongPresence))
        pack true = rw r (sym q)
        pack false = refl
    go true false h x = absurd (false≢true (h refl))
    go false t h x = refl

pub on_insertion : (m : Machine) (b : ℕ) → meant_by m (decision.action_at_bay m b false (Insert b)) ≡ meant m (Insertion b)
unfolding decision.action_at_bay meant_by tests
on_insertion m b = at_a_bay m (Insertion b) b not (Insert b) (simp (or-false, not-not)) refl refl

pub on_removal : (m : Machine) (b : ℕ) → meant_by m (decision.action_at_bay m b true (Remove b)) ≡ meant m (Removal b)
unfolding decision.action_at_bay meant_by tests
on_removal m b = at_a_bay m (Removal b) b (λ p. p) (Remove b) refl refl refl

pub on_signal : (m : Machine) (b ohms : ℕ) → meant_by m (decision.action_at_bay m b true (TakeSignal b ohms)) ≡ meant m (Signal b ohms)
unfolding decision.action_at_bay meant_by tests
on_signal m b ohms = at_a_bay m (Signal b ohms) b (λ p. p) (TakeSignal b ohms) refl refl refl

pub on_terminal : (m : Machine) (b v : ℕ) → meant_by m (decision.action_at_bay m b true (TakeTerminal b v)) ≡ meant m (Terminal b v)
unfolding decision.action_at_bay meant_by tests
on_terminal m b v = at_a_bay m (Terminal b v) b (λ p. p) (TakeTerminal b v) refl refl refl
