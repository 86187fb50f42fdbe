-- Actions that cannot unsettle a machine touch its charger and its notice alone, and the machine stays settled.
use mathlib.Core.Path.{◌≡◌, refl, sym, ap}
use mathlib.Core.Bool.{Bool, true, false, not, ◌&&◌, ◌||◌, or-false, and-false, true≢false}
use lib.Dec.{ltb, eqb}
use borrow.Author.Tests.{eqb-true}
use Rattle.model.specs.declared.Setup.{Setup}
use Rattle.model.specs.declared.Wake.{Wake}
use Rattle.model.specs.declared.Charger.{Charger}
use Rattle.model.specs.declared.Machine.{Machine}
use Rattle.model.specs.Machines.{with_selector, with_charger, with_notice}
use Rattle.model.specs.Reads.{ready, charging, waking, output}
use Rattle.model.specs.Settling.{unpowered, settled_power, settled_smb, power_changed, settle}
use Rattle.model.proofs.Bools.{and_l, and_r, eqb_self}
use Rattle.charger.proofs.ByEvent.{on_current, on_voltage, on_alarm, on_mode, on_tick}
use Rattle.actions.specs.declared.Action.{Action}
use Rattle.actions.specs.declared.Action.TheVariants.{SetCurrent, SetVoltage, SetAlarm, SetMode, SetState, SetPresets, ReadSpec, ReadStatus, ReadState, ReadPresets, ReadInfo, Insert, Remove, TakeSignal, TakeTerminal, SetAc, Age, Refuse}
use Rattle.actions.specs.Meaning.{meant_by}
use Rattle.steady.specs.Following.{unsettles, same, same_wake, alike}

-- n is m but for its charger and its notice
pub record Alone (m n : Machine) : Type 0 where
  pub charger : Charger
  pub notice : Bool
  pub is : n ≡ with_notice (with_charger m charger) notice

-- but for its charger
of_charger : (m n : Machine) (c : Charger) → n ≡ with_charger m c → Alone m n
of_charger m n c p = record { charger = c; notice = m.notice; is = p }

-- not at all
of_none : (m : Machine) → Alone m m
of_none m = of_charger m m m.charger refl

pub alone : (m : Machine) (a : Action) → unsettles a ≡ false → Alone m (meant_by m a).machine
unfolding meant_by
alone m (SetCurrent w) h = of_charger m _ _ (on_current m w)
alone m (SetVoltage w) h = of_charger m _ _ (on_voltage m w)
alone m (SetAlarm w) h = of_charger m _ _ (on_alarm m w)
alone m (SetMode w) h = of_charger m _ _ (on_mode m w)
alone m (SetState w) h = absurd (true≢false h)
alone m (SetPresets w) h = absurd (true≢false h)
alone m ReadSpec h = of_none m
alone m ReadStatus h = of_none m
alone m ReadState h = record { charger = m.charger; notice = false; is = refl }
alone m ReadPresets h = of_none m
alone m ReadInfo h = of_none m
alone m (Insert b) h = absurd (true≢false h)
alone m (Remove b) h = absurd (true≢false h)
alone m (TakeSignal b ohms) h = absurd (true≢false h)
alone m (TakeTerminal b millivolts) h = absurd (true≢false h)
alone m (SetAc present) h = absurd (true≢false h)
alone m Age h = of_charger m _ _ (on_tick m)
alone m (Refuse why) h = of_none m

-- the same truth is one
is_same_lem : (x y : Bool) → same x y ≡ true → x ≡ y
unfolding same
is_same_lem true y q = sym q
is_same_lem false true q = absurd (true≢false (sym q))
is_same_lem false false q = refl

-- wake-up that is the same to the output lets it flow alike
same_flow : (s : Setup) (v w : Wake) → same_wake s v w ≡ true → (r : Bool) →
    (r && not (eqb s.wake.milliamps 0) && not w.spent && ltb w.age 175) ≡ (r && not (eqb s.wake.milliamps 0) && not v.spent && ltb v.age 175)
unfolding same_wake
same_flow s v w h r = go (eqb s.wake.milliamps 0) h
  where
    go : (off : Bool) → (off || same v.spent w.spent && same (ltb v.age 175) (ltb w.age 175)) ≡ true →
        (r && not off && not w.spent && ltb w.age 175) ≡ (r && not off && not v.spent && ltb v.age 175)
    go true q = rw and-false
    go false q =
        let spent = same v.spent w.spent in
        let over = same (ltb v.age 175) (ltb w.age 175) in
        rw (is_same_lem v.spent w.spent (and_l spent over q), is_same_lem (ltb v.age 175) (ltb w.age 175) (and_r spent over q))

module _ (m : Machine) (c : Charger) (b : Bool) where
  -- such a machine is settled if m is
  still_settled : settle m ≡ m → settle (with_notice (with_charger m c) b) ≡ with_notice (with_charger m c) b
  unfolding settle settled_smb settled_power unpowered power_changed
  still_settled h =
      let power : settled_power m ≡ m.selector.power = ap (λ (x : Machine). x.selector.power) h in
      let smb : settled_smb m ≡ m.selector.smb = ap (λ (x : Machine). x.selector.smb) h in
      let notice : (b || power_changed m) ≡ b = rw (power, eqb_self, or-false) in
      λ i. with_notice (with_selector (with_charger m c) (record { smb = smb i; power = power i; charge = m.selector.charge; next = m.selector.next })) (notice i)

  -- and its output is that of m if the chargers are the same to it
  same_output : alike m.setup m.charger c ≡ true → output (with_notice (with_charger m c) b) ≡ output m
  unfolding output ready charging waking alike
  same_output h =
      let current = eqb m.charger.current.word c.current.word in
      let voltage = eqb m.charger.voltage.word c.voltage.word in
      let hold = same m.charger.hold c.hold in
      let inhibit = same m.charger.inhibit c.inhibit in
      let wake = same_wake m.setup m.charger.wake c.wake in
      let four = and_l (current && voltage && hold && inhibit) wake h in
      let three = and_l (current && voltage && hold) inhibit four in
      let two = and_l (current && voltage) hold three in
      let k = m.charger in
      rw (
        eqb-true k.current.word c.current.word (and_l current voltage two),
        eqb-true k.voltage.word c.voltage.word (and_r current voltage two),
        is_same_lem k.hold c.hold (and_r (current && voltage) hold three),
        is_same_lem k.inhibit c.inhibit (and_r (current && voltage && hold) inhibit four),
        same_flow m.setup k.wake c.wake (and_r (current && voltage && hold && inhibit) wake h),
      )

module _ (m n : Machine) (a : Alone m n) where
  pub settled_alone : settle m ≡ m → settle n ≡ n
  settled_alone h = rw a.is (still_settled m a.charger a.notice h)

  pub output_alone : alike m.setup m.charger n.charger ≡ true → output n ≡ output m
  output_alone h = rw a.is (same_output m a.charger a.notice (rw a.is at h))
