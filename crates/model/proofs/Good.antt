-- A machine that 15 accepts stays one, so from power-on of a good setup nothing is refused by 15.
use Prim.Native.Nat.{ℕ, zero, suc, ◌≤◌, ◌<◌}
use mathlib.Core.Path.{◌≡◌, refl, sym, ◌∙◌}
use mathlib.Core.Bool.{Bool, true, false, not, cond, ◌&&◌, ◌||◌, true≢false, and-true, or-true}
use mathlib.Core.List.{List}
use lib.Dec.{ltb, eqb}
use borrow.Author.Tests.{ltb-true, ltb-false, le-ltb, eqb-true, not-true, not-false}
use native.Mathlib.Omega.{arith}
use Rattle.model.specs.declared.Setup.{Setup}
use Rattle.model.specs.declared.Bay.{Bay}
use Rattle.model.specs.declared.Request.{Request}
use Rattle.model.specs.declared.Event.{Event}
use Rattle.model.specs.declared.Machine.{Machine}
use Rattle.model.specs.Words.{bit, bay_number, smb_in, power_in, charge_in, next_in}
use Rattle.model.specs.Events.{Kind, state_word, presets_word, insertion, removal, tick, is, at_bay, word_of, bay_of, from_bay, connects}
use Rattle.model.specs.Bays.{bay_at, bay_named, candidate, present_after, ok_after, low_after, reading_after, bay_after, ok_written, bays_after}
use Rattle.model.specs.SelectorRules.{ac_arrives, written, smb_after, drops_charge, charge_after, next_after}
use Rattle.model.specs.ChargerRules.{fresh, older, age_after, wake_age_after}
use Rattle.model.specs.Machines.{program_setup, power_on, act}
use Rattle.model.specs.Settling.{settled_power, settle}
use Rattle.model.specs.Refusals.{supports, one_bay, good_limit, good_wake, good_setup, stray_nibble, over_age, was_read, stray_bay, stray_bays, bad_machine, unsupported_bay, formed, state_formed, bad_nibble, wrong_presence, refusal}
use Rattle.model.specs.Numbers.{done, refused}
use Rattle.model.specs.Step.{Told, outcome, step_spec, power_on_spec}
use Rattle.model.specs.Promises.{PowerOnIsGood, StepsStayGood, AlwaysGood}
use Rattle.model.proofs.Bools.{choose, and_l, and_r, or_l, or_r, or_then, and_then}
use Rattle.model.proofs.Passes.{Passes, passes}
use Rattle.model.proofs.Induction.{along}
use Rattle.model.proofs.Taking.{of_candidate, of_power, of_smb}
use Rattle.model.proofs.Bays.{below_four, each_bay, empty_at, number_small}

-- 0 or one supported bay
One : Setup → ℕ → Type 0
One s n = one_bay s n ≡ true

-- what 15 asks of each bay
Bayed : Setup → List Bay → Type 0
Bayed s bays = (b : ℕ) → b < 4 → stray_bay s b (bay_at bays b) ≡ false

-- what 15 asks of a machine, part by part
record Good (m : Machine) : Type 0 where
  setup : good_setup m.setup ≡ true
  smb : One m.setup m.selector.smb
  power : One m.setup m.selector.power
  charge : One m.setup m.selector.charge
  next : One m.setup m.selector.next
  current_age : m.charger.current.age ≤ 175
  voltage_age : m.charger.voltage.age ≤ 175
  wake_age : m.charger.wake.age ≤ 175
  bays : Bayed m.setup m.bays

good_accepted : (m : Machine) → Good m → bad_machine m ≡ false
unfolding bad_machine stray_nibble over_age stray_bays One Bayed
good_accepted m g =
    simp (g.setup, g.smb, g.power, g.charge, g.next, le-ltb 175 _ g.current_age, le-ltb 175 _ g.voltage_age, le-ltb 175 _ g.wake_age, g.bays 0 (omega arith), g.bays 1 (omega arith), g.bays 2 (omega arith), g.bays 3 (omega arith))

no_stray : (s : Setup) (bays : List Bay) → stray_bays s bays ≡ false → Bayed s bays
unfolding stray_bays Bayed
no_stray s bays q =
    let at : ℕ → Bool = λ b. stray_bay s b (bay_at bays b) in
    let three = or_l (at 0 || at 1 || at 2) (at 3) q in
    let two = or_l (at 0 || at 1) (at 2) three in
    below_four (λ b. stray_bay s b (bay_at bays b) ≡ false) (or_l (at 0) (at 1) two) (or_r (at 0) (at 1) two) (or_r (at 0 || at 1) (at 2) three) (or_r (at 0 || at 1 || at 2) (at 3) q)

no_stray_nibble : (m : Machine) → stray_nibble m ≡ false → One m.setup m.selector.smb × One m.setup m.selector.power × One m.setup m.selector.charge × One m.setup m.selector.next
unfolding stray_nibble One
no_stray_nibble m q =
    let stray : ℕ → Bool = λ n. not (one_bay m.setup n) in
    let smb = stray m.selector.smb in
    let power = stray m.selector.power in
    let charge = stray m.selector.charge in
    let next = stray m.selector.next in
    let three = or_l (smb || power || charge) next q in
    let two = or_l (smb || power) charge three in
    (not-false _ (or_l smb power two), not-false _ (or_r smb power two), not-false _ (or_r (smb || power) charge three), not-false _ (or_r (smb || power || charge) next q))

good_of : (m : Machine) → bad_machine m ≡ false → Good m
unfolding bad_machine over_age
good_of m q =
    let setup = not (good_setup m.setup) in
    let three = or_l (setup || stray_nibble m || over_age m) (stray_bays m.setup m.bays) q in
    let two = or_l (setup || stray_nibble m) (over_age m) three in
    let ages = or_r (setup || stray_nibble m) (over_age m) three in
    let current = ltb 175 m.charger.current.age in
    let voltage = ltb 175 m.charger.voltage.age in
    let wake = ltb 175 m.charger.wake.age in
    let requests = or_l (current || voltage) wake ages in
    let nibbles = no_stray_nibble m (or_r setup (stray_nibble m) two) in
    record {
      setup = not-false _ (or_l setup (stray_nibble m) two);
      smb = nibbles.0;
      power = nibbles.1;
      charge = nibbles.2;
      next = nibbles.3;
      current_age = ltb-false 175 _ (or_l current voltage requests);
      voltage_age = ltb-false 175 _ (or_r current voltage requests);
      wake_age = ltb-false 175 _ (or_r (current || voltage) wake ages);
      bays = no_stray m.setup m.bays (or_r (setup || stray_nibble m || over_age m) (stray_bays m.setup m.bays) q);
    }

-- ages

-- an age begins anew, grows by a tick or stays
grown_small : (start : Bool) (e : Event) (age : ℕ) → age ≤ 175 → cond start 0 (cond (is tick e) (older age) age) ≤ 175
grown_small start e age l =
    choose (λ n. n ≤ 175) start _ _ (λ _. omega arith)
    (λ _. choose (λ n. n ≤ 175) (is tick e) _ _
    (λ _. choose (λ n. n ≤ 175) (ltb age 175) _ _ (λ q. omega (arith, ltb-true age 175 q)) (λ _. l))
    (λ _. l))

age_small : (f : Bool) (k : Kind) (e : Event) (r : Request) → r.age ≤ 175 → age_after f k e r ≤ 175
unfolding age_after
age_small f k e r l = choose (λ n. n ≤ 175) f _ _ (λ _. omega arith) (λ _. grown_small (is k e) e r.age l)

-- bays

ok_good : (s : Setup) (b w : ℕ) (x : Bay) → stray_bay s b x ≡ false → stray_bay s b (ok_written w b x) ≡ false
unfolding stray_bay
ok_good s b w x = go x.present x.ok
  where
    go : (pr ok : Bool) → (pr && not (supports s b) || not pr && (ok || x.low || was_read x.reading)) ≡ false →
        (pr && not (supports s b) || not pr && (pr && bit b w || x.low || was_read x.reading)) ≡ false
    go true ok q = q
    go false true q = absurd (true≢false q)
    go false false q = q

module _ (m : Machine) (e : Event) (p : Passes m e) (g : Good m) where
  supported : at_bay e ≡ true → supports m.setup (bay_of e) ≡ true
  unfolding unsupported_bay
  supported at = not-false _ (and_then (from_bay e || at_bay e) _ p.supported (rw (at, or-true)))

  here_good : (b : ℕ) → bay_of e ≡ b → at_bay e ≡ true → stray_bay m.setup b (bay_after m.setup e (bay_at m.bays b)) ≡ false
  unfolding stray_bay present_after ok_after low_after reading_after bay_after wrong_presence at_bay
  here_good b z at = go (is insertion e) (is removal e) (bay_at m.bays b).present refl refl refl
    where
      s : supports m.setup b ≡ true
      s = rw z at (supported at)

      go : (i o pr : Bool) → is insertion e ≡ i → is removal e ≡ o → (bay_at m.bays b).present ≡ pr →
          stray_bay m.setup b (bay_after m.setup e (bay_at m.bays b)) ≡ false
      go true o pr p₁ p₂ p₃ = simp (p₁, s)
      go false true pr p₁ p₂ p₃ = simp (p₁, p₂)
      go false false true p₁ p₂ p₃ = simp (p₁, p₂, p₃, s)
      go false false false p₁ p₂ p₃ = absurd (true≢false (sym (simp (p₁, p₂) at at) ∙ simp (z, p₁, p₂, p₃, and-true) at p.right_presence))

  bays_good : Bayed m.setup (bays_after m.setup m.bays e)
  unfolding Bayed
  bays_good b l =
      each_bay (λ x. stray_bay m.setup b x ≡ false) m.setup m.bays e b l (λ at q. here_good b (eqb-true _ _ q) at)
      (λ _. g.bays b l) (λ _. ok_good m.setup b (word_of e) (bay_at m.bays b) (g.bays b l)) (λ _. g.bays b l)

-- nibbles: none, a candidate's, the written

none_one : (s : Setup) → One s 0
unfolding One one_bay
none_one s = refl

candidate_one : (s : Setup) (bays : List Bay) → Bayed s bays → (n : ℕ) → candidate (bay_named bays n) ≡ true → One s n
unfolding One one_bay Bayed candidate stray_bay
candidate_one s bays g n c =
    let k = of_candidate bays n c in
    let q : (bay_at bays (bay_number n)).present ≡ true = and_l _ _ (and_l _ _ k.1) in
    let f : supports s (bay_number n) ≡ true = not-false _ (or_l _ _ (rw q at (g (bay_number n) (number_small n)))) in
    rw (k.0, f, or-true)

module _ (m : Machine) (e : Event) (p : Passes m e) (g : Good m) where
  -- each nibble of a SelectorState word is 0xF or has the form
  state_formed_lem : is state_word e ≡ true →
      (formed m.setup (smb_in (word_of e)) ≡ true) × (formed m.setup (power_in (word_of e)) ≡ true) × (formed m.setup (charge_in (word_of e)) ≡ true)
  unfolding bad_nibble state_formed
  state_formed_lem q =
      let f : state_formed m.setup (word_of e) ≡ true = not-false _ (and_then (is state_word e) _ (or_l _ (is presets_word e && not (one_bay m.setup (next_in (word_of e)))) p.formed) q) in
      (search (and_l, and_r), search (and_l, and_r), search (and_l, and_r))

  presets_formed : is presets_word e ≡ true → One m.setup (next_in (word_of e))
  unfolding bad_nibble One
  presets_formed q = not-false _ (and_then (is presets_word e) _ (or_r (is state_word e && not (state_formed m.setup (word_of e))) _ p.formed) q)

  formed_one : (n : ℕ) → formed m.setup n ≡ true → eqb n 15 ≡ false → One m.setup n
  unfolding formed One
  formed_one n q r = or_then (eqb n 15) (one_bay m.setup n) q r

  written_one : (n old : ℕ) → (is state_word e ≡ true → formed m.setup n ≡ true) → One m.setup old → is state_word e ≡ true → One m.setup (written n old)
  unfolding written
  written_one n old f o q = choose (One m.setup) (eqb n 15) _ _ (λ _. o) (formed_one n (f q))

  smb_after_one : One m.setup (smb_after m e)
  unfolding smb_after
  smb_after_one = choose (One m.setup) (is state_word e) _ _ (written_one _ _ (λ q. (state_formed_lem q).0) g.smb) (λ _. g.smb)

  charge_after_one : One m.setup (charge_after m e)
  unfolding charge_after connects
  charge_after_one =
      choose (One m.setup) (connects e) _ _
      (λ q. formed_one _ (state_formed_lem (and_l (is state_word e) _ q)).2 (not-true _ (and_r (is state_word e) _ q)))
      (λ _. choose (One m.setup) (drops_charge m e) _ _ (λ _. none_one _) (λ _. g.charge))

  next_after_one : One m.setup (next_after m e)
  unfolding next_after
  next_after_one = choose (One m.setup) (is presets_word e) _ _ presets_formed (λ _. g.next)

  power_one : One m.setup (settled_power (act m e))
  unfolding act
  power_one = of_power (One m.setup) (act m e) (candidate_one m.setup _ (bays_good m e p g)) (none_one m.setup)

  good_step : Good (settle (act m e))
  unfolding settle act wake_age_after
  good_step =
      record {
        setup = g.setup;
        smb = of_smb (One m.setup) (act m e) power_one (λ _. smb_after_one) (none_one m.setup);
        power = power_one;
        charge = charge_after_one;
        next = next_after_one;
        current_age = age_small _ _ _ _ g.current_age;
        voltage_age = age_small _ _ _ _ g.voltage_age;
        wake_age = grown_small (fresh m e || ac_arrives m e) e _ g.wake_age;
        bays = bays_good m e p g;
      }

pub steps_stay_good : StepsStayGood
unfolding step_spec outcome
steps_stay_good m e b = go (refusal m e) refl
  where
    go : (n : ℕ) → refusal m e ≡ n → bad_machine (outcome n m e).machine ≡ false
    go zero q = good_accepted _ (good_step m e (passes m e q) (good_of m b))
    go (suc n) q = b

good_power_on : (s : Setup) → good_setup s ≡ true → Good (power_on s)
unfolding power_on Bayed stray_bay
good_power_on s g =
    record {
      setup = g;
      smb = none_one s;
      power = none_one s;
      charge = none_one s;
      next = none_one s;
      current_age = omega arith;
      voltage_age = omega arith;
      wake_age = omega arith;
      bays = λ b l. rw (empty_at s b l);
    }

pub power_on_is_good : PowerOnIsGood
unfolding power_on_spec good_setup good_limit good_wake
power_on_is_good s = go (good_setup s) refl
  where
    go : (t : Bool) → good_setup s ≡ t →
        bad_machine (cond {A = Told} t (record { answer = done; machine = power_on s }) (record { answer = refused 1; machine = power_on program_setup })).machine ≡ false
    go true q = good_accepted _ (good_power_on s q)
    go false q = good_accepted _ (good_power_on program_setup refl)

pub always_good : AlwaysGood
always_good s g es = good_accepted _ (along (λ m h. Good m) (λ m e h p v. good_step m e p v) s (good_power_on s g) es)
