-- The bays, and what the past says of each: its pack and its reading.
use Rattle.std.specs.Prelude.{Option}
use Prim.Native.Nat.{ℕ, zero, suc, ◌<◌}
use mathlib.Core.Path.{◌≡◌, refl}
use mathlib.Core.Bool.{Bool, true, false, cond, ◌&&◌, ◌||◌, and-true, and-false, true≢false}
use mathlib.Core.List.{List, [], ◌∷◌}
use lib.Dec.{eqb}
use native.Mathlib.Omega.{arith}
use Rattle.model.specs.declared.Setup.{Setup}
use Rattle.model.specs.declared.Bay.{Bay}
use Rattle.model.specs.declared.Event.{Event}
use Rattle.model.specs.declared.Machine.{Machine}
use Rattle.model.specs.Words.{named, bay_number}
use Rattle.model.specs.Events.{presets_word, insertion, removal, signal, terminal, is, is_at, at_bay, word_of, bay_of}
use Rattle.model.specs.Bays.{empty_bay, bay_at, bay_named, present_after, reading_after, bay_after, ok_written, four_bays, all_ok_written, bays_after}
use Rattle.model.specs.Machines.{power_on}
use Rattle.model.specs.Facts.{Past, holds_pack, pack_at, reading}
use Rattle.model.proofs.Bools.{choose}

pub record BayAgrees (bay : Bay) (b : ℕ) (h : Past) : Type 0 where
  pub present_is : bay.present ≡ holds_pack b h
  pub reading_is : bay.reading ≡ reading b h

abbrev pub BaysAgree : List Bay → Past → Type 0
BaysAgree bays h = (b : ℕ) → b < 4 → BayAgrees (bay_at bays b) b h

-- what holds of each of the four bays
pub below_four : (P : ℕ → Type 0) → P 0 → P 1 → P 2 → P 3 → (b : ℕ) → b < 4 → P b
below_four P p₀ p₁ p₂ p₃ zero l = p₀
below_four P p₀ p₁ p₂ p₃ (suc zero) l = p₁
below_four P p₀ p₁ p₂ p₃ (suc (suc zero)) l = p₂
below_four P p₀ p₁ p₂ p₃ (suc (suc (suc zero))) l = p₃
below_four P p₀ p₁ p₂ p₃ (suc (suc (suc (suc b)))) l = absurd (omega arith)

-- four bays, each by its number
pub four_at : (bay : ℕ → Bay) (b : ℕ) → b < 4 → bay_at (four_bays bay) b ≡ bay b
unfolding bay_at
four_at bay = below_four (λ b. bay_at (four_bays bay) b ≡ bay b) refl refl refl refl

-- bay b after an event: at this bay, at another, a Presets word, or none of these
pub each_bay : (P : Bay → Type 0) (s : Setup) (bays : List Bay) (e : Event) (b : ℕ) → b < 4 →
    (at_bay e ≡ true → eqb (bay_of e) b ≡ true → P (bay_after s e (bay_at bays b))) →
    (eqb (bay_of e) b ≡ false → P (bay_at bays b)) →
    (at_bay e ≡ false → P (ok_written (word_of e) b (bay_at bays b))) →
    (at_bay e ≡ false → P (bay_at bays b)) →
    P (bay_at (bays_after s bays e) b)
unfolding bays_after all_ok_written
each_bay P s bays e b l here elsewhere presets nowhere =
    choose (λ x. P (bay_at x b)) (at_bay e) _ _ (λ a. rw (four_at _ b l) (choose P (eqb (bay_of e) b) _ _ (here a) elsewhere))
    (λ a. choose (λ x. P (bay_at x b)) (is presets_word e) _ _ (λ _. rw (four_at _ b l) (presets a)) (λ _. nowhere a))

-- at power-on each bay is empty
pub empty_at : (s : Setup) (b : ℕ) → b < 4 → bay_at (power_on s).bays b ≡ empty_bay
unfolding power_on bay_at
empty_at s = below_four (λ b. bay_at (power_on s).bays b ≡ empty_bay) refl refl refl refl

-- an event at another bay
elsewhere : (e : Event) (b : ℕ) (h : Past) (bay : Bay) → eqb (bay_of e) b ≡ false → BayAgrees bay b h → BayAgrees bay b (e ∷ h)
unfolding holds_pack reading is_at
elsewhere e b h bay q a = record { present_is = simp (q, and-false) a.present_is; reading_is = simp (q, and-false) a.reading_is }

-- an event at no bay
nowhere : (e : Event) (b : ℕ) (h : Past) (bay : Bay) → at_bay e ≡ false → BayAgrees bay b h → BayAgrees bay b (e ∷ h)
unfolding holds_pack reading is_at at_bay
nowhere e b h bay q a = go (is insertion e) (is removal e) (is signal e) refl refl refl q
  where
    go : (i o r : Bool) → is insertion e ≡ i → is removal e ≡ o → is signal e ≡ r → (i || o || r || is terminal e) ≡ false → BayAgrees bay b (e ∷ h)
    go false false false p₁ p₂ p₃ z = record { present_is = simp (p₁, p₂) a.present_is; reading_is = simp (p₁, p₂, p₃) a.reading_is }
    go true o r p₁ p₂ p₃ z = absurd (true≢false z)
    go false true r p₁ p₂ p₃ z = absurd (true≢false z)
    go false false true p₁ p₂ p₃ z = absurd (true≢false z)

-- an event at this bay
here : (s : Setup) (e : Event) (b : ℕ) (h : Past) (bay : Bay) → eqb (bay_of e) b ≡ true → BayAgrees bay b h → BayAgrees (bay_after s e bay) b (e ∷ h)
unfolding holds_pack reading is_at bay_after present_after reading_after
here s e b h bay q a = record { present_is = simp (q, and-true, a.present_is); reading_is = simp (q, and-true, a.reading_is) }

pub bays_step : (m : Machine) (e : Event) (h : Past) → BaysAgree m.bays h → BaysAgree (bays_after m.setup m.bays e) (e ∷ h)
bays_step m e h a b l =
    each_bay (λ x. BayAgrees x b (e ∷ h)) m.setup m.bays e b l (λ at q. here m.setup e b h _ q (a b l))
    (λ q. elsewhere e b h _ q (a b l)) (λ q. nowhere e b h _ q marked) (λ q. nowhere e b h _ q (a b l))
  where
    marked : BayAgrees (ok_written (word_of e) b (bay_at m.bays b)) b h
    marked = record { present_is = (a b l).present_is; reading_is = (a b l).reading_is }

-- what a nibble names
pub number_small : (n : ℕ) → bay_number n < 4
unfolding bay_number
number_small n = go (eqb n 1) (eqb n 2) (eqb n 4)
  where
    go : (x y z : Bool) → cond x 0 (cond y 1 (cond z 2 3)) < 4
    go true y z = omega arith
    go false true z = omega arith
    go false false true = omega arith
    go false false false = omega arith

pub present_at : (bays : List Bay) (n : ℕ) (h : Past) → BaysAgree bays h → (bay_named bays n).present ≡ pack_at n h
unfolding bay_named pack_at
present_at bays n h a = go (named n)
  where
    go : (t : Bool) → (cond t (bay_at bays (bay_number n)) empty_bay).present ≡ (t && holds_pack (bay_number n) h)
    go true = (a (bay_number n) (number_small n)).present_is
    go false = refl

-- what the signal of the bay that a nibble names allows, where that bay holds a pack
pub signal_at : (allowing : Option ℕ → Bool) (bays : List Bay) (n : ℕ) (h : Past) (first : Bool) → BaysAgree bays h →
    (first && pack_at n h && allowing (bay_named bays n).reading) ≡ (first && pack_at n h && allowing (reading (bay_number n) h))
unfolding bay_named pack_at
signal_at allowing bays n h first a = go (named n)
  where
    go : (t : Bool) →
        (first && (t && holds_pack (bay_number n) h) && allowing (cond t (bay_at bays (bay_number n)) empty_bay).reading)
        ≡ (first && (t && holds_pack (bay_number n) h) && allowing (reading (bay_number n) h))
    go true = rw (a (bay_number n) (number_small n)).reading_is
    go false = simp and-false

unheard : (b : ℕ) → BayAgrees empty_bay b []
unfolding holds_pack reading
unheard b = record { present_is = refl; reading_is = refl }

pub bays_power_on : (s : Setup) → BaysAgree (power_on s).bays []
unfolding power_on
bays_power_on s b l = rw (empty_at s b l) (unheard b)
