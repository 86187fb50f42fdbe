-- Where a counted word came from: the host, or the pack now in the connected bay.
use Prim.Native.Nat.{ℕ}
use mathlib.Core.Path.{◌≡◌, refl, sym, ◌∙◌, ap, subst}
use mathlib.Core.Logic.{◌⊎◌, inl, inr}
use mathlib.Core.Bool.{Bool, true, false, not, cond, ◌&&◌, ◌||◌, true≢false}
use mathlib.Core.List.{List, [], ◌∷◌}
use lib.Dec.{eqb}
use borrow.Author.Tests.{eqb-true, not-false}
use Rattle.model.specs.declared.Setup.{Setup}
use Rattle.model.specs.declared.Event.{Event}
use Rattle.model.specs.declared.Machine.{Machine}
use Rattle.model.specs.Words.{named, bay_number, names}
use Rattle.model.specs.Events.{Kind, current_word, voltage_word, insertion, removal, is, is_at, swaps, swaps_at, bay_of, from_bay, zeroes}
use Rattle.model.specs.Bays.{bay_at}
use Rattle.model.specs.Refusals.{not_charging_bay}
use Rattle.model.specs.Facts.{Past, latest, since, some, since_fresh, holds_pack, pack_at, connected, fresh_start, asked}
use Rattle.model.specs.Runs.{run, past}
use Rattle.model.specs.Origin.{Counted, Undisturbed}
use Rattle.model.specs.Promises.{CountedFrom}
use Rattle.model.proofs.Bools.{or_l, or_r, and_then}
use Rattle.model.proofs.Passes.{Passes}
use Rattle.model.proofs.Induction.{along}
use Rattle.model.proofs.Registers.{Agrees, agrees_step, agrees_power_on, asked_step}

-- every bay word of a past came from the bay that was connected then
abbrev Lawful : Past → Type 0
Lawful [] = Unit {0}
Lawful (e ∷ h) = (from_bay e ≡ true → names (connected h) (bay_of e) ≡ true) × Lawful h

-- an event that is no fresh start leaves the connection, and swaps no pack there
steady : (e : Event) (h : Past) → fresh_start e h ≡ false → (connected (e ∷ h) ≡ connected h) × (swaps_at (connected h) e ≡ false)
unfolding fresh_start
steady e h q = (eqb-true _ _ (not-false _ (search (or_l, or_r))), search (or_l, or_r))

-- where no pack is put in or pulled, the bay holds what it held
same_pack : (n : ℕ) (e : Event) (h : Past) → swaps_at n e ≡ false → pack_at n (e ∷ h) ≡ pack_at n h
unfolding swaps_at swaps names pack_at holds_pack is_at
same_pack n e h = go (named n) (is insertion e) (is removal e) (eqb (bay_of e) (bay_number n))
  where
    go : (t i o x : Bool) → ((i || o) && (t && x)) ≡ false →
        (t && cond (i && x) true (cond (o && x) false (holds_pack (bay_number n) h))) ≡ (t && holds_pack (bay_number n) h)
    go false i o x q = refl
    go true true o true q = absurd (true≢false q)
    go true true true false q = refl
    go true true false false q = refl
    go true false true true q = absurd (true≢false q)
    go true false true false q = refl
    go true false false x q = refl

by_whom : (n : ℕ) (e : Event) → (from_bay e ≡ true → names n (bay_of e) ≡ true) → (from_bay e ≡ false) ⊎ (names n (bay_of e) ≡ true)
by_whom n e f = go (from_bay e) refl
  where
    go : (t : Bool) → from_bay e ≡ t → (from_bay e ≡ false) ⊎ (names n (bay_of e) ≡ true)
    go true q = inr (f q)
    go false q = inl q

module _ (k : Kind) (e : Event) (h : Past) (quiet : fresh_start e h ≡ false) (unzeroed : zeroes e ≡ false) where
  -- the word is this one
  newest_word : is k e ≡ true → pack_at (connected h) h ≡ true → (from_bay e ≡ true → names (connected h) (bay_of e) ≡ true) → Counted k (e ∷ h)
  unfolding some
  newest_word i p l =
      record {
        later = [];
        word = e;
        before = h;
        stands = refl;
        kind = i;
        newest = refl;
        value = sym (rw (asked_step, quiet, unzeroed, i));
        connection = sym (steady e h quiet).0;
        pack = rw (steady e h quiet).0 p;
        steady = tt;
        sender = by_whom (connected (e ∷ h)) e (rw (steady e h quiet).0 l);
      }

  -- or it came before
  older_word : is k e ≡ false → Counted k h → Counted k (e ∷ h)
  unfolding some
  older_word i old =
      record {
        later = e ∷ old.later;
        word = old.word;
        before = old.before;
        stands = ap (e ∷◌) old.stands;
        kind = old.kind;
        newest = rw i old.newest;
        value = rw (asked_step, quiet, unzeroed, i) old.value;
        connection = rw (steady e h quiet).0 old.connection;
        pack = rw (steady e h quiet).0 old.pack;
        steady = (ap (λ t. connected (e ∷ t)) (sym old.stands), rw (steady e h quiet).0 (steady e h quiet).1, subst (λ c. Undisturbed c old.later (old.word ∷ old.before)) (sym (steady e h quiet).0) old.steady);
        sender = rw (steady e h quiet).0 old.sender;
      }

counted : (k : Kind) (h : Past) → Lawful h → pack_at (connected h) h ≡ true → (asked k h ≡ 0 → ⊥) → Counted k h
unfolding asked latest since since_fresh
counted k [] l p n = absurd (n refl)
counted k (e ∷ h) l p n = go (fresh_start e h) (zeroes e) (is k e) refl refl refl (counted k h l.1)
  where
    there : fresh_start e h ≡ false → pack_at (connected h) h ≡ true
    there q = sym (same_pack (connected h) e h (steady e h q).1) ∙ rw (steady e h q).0 at p

    go : (f z i : Bool) → fresh_start e h ≡ f → zeroes e ≡ z → is k e ≡ i → (pack_at (connected h) h ≡ true → (asked k h ≡ 0 → ⊥) → Counted k h) →
        Counted k (e ∷ h)
    go true z i p₁ p₂ p₃ ih = absurd (n (rw (asked_step, p₁)))
    go false true i p₁ p₂ p₃ ih = absurd (n (rw (asked_step, p₁, p₂)))
    go false false true p₁ p₂ p₃ ih = newest_word k e h p₁ p₂ p₃ (there p₁) l.0
    go false false false p₁ p₂ p₃ ih = older_word k e h p₁ p₂ p₃ (ih (there p₁) (λ z. n (rw (asked_step, p₁, p₂, p₃) z)))

-- what refusal 4 lets through
from_connected : (s : Setup) (m : Machine) (e : Event) (h : Past) → Passes m e → Agrees s m h → from_bay e ≡ true → names (connected h) (bay_of e) ≡ true
unfolding not_charging_bay
from_connected s m e h p a b = rw (← a.charge_is) (not-false _ (or_r (not (bay_at m.bays (bay_of e)).present) _ (and_then (from_bay e) _ p.charging_bay b)))

lawful : (s : Setup) (es : List Event) → Agrees s (run s es) (past s es) × Lawful (past s es)
lawful s =
    along (λ m h. Agrees s m h × Lawful h)
    (λ m e h p a. (agrees_step s m e h a.0, (from_connected s m e h p a.0, a.1))) s (agrees_power_on s, tt)

pub counted_from : CountedFrom
counted_from s es x = (counted current_word _ (lawful s es).1 x.pack x.current_asked, counted voltage_word _ (lawful s es).1 x.pack x.voltage_asked)
