-- The alarm hold and the rewrite marks: how what the past says of them goes on by one event.
use mathlib.Core.Path.{◌≡◌, refl, ap}
use mathlib.Core.Bool.{Bool, true, false, not, cond, ◌&&◌, ◌||◌}
use mathlib.Core.List.{[], ◌∷◌}
use Rattle.model.specs.declared.Event.{Event}
use Rattle.model.specs.Words.{nibble, alarming}
use Rattle.model.specs.Events.{Kind, current_word, voltage_word, alarm_word, is, word_of, alarms}
use Rattle.model.specs.Facts.{Past, latest, since, some, fresh_start, since_fresh, held}

-- of the events h: since the latest alarm, there was a word of kind k
abbrev pub marked : Kind → Past → Bool
marked k h = some (is k) (since alarms h)

pub marked_step : (k : Kind) (e : Event) (h : Past) →
    marked k (since_fresh (e ∷ h)) ≡ cond (fresh_start e h) false (cond (alarms e) false (cond (is k e) true (marked k (since_fresh h))))
unfolding since since_fresh some
marked_step k e h = go (fresh_start e h) (alarms e) (is k e) refl refl
  where
    go : (f t i : Bool) → alarms e ≡ t → is k e ≡ i →
        marked k (cond f [] (e ∷ since_fresh h)) ≡ cond f false (cond t false (cond i true (marked k (since_fresh h))))
    go true t i q r = refl
    go false true i q r = rw q
    go false false true q r = simp (q, r)
    go false false false q r = simp (q, r)

-- where the latest AlarmWarning was an alarm, it was the latest alarm too
latest_alarm : (h : Past) → alarming (latest (is alarm_word) h) ≡ true → since (is alarm_word) h ≡ since alarms h
unfolding latest since alarms
latest_alarm [] q = refl
latest_alarm (e ∷ h) q = go (is alarm_word e) refl q (latest_alarm h)
  where
    go : (t : Bool) → is alarm_word e ≡ t → alarming (cond t (word_of e) (latest (is alarm_word) h)) ≡ true →
        (alarming (latest (is alarm_word) h) ≡ true → since (is alarm_word) h ≡ since alarms h) →
        cond t [] (e ∷ since (is alarm_word) h) ≡ since alarms (e ∷ h)
    go true p r ih = simp (p, r)
    go false p r ih = simp p (ap (e ∷◌) (ih r))

held_by_marks : (h : Past) → held h ≡ (alarming (latest (is alarm_word) h) && not (marked current_word h && marked voltage_word h))
unfolding held
held_by_marks h = go (alarming (latest (is alarm_word) h)) refl
  where
    go : (t : Bool) → alarming (latest (is alarm_word) h) ≡ t →
        (t && not (some (is current_word) (since (is alarm_word) h) && some (is voltage_word) (since (is alarm_word) h)))
        ≡ (t && not (marked current_word h && marked voltage_word h))
    go true q = rw (latest_alarm h q)
    go false q = refl

held_on : (e : Event) (h : Past) →
    held (e ∷ h)
    ≡ cond (alarms e) true
    (cond (is alarm_word e) false
    (alarming (latest (is alarm_word) h) && not ((is current_word e || marked current_word h) && (is voltage_word e || marked voltage_word h))))
unfolding latest since some alarms
held_on e h = rw (held_by_marks (e ∷ h)) (go (is alarm_word e) (alarming (word_of e)) refl refl)
  where
    go : (al x : Bool) → is alarm_word e ≡ al → alarming (word_of e) ≡ x →
        (alarming (latest (is alarm_word) (e ∷ h)) && not (marked current_word (e ∷ h) && marked voltage_word (e ∷ h)))
        ≡ cond (al && x) true
        (cond al false
        (alarming (latest (is alarm_word) h) && not ((is current_word e || marked current_word h) && (is voltage_word e || marked voltage_word h))))
    go true true p q = simp (p, q)
    go true false p q = simp (p, q)
    go false x p q = simp p

-- as a matter of Booleans: a current and a voltage word now, the latest alarm, the two marks
lifted : (cur vol al c v : Bool) →
    cond ((cur || vol) && (cur || c) && (vol || v)) false (al && not (c && v)) ≡ (al && not ((cur || c) && (vol || v)))
lifted true true true c v = refl
lifted true true false c v = refl
lifted true false true c true = refl
lifted true false false c true = refl
lifted true false true true false = refl
lifted true false true false false = refl
lifted true false false c false = refl
lifted false true true true v = refl
lifted false true false true v = refl
lifted false true true false v = refl
lifted false true false false v = refl
lifted false false al c v = refl

pub held_step : (e : Event) (h : Past) →
    held (since_fresh (e ∷ h))
    ≡ cond (fresh_start e h) false
    (cond (alarms e) true
    (cond (is alarm_word e) false
    (cond ((is current_word e || is voltage_word e) && (is current_word e || marked current_word (since_fresh h)) && (is voltage_word e || marked voltage_word (since_fresh h))) false
    (held (since_fresh h)))))
unfolding since_fresh held latest alarming nibble
held_step e h = go (fresh_start e h)
  where
    t : Past
    t = since_fresh h

    go : (f : Bool) →
        held (cond f [] (e ∷ t))
        ≡ cond f false
        (cond (alarms e) true
        (cond (is alarm_word e) false
        (cond ((is current_word e || is voltage_word e) && (is current_word e || marked current_word t) && (is voltage_word e || marked voltage_word t)) false (held t))))
    go true = refl
    go false =
        rw (held_on e t, held_by_marks t, lifted (is current_word e) (is voltage_word e) (alarming (latest (is alarm_word) t)) (marked current_word t) (marked voltage_word t))
