-- No two refusals have one number, no two answers one value and no two kinds of event one number: each has an inverse.
use Prim.Native.Nat.{ℕ, ◌≤◌, ◌<◌}
use native.Mathlib.Omega.{arith}
use mathlib.Core.Path.{◌≡◌, refl, sym, ◌∙◌, ap}
use mathlib.Core.List.{List, [], ◌∷◌}
use lib.ListN.{get_or}
use Rattle.model.specs.declared.Refusal.{Refusal}
use Rattle.model.specs.declared.Refusal.TheVariants.{BadSetup, UnsupportedBay, NoSuchWord, NotChargingBay, BadNibble, SmbElsewhere, NotUsable, SameBay, WrongPresence, RecordCutOff, BadLength, UnknownKind, BadAcByte, NoRoom, BadMachine}
use Rattle.model.specs.declared.Answer.{Answer}
use Rattle.model.specs.declared.Answer.TheVariants.{Done, Word, Refused}
use Rattle.model.specs.Numbers.{number_of, Said, done, word, refused, said}
use Rattle.model.specs.Step.{told}
use Rattle.model.specs.Events.{Kind, kind_number, current_word, voltage_word, alarm_word, mode_word, state_word, presets_word, spec_read, status_read, state_read, presets_read, info_read, insertion, removal, signal, terminal, ac_event, tick, no_such_word}
use Rattle.model.specs.Promises.{RefusalsApart, AnswersApart, StepsApart, KindsApart}

-- what has an inverse keeps different things apart
pub apart : {A B : Type 0} (f : A → B) (g : B → A) → ((x : A) → g (f x) ≡ x) → (x y : A) → f x ≡ f y → x ≡ y
apart f g back x y q = sym (back x) ∙ ap g q ∙ back y

-- refusals, the first at 1

refusals : List Refusal
refusals =
    BadSetup
    ∷ BadSetup
    ∷ UnsupportedBay
    ∷ NoSuchWord
    ∷ NotChargingBay
    ∷ BadNibble
    ∷ SmbElsewhere
    ∷ NotUsable
    ∷ SameBay
    ∷ WrongPresence
    ∷ RecordCutOff
    ∷ BadLength
    ∷ UnknownKind
    ∷ BadAcByte
    ∷ NoRoom
    ∷ BadMachine
    ∷ []

pub refusal_at : ℕ → Refusal
refusal_at n = get_or refusals n BadSetup

pub refusal_back : (r : Refusal) → refusal_at (number_of r) ≡ r
unfolding refusal_at refusals
refusal_back BadSetup = refl
refusal_back UnsupportedBay = refl
refusal_back NoSuchWord = refl
refusal_back NotChargingBay = refl
refusal_back BadNibble = refl
refusal_back SmbElsewhere = refl
refusal_back NotUsable = refl
refusal_back SameBay = refl
refusal_back WrongPresence = refl
refusal_back RecordCutOff = refl
refusal_back BadLength = refl
refusal_back UnknownKind = refl
refusal_back BadAcByte = refl
refusal_back NoRoom = refl
refusal_back BadMachine = refl

-- the numbers are 1 to 15; 0 is the number of none
pub one_to_15 : (r : Refusal) → (0 < number_of r) × (number_of r ≤ 15)
one_to_15 BadSetup = (omega arith, omega arith)
one_to_15 UnsupportedBay = (omega arith, omega arith)
one_to_15 NoSuchWord = (omega arith, omega arith)
one_to_15 NotChargingBay = (omega arith, omega arith)
one_to_15 BadNibble = (omega arith, omega arith)
one_to_15 SmbElsewhere = (omega arith, omega arith)
one_to_15 NotUsable = (omega arith, omega arith)
one_to_15 SameBay = (omega arith, omega arith)
one_to_15 WrongPresence = (omega arith, omega arith)
one_to_15 RecordCutOff = (omega arith, omega arith)
one_to_15 BadLength = (omega arith, omega arith)
one_to_15 UnknownKind = (omega arith, omega arith)
one_to_15 BadAcByte = (omega arith, omega arith)
one_to_15 NoRoom = (omega arith, omega arith)
one_to_15 BadMachine = (omega arith, omega arith)

pub refusals_apart : RefusalsApart
refusals_apart = apart number_of refusal_at refusal_back

-- answers

answer_of : Said → Answer
answer_of done = Done
answer_of (word w) = Word w
answer_of (refused n) = Refused (refusal_at n)

answer_back : (x : Answer) → answer_of (said x) ≡ x
unfolding answer_of
answer_back Done = refl
answer_back (Word w) = refl
answer_back (Refused r) = ap Refused (refusal_back r)

pub answers_apart : AnswersApart
answers_apart = apart said answer_of answer_back

pub steps_apart : StepsApart
unfolding told
steps_apart r q p = λ i. record { answer = answers_apart r.answer q.answer (ap (λ t. t.answer) p) i; machine = (p i).machine }

-- kinds of event, the first at 1

kinds : List Kind
kinds =
    no_such_word
    ∷ current_word
    ∷ voltage_word
    ∷ alarm_word
    ∷ mode_word
    ∷ state_word
    ∷ presets_word
    ∷ spec_read
    ∷ status_read
    ∷ state_read
    ∷ presets_read
    ∷ info_read
    ∷ insertion
    ∷ removal
    ∷ signal
    ∷ terminal
    ∷ ac_event
    ∷ tick
    ∷ []

kind_at : ℕ → Kind
kind_at n = get_or kinds n no_such_word

kind_back : (k : Kind) → kind_at (kind_number k) ≡ k
unfolding kind_at kinds kind_number
kind_back current_word = refl
kind_back voltage_word = refl
kind_back alarm_word = refl
kind_back mode_word = refl
kind_back state_word = refl
kind_back presets_word = refl
kind_back spec_read = refl
kind_back status_read = refl
kind_back state_read = refl
kind_back presets_read = refl
kind_back info_read = refl
kind_back insertion = refl
kind_back removal = refl
kind_back signal = refl
kind_back terminal = refl
kind_back ac_event = refl
kind_back tick = refl
kind_back no_such_word = refl

pub kinds_apart : KindsApart
kinds_apart = apart kind_number kind_at kind_back
