-- The paper's number of each refusal, and the paper's value of each answer.
use Rattle.std.specs.Prelude.{ℕ}
use Rattle.model.specs.declared.Refusal.{Refusal}
use Rattle.model.specs.declared.Refusal.TheVariants.{BadSetup, UnsupportedBay, NoSuchWord, NotChargingBay, BadNibble, SmbElsewhere, NotUsable, SameBay, WrongPresence, RecordCutOff, BadLength, UnknownKind, BadAcByte, NoRoom, BadMachine}
use Rattle.model.specs.declared.Answer.{Answer}
use Rattle.model.specs.declared.Answer.TheVariants.{Done, Word, Refused}

-- the number of a refusal
abbrev pub number_of : Refusal → ℕ
number_of BadSetup = 1
number_of UnsupportedBay = 2
number_of NoSuchWord = 3
number_of NotChargingBay = 4
number_of BadNibble = 5
number_of SmbElsewhere = 6
number_of NotUsable = 7
number_of SameBay = 8
number_of WrongPresence = 9
number_of RecordCutOff = 10
number_of BadLength = 11
number_of UnknownKind = 12
number_of BadAcByte = 13
number_of NoRoom = 14
number_of BadMachine = 15

-- done, a word that was read, or a refusal with its number
pub data Said : Type 0 where
  done : Said
  word : ℕ → Said
  refused : ℕ → Said

-- the paper's value of an answer
abbrev pub said : Answer → Said
said Done = done
said (Word w) = word w
said (Refused r) = refused (number_of r)
