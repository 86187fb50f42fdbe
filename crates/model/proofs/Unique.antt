-- No two outcomes fit what the code promises of a refusal's number.
use Prim.Native.Nat.{ℕ}
use mathlib.Core.Path.{◌≡◌, sym, ◌∙◌}
use Rattle.model.specs.declared.Refusal.{Refusal}
use Rattle.model.specs.Numbers.{number_of}

-- `u8::from` gives `number_of`, so the number is the only one
pub number_one : (refusal : Refusal) (n k : ℕ) → n ≡ number_of refusal → k ≡ number_of refusal → n ≡ k
number_one refusal n k p q = p ∙ sym q
