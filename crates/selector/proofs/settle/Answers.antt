use mathlib.Core.Path.{sym, ◌∙◌}
use Rattle.model.specs.Settling.{settled_power, settled_smb, unpowered, power_changed}
use Rattle.model.specs.Settling as settling
use Rattle.selector.proofs.ByMask.{kept_smb_lem, kept_power_lem, taken_over}
use Rattle.selector.proofs.Settled.{stays_as_it_is}
use Rattle.selector.proofs.settle.Goals as goal

pub returns-then-is_settled : goal.returns-then-is_settled
returns-then-is_settled c =
    stays_as_it_is _ (rw (← c.candidate_nibble-candidates.ensures, ← c.present_nibble-present.ensures) (sym c.is_settled.ensures ∙ c.if-is_settled.true))

pub returns : goal.returns
unfolding settling.settle settled_power settled_smb unpowered power_changed
returns c =
    simp (c.choose-smb.ensures, c.keep_in.ensures, c.choose-power.ensures, c.take_from.ensures, c.keep_in-kept.ensures, c.present_nibble-present.ensures, c.candidate_nibble-candidates.ensures, kept_smb_lem, kept_power_lem, taken_over)
