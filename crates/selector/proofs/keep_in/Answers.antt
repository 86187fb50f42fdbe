use Rattle.std.proofs.Common.{sym, ◌∙◌}
use Rattle.selector.proofs.ByMask.{kept_one}
use Rattle.selector.proofs.keep_in.Goals as goal

pub returns-then-is_one_of : goal.returns-then-is_one_of
returns-then-is_one_of c = rw (sym c.is_one_of.ensures ∙ c.if-is_one_of.true) at (kept_one c.args.mask c.args.n)

pub returns-else-is_one_of : goal.returns-else-is_one_of
returns-else-is_one_of c = rw (sym c.is_one_of.ensures ∙ c.if-is_one_of.false) at (kept_one c.args.mask c.args.n)
