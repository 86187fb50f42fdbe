use Rattle.std.proofs.Common.{◌≡◌, length}
use Rattle.window.specs.Windows.{at_hand}
use Rattle.making.proofs.Onward.{Onward}
use Rattle.making.proofs.run.Given as goal

abbrev pub invariant-loop : goal.invariant-loop
invariant-loop g l = record {
  long : length l.window ≡ length l.initial.window;
  onward : Onward g.M.Maker.text g.M.Maker.ends g.M.Maker.used l.initial.state (g.R.Read.remaining l.initial.input) (g.W.Write.contents l.initial.output)
      l.state (g.R.Read.remaining l.input) (g.W.Write.contents l.output) (at_hand l.window l.at) l.at.last l.counter;
}
