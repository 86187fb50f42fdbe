use Rattle.std.proofs.Common.{sym, ap, ◌∙◌}
use Rattle.figures.specs.Figures.{value_of}
use Rattle.figures.proofs.Digits.{long_enough, hexadecimal, plain}
use Rattle.figures.proofs.number_in.Goals as goal

pub slice_bounds-digits_in-count : goal.slice_bounds-digits_in-count
slice_bounds-digits_in-count c = long_enough _ (sym c.if-is_marked.ensures)

pub slice_bounds-digits_in-start : goal.slice_bounds-digits_in-start
slice_bounds-digits_in-start c = long_enough _ (sym c.if-is_marked.ensures)

pub returns-then-is_marked : goal.returns-then-is_marked
returns-then-is_marked c = c.digits_in.ensures ∙ ap value_of (hexadecimal _ (sym c.if-is_marked.ensures))

pub returns-else-is_marked : goal.returns-else-is_marked
returns-else-is_marked c = c.digits_in-else-is_marked.ensures ∙ ap value_of (plain _ (sym c.if-is_marked.ensures))
