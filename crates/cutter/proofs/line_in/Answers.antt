use Rattle.std.proofs.Common.{rules, tests, refl, eqb}
use Rattle.std.proofs.lemmas.Iterator.{YieldsList-from_slice}
use Rattle.std.proofs.lemmas.Iterator.Search.{position_from_yields_List}
use Rattle.cutter.specs.Cuts.{unbroken}
use Rattle.cutter.proofs.Passing.{found, first_line_found}
use Rattle.cutter.proofs.line_in.Goals as goal

pub returns : goal.returns
returns c =
    let p = position_from_yields_List (λ b. eqb b 10) _ _ c.position.result c.position.ensures.ran (YieldsList-from_slice _ c.iter.ensures.rest) (λ x b q k. search (rules, tests)) in
    rw c.min.ensures (first_line_found c.args.text.now _ (found unbroken (λ b. eqb b 10) (λ b. refl) c.args.text.now _ _ _ p refl c.unwrap_or-size.ensures))
