use Rattle.model.specs.Bays.{bay_at}
use Rattle.selector.proofs.mask_of.Goals as goal

pub returns : goal.returns
unfolding bay_at
returns g c =
    record {
      first = c.test.result;
      second = c.test-2.result;
      third = c.test-3.result;
      fourth = c.test-4.result;
      tested = (c.test.ensures, c.test-2.ensures, c.test-3.ensures, c.test-4.ensures);
      is = c.mask.ensures.0;
    }
