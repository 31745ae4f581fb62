-- No record is there, so the words count none.
use Prim.Native.Nat.{zero-le}
use mathlib.Core.Path.{refl}
use borrow.Author.Rules.{rules}
use Rattle.blocks.specs.Values.{counted_readable}
use Rattle.placing.proofs.first_reading.Goals as goal

pub returns : goal.returns
returns c =
    let kept = c.clear.ensures.1 0 zero-le in
    record {
      is = refl;
      phase = refl;
      none-listed = c.no_ratios.ensures.0;
      ready = record { few_ordinates = zero-le; short-name = c.no_name.ensures.1; few-ratios = c.no_ratios.ensures.1; readable = counted_readable kept; counted = λ e. kept };
    }
