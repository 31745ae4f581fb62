-- No record is there, whatever stood in the words before.
use mathlib.Core.Path.{refl}
use borrow.Author.Rules.{rules}
use Rattle.blocks.specs.Values.{counted_readable}
use Rattle.blocks.specs.Meant.{name_is}
use Rattle.placing.proofs.open_block.Goals as goal

pub clear-requires : goal.clear-requires
clear-requires c = c.requires.1.readable.long

pub returns : goal.returns
returns c =
    let s = c in
    let ready = s.requires.1 in
    let kept = c.clear.ensures.1 s.args.r.time.ordinates ready.few_ordinates in
    record {
      is = rw (c.clear.ensures.0 (name_is s.args.name));
      phase = refl;
      time = refl;
      ready = record { few_ordinates = ready.few_ordinates; short-name = s.requires.0; few-ratios = ready.few-ratios; readable = counted_readable kept; counted = λ e. kept };
    }
