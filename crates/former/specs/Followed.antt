-- With the number reader of the definitions the open reading (ByReader) is the definitions' own. Both compute to the same, so that nobody has to compare the two texts by eye,
-- and a definition that is changed and not followed there is refused here.
--     open_worked    what a deck comes to, under every ratio or under one
-- Its outcome so too: proofs/Followed.antt, open_is.
use Rattle.std.specs.Prelude.{ℕ, ◌≡◌, refl, List}
use Rattle.meaning.specs.Numbers.{number_of}
use Rattle.meaning.specs.Records.{values_from}
use Rattle.meaning.specs.Run.{time_refusal, time_of, ratio_refusal, with_ratios, item_refusal, with_item, read_line, Which, walk, worked_under}
use Rattle.former.specs.ByReader.{values_by, time_refusal_by, time_of_by, ratio_refusal_by, with_ratios_by, item_refusal_by, with_item_by, read_line_by, walk_by, worked_under_by}

pub open_worked : (which : Which) (deck : List ℕ) → worked_under_by number_of which deck ≡ worked_under which deck
unfolding values_from time_refusal time_of ratio_refusal with_ratios item_refusal with_item read_line walk worked_under values_by time_refusal_by time_of_by ratio_refusal_by with_ratios_by item_refusal_by with_item_by read_line_by walk_by worked_under_by
open_worked which deck = refl
