-- What is shown of one block of a deck under one of its ratios, both named by their numbers, from 1 (0: the last).
use Rattle.std.specs.Prelude.{ℕ, ◌||◌, List, length}
use Rattle.meaning.specs.Words.{◌<?◌, when◌then◌else◌}
use Rattle.meaning.specs.Blocks.{Time, ratio_at, under}
use Rattle.meaning.specs.Results.{Result}
use Rattle.meaning.specs.Run.{Worked, Stopped, Done, worked, place_of, named_ratio, block_count, deck_size}
use Rattle.meaning.specs.Listing.{refused_line}

-- The text of the time control with the named ratio in force and of the results under it. The deck is refused as a run is that names them: by 17, if there is no
-- such block or ratio.
abbrev pub shown_by : (text : Time → List Result → List ℕ) → (named ratio : ℕ) → Worked → List ℕ
shown_by text named ratio (Stopped number line) = refused_line number line
shown_by text named ratio (Done τ rss) =
    when (block_count rss <? named) || (length rss <? ratio) then refused_line 17 0 else
    text (under (ratio_at (place_of ratio (length rss)) τ) τ) (named_ratio ratio rss)

unfoldable pub shown : (text : Time → List Result → List ℕ) → List ℕ → (named ratio : ℕ) → List ℕ
shown text deck named ratio = when deck_size <? length deck then refused_line 2 0 else shown_by text named ratio (worked deck)
