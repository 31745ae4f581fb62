-- How many bytes things take: the records and the listing of any deck.
use Rattle.std.specs.Prelude.{ℕ, ◌+◌}
use Rattle.meaning.specs.Run.{most_blocks, record_bytes}
use Rattle.printing.specs.Sizes.{lines_size, end_size}

-- A deck lists at most so many ratios.
abbrev pub most_ratios : ℕ
most_ratios = 9

abbrev pub records_size : ℕ
records_size = record_bytes most_blocks most_ratios

abbrev pub listing_size : ℕ
listing_size = lines_size most_blocks most_ratios + end_size
