-- The hydrograph of a block in print: a head, and a line for each ordinate.
use Rattle.std.specs.Prelude.{ℕ, ◌+◌, ◌*◌, List, [], ◌∷◌, ◌++◌}
use Rattle.meaning.specs.Words.{bytes}
use Rattle.meaning.specs.Lines.{lf}
use Rattle.meaning.specs.Blocks.{Time}
use Rattle.meaning.specs.Results.{Result}
use Rattle.meaning.specs.Run.{named_flow}
use Rattle.meaning.specs.Listing.{whole}
use Rattle.meaning.specs.Shown.{shown}
use Rattle.meaning.specs.Sheet.{Units, Customary, flow_text}

-- The interval's number, from 1; its end, in minutes; the flow in cfs to six places, half up; the flow in units, exact.
unfoldable pub ordinate_line : (minutes interval flow : ℕ) → List ℕ
ordinate_line minutes interval flow =
    whole interval ++ bytes "," ++ whole (minutes * interval) ++ bytes "," ++ flow_text Customary flow ++ bytes "," ++ flow_text Units flow ++ (lf ∷ [])

-- A line for each flow, from that interval on.
abbrev pub ordinate_lines : (minutes interval : ℕ) → (flows : List ℕ) → List ℕ
ordinate_lines minutes interval [] = []
ordinate_lines minutes interval (flow ∷ flows) = ordinate_line minutes interval flow ++ ordinate_lines minutes (interval + 1) flows

abbrev pub hydrograph_text : (minutes : ℕ) → (flows : List ℕ) → List ℕ
hydrograph_text minutes flows = bytes "interval,minutes,cfs,units\n" ++ ordinate_lines minutes 1 flows

-- THE HYDROGRAPH OF A DECK, for the named block under the named ratio.
abbrev pub hydrograph_in : (named : ℕ) → Time → List Result → List ℕ
hydrograph_in named τ rs = hydrograph_text τ.minutes (named_flow named rs)

unfoldable pub hydrograph : List ℕ → (named ratio : ℕ) → List ℕ
hydrograph deck named ratio = shown (hydrograph_in named) deck named ratio
