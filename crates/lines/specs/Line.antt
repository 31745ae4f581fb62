-- The line at a place of a deck, found by its run of plain bytes.
use Rattle.std.specs.Prelude.{ℕ, ◌+◌, ◌-◌, Bool, ◌&&◌, List, length, drop, get_or, Result, Ok, Err}
use Rattle.meaning.specs.Words.{◌=?◌, ◌≤?◌, ◌<?◌, when◌then◌else◌}
use Rattle.meaning.specs.Lines.{lf, cr}
use Rattle.sequences.specs.Runs.{run}
use Rattle.refusals.specs.declared.Refusal.{Refusal}
use Rattle.refusals.specs.declared.Refusal.TheVariants.{ForeignLine}
use Rattle.lines.specs.declared.Line.{Line}
use Rattle.lines.specs.declared.Foreign.{Foreign}

abbrev pub is_plain : ℕ → Bool
is_plain b = (0x20 ≤? b) && (b ≤? 0x7E)

abbrev pub fair_line : ℕ → ℕ → Result Line Foreign
fair_line end next = Ok (record { end = end; next = next })

abbrev pub unfair_line : ℕ → Result Line Foreign
unfair_line end = Err (record { end = end })

-- A line whose plain bytes stop at `end`: the deck stops there too, or LF, or CR and LF; any other byte is foreign.
unfoldable pub line_ending : List ℕ → ℕ → Result Line Foreign
line_ending s end =
    when length s ≤? end then fair_line end end else
    when get_or s end 0 =? lf then fair_line end (end + 1) else
    when (get_or s end 0 =? cr) && (get_or s (end + 1) 0 =? lf) then fair_line end (end + 2) else
    unfair_line end

unfoldable pub line_from : List ℕ → ℕ → ℕ → Result Line Foreign
line_from s at end = when 80 <? (end - at) then unfair_line end else line_ending s end

abbrev pub line_at : List ℕ → ℕ → Result Line Foreign
line_at s at = line_from s at (at + run is_plain (drop at s))

-- the line, or the refusal that `From` makes of a foreign one
abbrev pub or_refusal : Result Line Foreign → Result Line Refusal
or_refusal (Ok line) = Ok line
or_refusal (Err foreign) = Err ForeignLine
