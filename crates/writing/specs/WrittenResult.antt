-- What is written of a closed block, where there is room for it.
--     record_told, told_as                     the bytes of its record; the same by an equal ratio and place
--     record_put, copied_first, copied_named     the records and the ordinates then
use Rattle.std.specs.Prelude.{ℕ, ◌+◌, ◌*◌, ◌≡◌, List, ◌++◌, length, drop}
use Rattle.sequences.specs.Parts.{put}
use Rattle.meaning.specs.Words.{◌=?◌, ◌≤?◌, when◌then◌else◌}
use Rattle.meaning.specs.Results.{record_size}
use Rattle.results.specs.Record.{record_bytes}
use Rattle.telling.specs.declared.Closed.{Closed}

-- the bytes of a closed block's record, under the ratio at a place of JR from 1
abbrev pub record_told : (name : List ℕ) → (ratio place : ℕ) → Closed → List ℕ
record_told name ratio place c = record_bytes name c.kind c.area c.summary.peak c.summary.interval c.summary.sum ratio place

pub told_as : (name : List ℕ) (c : Closed) {ratio ratio' place place' : ℕ} → ratio ≡ ratio' → place ≡ place' → record_told name ratio place c ≡ record_told name ratio' place' c
told_as name c r p = rw (r, p)

-- the record of block k, counted from 0, where they fit
abbrev pub record_put : (k : ℕ) → (bytes records : List ℕ) → List ℕ
record_put k bytes records = when (record_size * k + record_size) ≤? length records then put (record_size * k) record_size records bytes else records

-- a flow of nq ordinates in front, where it fits
abbrev pub copied_first : (nq : ℕ) → (flow ordinates : List ℕ) → List ℕ
copied_first nq flow ordinates = when nq ≤? length ordinates then flow ++ drop nq ordinates else ordinates

-- the same only of the block that is named, by its number from 1
abbrev pub copied_named : (named k nq : ℕ) → (flow ordinates : List ℕ) → List ℕ
copied_named named k nq flow ordinates = when named =? (k + 1) then copied_first nq flow ordinates else ordinates
