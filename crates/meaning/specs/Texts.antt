-- Hydrographs in print, in figures: whole texts from the bytes of decks, half a millionth of a cfs, two ratios, and every answer in a hydrograph's place. A table,
-- by computation.
use Rattle.std.specs.Prelude.{refl, List, [], ◌∷◌, ℕ}
use Rattle.meaning.specs.Words.{bytes}
use Rattle.meaning.specs.Hydrograph.{hydrograph}
use Rattle.meaning.specs.Computing.{computing}
use Rattle.meaning.specs.Pond.{pond, Row, row, Agree}

-- An excess of one depth unit: 30 flow units, then 29.
abbrev tiny : List ℕ
tiny = bytes "*FREE\nIT 59,,,3\nKK TINY\nBA 1\nPI 0.0001\nLU 0,0.0001\nUI 0.30,0.29\nZZ\n"

-- An inch of rain at a half and twice.
abbrev storms : List ℕ
storms = bytes "*FREE\nIT 30,,,2\nJR PREC,0.50,2.00\nKK A\nBA 1\nPI 1\nLU\nUI 1\nKK B\nQI 3\nKK C\nHC 2\nZZ\n"

abbrev table : List Row
table =
    -- the paper's deck: a basin, a reach, a gauge and where they meet, which is the last
    row (hydrograph pond 1 1) (bytes "interval,minutes,cfs,units\n1,60,0.000000,0\n2,120,2.000000,120000000\n3,180,0.800000,48000000\n4,240,0.000000,0\n") ∷
    row (hydrograph pond 2 1) (bytes "interval,minutes,cfs,units\n1,60,0.000000,0\n2,120,0.461538,27692307\n3,180,1.368047,82082840\n4,240,0.746472,44788348\n") ∷
    row (hydrograph pond 3 0)
    (bytes "interval,minutes,cfs,units\n1,60,1.000000,60000000\n2,120,2.000000,120000000\n3,180,2.000000,120000000\n4,240,1.000000,60000000\n") ∷
    row (hydrograph pond 0 0)
    (bytes "interval,minutes,cfs,units\n1,60,1.000000,60000000\n2,120,2.461538,147692307\n3,180,3.368047,202082840\n4,240,1.746472,104788348\n") ∷
    -- half a millionth of a cfs is rounded up, a flow unit less is not
    row (hydrograph tiny 1 1) (bytes "interval,minutes,cfs,units\n1,59,0.000001,30\n2,118,0.000000,29\n3,177,0.000000,0\n") ∷
    -- the first ratio, the second, and the last
    row (hydrograph storms 1 1) (bytes "interval,minutes,cfs,units\n1,30,0.500000,30000000\n2,60,0.000000,0\n") ∷
    row (hydrograph storms 1 2) (bytes "interval,minutes,cfs,units\n1,30,2.000000,120000000\n2,60,0.000000,0\n") ∷
    row (hydrograph storms 3 0) (bytes "interval,minutes,cfs,units\n1,30,5.000000,300000000\n2,60,0.000000,0\n") ∷
    -- no such block, no such ratio; a refused deck, whatever is named
    row (hydrograph pond 5 1) (bytes "REFUSED 17 0\n") ∷
    row (hydrograph pond 1 2) (bytes "REFUSED 17 0\n") ∷
    row (hydrograph storms 0 3) (bytes "REFUSED 17 0\n") ∷
    row (hydrograph (bytes "XX\n") 0 0) (bytes "REFUSED 4 1\n") ∷
    row (hydrograph [] 9 9) (bytes "REFUSED 16 0\n") ∷ []

pub hydrographs : Agree table
unfolding computing
hydrographs =
    (refl, (refl, (refl, (refl, (refl, (refl, (refl, (refl, (refl, (refl, (refl, (refl, (refl, tt)))))))))))))
