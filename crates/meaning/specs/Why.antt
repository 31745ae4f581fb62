-- Reasons in figures: what is told of lines that are refused by 6 and by 7, of every sort, in both forms. A table, by computation.
use Rattle.std.specs.Prelude.{refl, true, false, List, [], ◌∷◌}
use Rattle.meaning.specs.Words.{bytes}
use Rattle.meaning.specs.Fields.{Fixed, Free}
use Rattle.meaning.specs.Reasons.{reason}
use Rattle.meaning.specs.Computing.{computing}
use Rattle.meaning.specs.Pond.{Row, row, Agree}

abbrev table : List Row
table =
    -- 7: a value above its limits, below them, a blank one that must be there; the first of two; behind a line's end nothing is read
    row (reason false Free (bytes "IT 60,,,400\nXX\n")) (bytes "FIELD 4 LIMITS 0 1 300 400\n") ∷
    row (reason false Free (bytes "IT 60")) (bytes "FIELD 4 LIMITS 0 1 300 \n") ∷
    row (reason false Free (bytes "LU -1,20.0001")) (bytes "FIELD 1 LIMITS 4 0 200000 -1\n") ∷
    row (reason false Free (bytes "PI 1,2,25.0")) (bytes "FIELD 3 LIMITS 4 0 200000 25.0\n") ∷
    -- 6: places that are left, no number, a field that must be blank, an eleventh
    row (reason true Free (bytes "BA 1.50,1.5678")) (bytes "FIELD 2 BLANK 1.5678\n") ∷
    row (reason true Free (bytes "BA 1.56780")) (bytes "FIELD 1 PLACES 2 1 999999 4 1.56780\n") ∷
    row (reason true Free (bytes "QI 1,2x")) (bytes "FIELD 2 NUMBER 2 0 10000000 2x\n") ∷
    row (reason true Free (bytes "UI 1,2,3,4,5,6,7,8,9,10,11")) (bytes "FIELD 11 BLANK 11\n") ∷
    -- a 6 behind a 7 is told where 6 is asked for
    row (reason true Free (bytes "LU 99,x")) (bytes "FIELD 2 NUMBER 4 0 200000 x\n") ∷
    row (reason false Free (bytes "LU 99,x")) (bytes "FIELD 1 LIMITS 4 0 200000 99\n") ∷
    -- words: PREC is 0x50524543 and STOR is 0x53544F52; a ratio of 0, a blank one between others, and none
    row (reason true Free (bytes "JR FLOW,1")) (bytes "FIELD 1 WORD 4 1347568963 1347568963 FLOW\n") ∷
    row (reason false Free (bytes "RS 1")) (bytes "FIELD 2 WORD 4 1398034258 1398034258 \n") ∷
    row (reason false Free (bytes "JR PREC,1,,2")) (bytes "FIELD 3 LIMITS 2 1 999 \n") ∷
    row (reason false Free (bytes "JR PREC")) (bytes "FIELD 2 LIMITS 2 1 999 \n") ∷
    row (reason false Free (bytes "JR PREC,9.99,10,,")) (bytes "FIELD 3 LIMITS 2 1 999 10\n") ∷
    -- in columns: a second value, and a blank inside one
    row (reason true Fixed (bytes "HC     3  5")) (bytes "FIELD 2 BLANK 5\n") ∷
    row (reason true Fixed (bytes "BA  1 5")) (bytes "FIELD 1 NUMBER 2 1 999999 1 5\n") ∷
    row (reason false Fixed (bytes "RM     0")) (bytes "FIELD 1 LIMITS 0 1 50 0\n") ∷
    -- the name of a block
    row (reason true Free (bytes "KK RESERVOIR TWO")) (bytes "NAME RESERVOIR\n") ∷
    row (reason true Fixed (bytes "KKA B")) (bytes "NAME A B\n") ∷
    -- nothing where no field is refused, of a line without fields, of one that meets 3 or 4, and of no line
    row (reason true Free (bytes "BA 1.5")) [] ∷
    row (reason false Free (bytes "JR PREC,1,2,,\n")) [] ∷
    row (reason true Free (bytes "ID 1.5.5")) [] ∷
    row (reason true Free (bytes "BA\t1")) [] ∷
    row (reason true Free (bytes "PX 1")) [] ∷
    row (reason true Free []) [] ∷ []

pub reasons : Agree table
unfolding computing
reasons =
    (refl, (refl, (refl, (refl, (refl, (refl, (refl, (refl, (refl, (refl, (refl, (refl, (refl, (refl, (refl, (refl, (refl, (refl, (refl, (refl, (refl, (refl, (refl, (refl, (refl, (refl, tt))))))))))))))))))))))))))
