-- Document 02, CR 6, in figures: every refusal of RS, SV and SQ, of a pond's table, and which comes first. Tables, by computation.
use Rattle.std.specs.Prelude.{ℕ, refl, List, [], ◌∷◌, ◌++◌}
use Rattle.meaning.specs.Words.{bytes}
use Rattle.meaning.specs.Fields.{Fixed}
use Rattle.meaning.specs.Records.{RS, SV, SQ}
use Rattle.meaning.specs.Blocks.{Time, Block, Given, opened, with_card}
use Rattle.meaning.specs.Run.{InBlock, Open, shape_refusal, Standing, Every, Step, Stop, Next, act, worked}
use Rattle.meaning.specs.Computing.{computing}
use Rattle.meaning.specs.Pond.{Row, row, Agree, refusal_in}

-- A deck whose first block has these lines, from line 4 on.
abbrev alone : List ℕ → List ℕ
alone lines = bytes "*FREE\nIT 60,,,2\nKK P\n" ++ lines

-- A pond behind an inflow of 1 cfs in the first interval: with these lines, from line 6 on, and ZZ behind them; and with RS before them, by an IT of so many minutes.
abbrev behind : List ℕ → List ℕ
behind lines = bytes "*FREE\nIT 60,,,2\nKK A\nQI 1\nKK P\n" ++ lines ++ bytes "ZZ\n"

abbrev by : (minutes lines : List ℕ) → List ℕ
by minutes lines = bytes "*FREE\nIT " ++ minutes ++ bytes ",,,2\nKK A\nQI 1\nKK P\nRS 1,STOR\n" ++ lines ++ bytes "ZZ\n"

-- What RS may say.
abbrev stor_table : List Row
stor_table =
    -- 5: a second RS, before its fields are looked at
    row (refusal_in (worked (alone (bytes "RS 1,STOR\nRS X\n")))) (5 ∷ 5 ∷ []) ∷
    -- 6: no number, a place behind the point, a fourth field; before 7 over the whole line
    row (refusal_in (worked (alone (bytes "RS X,STOR\n")))) (6 ∷ 4 ∷ []) ∷
    row (refusal_in (worked (alone (bytes "RS 1,STOR,0.5\n")))) (6 ∷ 4 ∷ []) ∷
    row (refusal_in (worked (alone (bytes "RS 1,STOR,0,0\n")))) (6 ∷ 4 ∷ []) ∷
    row (refusal_in (worked (alone (bytes "RS 2,FLOW,X\n")))) (6 ∷ 4 ∷ []) ∷
    -- 7: another number of steps, and a blank one; another word, also by its letters or one letter more, and a blank one; another start
    row (refusal_in (worked (alone (bytes "RS 2,STOR\n")))) (7 ∷ 4 ∷ []) ∷
    row (refusal_in (worked (alone (bytes "RS ,STOR\n")))) (7 ∷ 4 ∷ []) ∷
    row (refusal_in (worked (alone (bytes "RS 1,FLOW\n")))) (7 ∷ 4 ∷ []) ∷
    row (refusal_in (worked (alone (bytes "RS 1,stor\n")))) (7 ∷ 4 ∷ []) ∷
    row (refusal_in (worked (alone (bytes "RS 1,STORE\n")))) (7 ∷ 4 ∷ []) ∷
    row (refusal_in (worked (alone (bytes "RS 1\n")))) (7 ∷ 4 ∷ []) ∷
    row (refusal_in (worked (alone (bytes "RS 1,STOR,1\n")))) (7 ∷ 4 ∷ []) ∷
    row (refusal_in (worked (alone (bytes "RS 1,STOR,-1\n")))) (7 ∷ 4 ∷ []) ∷
    -- a blank start is 0; in columns; in any order
    row (refusal_in (worked (behind (bytes "RS 1,STOR\nSV 0,1\nSQ 0,10\n")))) [] ∷
    row (refusal_in (worked (behind (bytes "*FIX\nSQ     0      10\nRS     1    STOR       0\nSV     0       1\n")))) [] ∷
    []

pub stor : Agree stor_table
unfolding computing
stor =
    (refl, (refl, (refl, (refl, (refl, (refl, (refl, (refl, (refl, (refl, (refl, (refl, (refl, (refl, (refl, tt)))))))))))))))

-- What SV and SQ may list.
abbrev values_table : List Row
values_table =
    -- 6: three places, no number, eleven values on a line
    row (refusal_in (worked (alone (bytes "SV 0,1.125\n")))) (6 ∷ 4 ∷ []) ∷
    row (refusal_in (worked (alone (bytes "SQ 0,X\n")))) (6 ∷ 4 ∷ []) ∷
    row (refusal_in (worked (alone (bytes "SV 0,1,2,3,4,5,6,7,8,9,10\n")))) (6 ∷ 4 ∷ []) ∷
    -- 7: over the limits, and below 0
    row (refusal_in (worked (alone (bytes "SV 0,100000\n")))) (7 ∷ 4 ∷ []) ∷
    row (refusal_in (worked (alone (bytes "SQ 0,100000.01\n")))) (7 ∷ 4 ∷ []) ∷
    row (refusal_in (worked (alone (bytes "SV -0.01\n")))) (7 ∷ 4 ∷ []) ∷
    row (refusal_in (worked (alone (bytes "SQ -0.01\n")))) (7 ∷ 4 ∷ []) ∷
    -- 8: a 21st value, alone on its line or the last of several; twenty are not too many
    row (refusal_in (worked (alone (bytes "SV 0,1,2,3,4,5,6,7,8,9\nSQ 0\nSV 0,1,2,3,4,5,6,7,8,9\nSV 0\n")))) (8 ∷ 7 ∷ []) ∷
    row (refusal_in (worked (alone (bytes "SQ 0,1,2,3,4,5,6\nSQ 0,1,2,3,4,5,6\nSQ 0,1,2,3,4,5,6\n")))) (8 ∷ 6 ∷ []) ∷
    row (refusal_in (worked (by (bytes "60") (bytes "SV 0,1,2,3,4,5,6,7,8,9\nSV 10,11,12,13,14,15,16,17,18,19\nSQ 0,1,2,3,4,5,6,7,8,9\nSQ 10,11,12,13,14,15,16,17,18,19\n")))) [] ∷
    -- a blank before a value is 0, and a line goes on behind the last value
    row (refusal_in (worked (by (bytes "60") (bytes "SV ,1\nSV 2\nSQ\nSQ ,10,20\n")))) [] ∷
    []

pub values : Agree values_table
unfolding computing
values =
    (refl, (refl, (refl, (refl, (refl, (refl, (refl, (refl, (refl, (refl, (refl, tt)))))))))))

-- 19, at ZZ: a table that breaks a rule, beside tables that just do not.
abbrev rules_table : List Row
rules_table =
    -- none, one pair, a count more of either
    row (refusal_in (worked (by (bytes "60") (bytes "SV\nSQ\n")))) (19 ∷ 9 ∷ []) ∷
    row (refusal_in (worked (by (bytes "60") (bytes "SV 0\nSQ 0\n")))) (19 ∷ 9 ∷ []) ∷
    row (refusal_in (worked (by (bytes "60") (bytes "SV 0,1,2\nSQ 0,10\n")))) (19 ∷ 9 ∷ []) ∷
    row (refusal_in (worked (by (bytes "60") (bytes "SV 0,1\nSQ 0,10,10\n")))) (19 ∷ 9 ∷ []) ∷
    -- the first row is not 0, 0
    row (refusal_in (worked (by (bytes "60") (bytes "SV 0.01,1\nSQ 0,10\n")))) (19 ∷ 9 ∷ []) ∷
    row (refusal_in (worked (by (bytes "60") (bytes "SV 0,1\nSQ 0.01,10\n")))) (19 ∷ 9 ∷ []) ∷
    -- SV stays or falls, in the last row too; SQ falls; SQ stays, which it may
    row (refusal_in (worked (by (bytes "60") (bytes "SV 0,1,1\nSQ 0,10,20\n")))) (19 ∷ 9 ∷ []) ∷
    row (refusal_in (worked (by (bytes "60") (bytes "SV 0,0,1\nSQ 0,0,10\n")))) (19 ∷ 9 ∷ []) ∷
    row (refusal_in (worked (by (bytes "60") (bytes "SV 0,1,0.99\nSQ 0,10,10\n")))) (19 ∷ 9 ∷ []) ∷
    row (refusal_in (worked (by (bytes "60") (bytes "SV 0,1,2\nSQ 0,10,9.99\n")))) (19 ∷ 9 ∷ []) ∷
    row (refusal_in (worked (by (bytes "60") (bytes "SV 0,1,2\nSQ 0,10,10\n")))) [] ∷
    -- 1,452·V beside M-as-Q, in hundredths: 145,200 and 145,200; 60 less, which is 0.01 cfs in an hour; by the minute 1,452 and 1,452; 1 less
    row (refusal_in (worked (by (bytes "60") (bytes "SV 0,1\nSQ 0,24.20\n")))) [] ∷
    row (refusal_in (worked (by (bytes "60") (bytes "SV 0,1\nSQ 0,24.21\n")))) (19 ∷ 9 ∷ []) ∷
    row (refusal_in (worked (by (bytes "1") (bytes "SV 0,0.01\nSQ 0,14.52\n")))) [] ∷
    row (refusal_in (worked (by (bytes "1") (bytes "SV 0,0.01\nSQ 0,14.53\n")))) (19 ∷ 9 ∷ []) ∷
    []

pub rules : Agree rules_table
unfolding computing
rules =
    (refl, (refl, (refl, (refl, (refl, (refl, (refl, (refl, (refl, (refl, (refl, (refl, (refl, (refl, (refl, tt)))))))))))))))

-- Two held when ZZ closes the pond on line 11.
abbrev two_held : List ℕ → List ℕ
two_held lines = bytes "*FREE\nIT 60,,,2\nKK A\nQI 1\nKK B\nQI 1\nKK P\nRS 1,STOR\n" ++ lines ++ bytes "ZZ\n"

-- A 201st KK on line 900, where a pond of this table is open and 1 cfs flows into it.
abbrev hour : Time
hour = record { minutes = 60; ordinates = 2; ratio = 100; listed = [] }

abbrev pond_of : (svs sqs : List ℕ) → Block
pond_of svs sqs = with_card RS (Given (1 ∷ 0x53_54_4F_52 ∷ 0 ∷ [])) (with_card SV (Given svs) (with_card SQ (Given sqs) (opened (bytes "P"))))

abbrev one_held : Standing
one_held =
    record {
      blocks = 200;
      waiting = 1;
      runs = record { time = hour; held = record { area = 0; flow = 60_000_000 ∷ 0 ∷ [] } ∷ []; results = [] } ∷ [];
    }

abbrev stop_in : Step → List ℕ
stop_in (Stop w) = refusal_in w
stop_in (Next r s) = []

abbrev many : (svs sqs : List ℕ) → List ℕ
many svs sqs = stop_in (act Every (Open (InBlock hour Fixed (opened (bytes "Q")))) (InBlock hour Fixed (pond_of svs sqs)) one_held 900)

-- Which comes first where a pond closes.
abbrev order_table : List Row
order_table =
    -- 9, before 10: RS without SV, without SQ, without both; these without RS; a pond with an area, or with a reach's record
    row (refusal_in (worked (alone (bytes "RS 1,STOR\nSQ 0,10\nZZ\n")))) (9 ∷ 6 ∷ []) ∷
    row (refusal_in (worked (alone (bytes "RS 1,STOR\nSV 0,1\nZZ\n")))) (9 ∷ 6 ∷ []) ∷
    row (refusal_in (worked (alone (bytes "RS 1,STOR\nZZ\n")))) (9 ∷ 5 ∷ []) ∷
    row (refusal_in (worked (alone (bytes "SV 0,1\nSQ 0,10\nZZ\n")))) (9 ∷ 6 ∷ []) ∷
    row (refusal_in (worked (alone (bytes "SV 0,1\nZZ\n")))) (9 ∷ 5 ∷ []) ∷
    row (refusal_in (worked (alone (bytes "SQ 0,10\nZZ\n")))) (9 ∷ 5 ∷ []) ∷
    row (refusal_in (worked (behind (bytes "BA 1\nRS 1,STOR\nSV 0,1\nSQ 0,10\n")))) (9 ∷ 10 ∷ []) ∷
    row (refusal_in (worked (behind (bytes "RM 1,1,0.20\nRS 1,STOR\nSV 0,1\nSQ 0,10\n")))) (9 ∷ 10 ∷ []) ∷
    -- 10: nothing held; before 19
    row (refusal_in (worked (alone (bytes "RS 1,STOR\nSV 0,1\nSQ 0,10\nZZ\n")))) (10 ∷ 7 ∷ []) ∷
    row (refusal_in (worked (alone (bytes "RS 1,STOR\nSV 1\nSQ\nZZ\n")))) (10 ∷ 7 ∷ []) ∷
    -- a pond takes one of twenty, so that 11 is not met
    row (shape_refusal hour (pond_of (0 ∷ 1 ∷ []) (0 ∷ 0 ∷ [])) 20 ∷ []) (0 ∷ []) ∷
    -- 19 before 20, at W 3,600,000,000 and a last row of 871,200,000
    row (refusal_in (worked (by (bytes "60") (bytes "SV 0,0.01,0.01\nSQ 0,0,0\n")))) (19 ∷ 9 ∷ []) ∷
    row (refusal_in (worked (by (bytes "60") (bytes "SV 0,0.01\nSQ 0,0\n")))) (20 ∷ 9 ∷ []) ∷
    -- both before 15
    row (refusal_in (worked (two_held (bytes "SV 0,0.01\nSQ 0\n")))) (19 ∷ 11 ∷ []) ∷
    row (refusal_in (worked (two_held (bytes "SV 0,0.01\nSQ 0,0\n")))) (20 ∷ 11 ∷ []) ∷
    row (refusal_in (worked (two_held (bytes "SV 0,1\nSQ 0,10\n")))) (15 ∷ 11 ∷ []) ∷
    -- and before 14
    row (many (0 ∷ 1 ∷ []) (0 ∷ [])) (19 ∷ 900 ∷ []) ∷
    row (many (0 ∷ 1 ∷ []) (0 ∷ 0 ∷ [])) (20 ∷ 900 ∷ []) ∷
    row (many (0 ∷ 100 ∷ []) (0 ∷ 1_000 ∷ [])) (14 ∷ 900 ∷ []) ∷
    []

pub order : Agree order_table
unfolding computing
order =
    (refl, (refl, (refl, (refl, (refl, (refl, (refl, (refl, (refl, (refl, (refl, (refl, (refl, (refl, (refl, (refl, (refl, (refl, (refl, tt)))))))))))))))))))
