-- Every number by which the definitions refuse is that of one of the twenty refusals.
--     stopped_named     where the work on a deck stops, under one ratio or under every one
--     outcome_named     where a run answers a refusal
use Rattle.std.specs.Prelude.{ℕ, zero, suc, ◌+◌, ◌-◌, ◌≡◌, refl, Bool, true, false, not, List, [], ◌∷◌, length}
use Rattle.std.proofs.Common.{arith}
use Rattle.meaning.specs.Words.{◌=?◌, ◌≤?◌, ◌<?◌, when◌then◌else◌, empty, met, first}
use Rattle.meaning.specs.Lines.{lines_of, foreign, all_blank}
use Rattle.meaning.specs.Fields.{Fixed}
use Rattle.meaning.specs.Records.{Item, Record, ID, IT, JR, KK, KM, ZZ, Control, Of, Identified, Unknown, Known, identify, time_rules, ratio_rules, rules_of, filled_up, value_fields, any_faulty, any_outside, bad_name}
use Rattle.meaning.specs.Water.{unroutable, coef_a, coef_b, coef_c, flow_limit}
use Rattle.meaning.specs.Pool.{table_breaks}
use Rattle.meaning.specs.Blocks.{Time, Block, Kind, NoKind, Basin, Inflow, Confluence, Reach, Pond, kind_number, kind_of, repeated, too_many, Held, takes, patternless, made, reach_steps, reach_k, reach_x, pond_volumes, pond_outflows, broken_by, broken, overtops}
use Rattle.meaning.specs.Results.{peak_of}
use Rattle.meaning.specs.Run.{Head, Faulty, Skipped, Holds, holding, head_of, Reading, BeforeTime, BeforeBlocks, InBlock, Event, Refuse, Go, Open, End, unless, time_refusal, ratio_fields, ratio_refusal, name_refusal, item_values, item_refusal, read_record, read_by, read_line, taken_by, shape_refusal, flow_refusal, Run, flow_refusals, Standing, nothing_yet, closing_refusal, open_refusal, closed, Which, Every, Worked, Stopped, Done, Step, Stop, Next, step_unless, most_blocks, many_refusal, end_refusal, act, and_then, walk, worked_under, worked, Answer, Accepted, Refused, Lent, refused, accepted, block_count, no_room, settled, work_size, deck_size, outcome}
use Rattle.refusals.specs.declared.Refusal.{Refusal}
use Rattle.refusals.specs.declared.Refusal.TheVariants as refusal
use Rattle.refusals.specs.Numbers.{refusal_number, Named}

-- a number is that of a refusal, unless it is 0: nothing is refused then
abbrev NamedIfAny : ℕ → Type 0
NamedIfAny n = (n ≡ 0 → ⊥) → Named n

none_named : NamedIfAny 0
none_named some = absurd (some refl)

-- a test's own refusal; of two the first; and a test before others
met_named : (t : Bool) (x : Refusal) → NamedIfAny (met t (refusal_number x))
met_named true x some = (x, refl)
met_named false x some = absurd (some refl)

first_named : (m n : ℕ) → NamedIfAny m → NamedIfAny n → NamedIfAny (first m n)
first_named zero n p q = q
first_named (suc m) n p q = p

test_named : (t : Bool) (x : Refusal) {n : ℕ} → NamedIfAny n → NamedIfAny (first (met t (refusal_number x)) n)
test_named t x {n} p = first_named (met t (refusal_number x)) n (met_named t x) p

-- A LINE
abbrev HeadNamed : Head → Type 0
HeadNamed (Faulty number) = Named number
HeadNamed Skipped = Unit
HeadNamed (Holds record') = Unit

abbrev EventNamed : Event → Type 0
EventNamed (Refuse number) = Named number
EventNamed (Go next) = Unit
EventNamed (Open next) = Unit
EventNamed (End τ) = Unit

five : Named 5
five = (refusal.Misplaced, refl)

holding_named : (i : Identified) → HeadNamed (holding i)
holding_named Unknown = (refusal.UnknownLine, refl)
holding_named (Known r) = tt

head_named : (l : List ℕ) → HeadNamed (head_of l)
unfolding head_of when◌then◌else◌
head_named l = by (foreign l) (all_blank l)
  where
    by : (a b : Bool) → HeadNamed (when a then Faulty 3 else when b then Skipped else holding (identify l))
    by true b = (refusal.ForeignLine, refl)
    by false true = tt
    by false false = holding_named (identify l)

unless_named : (n : ℕ) (e : Event) → NamedIfAny n → EventNamed e → EventNamed (unless n e)
unless_named zero e p q = q
unless_named (suc n) e p q = p (λ z. omega (arith, z))

time_named : (fs : List (List ℕ)) → NamedIfAny (time_refusal fs)
unfolding time_refusal
time_named fs =
    test_named (any_faulty time_rules 0 (filled_up time_rules fs)) refusal.Malformed (met_named (any_outside time_rules 0 (filled_up time_rules fs)) refusal.OutsideLimits)

ratio_named : (τ : Time) (fs : List (List ℕ)) → NamedIfAny (ratio_refusal τ fs)
unfolding ratio_refusal
ratio_named τ fs =
    test_named (not (empty τ.listed)) refusal.Misplaced
    (test_named (any_faulty ratio_rules 0 (ratio_fields fs)) refusal.Malformed (met_named (any_outside ratio_rules 0 (ratio_fields fs)) refusal.OutsideLimits))

name_named : (name : List ℕ) → NamedIfAny (name_refusal name)
unfolding name_refusal
name_named name = met_named (bad_name name) refusal.Malformed

item_named : (τ : Time) (b : Block) (item : Item) (fs : List (List ℕ)) → NamedIfAny (item_refusal τ b item fs)
unfolding item_refusal
item_named τ b item fs =
    test_named (repeated item b) refusal.Misplaced
    (test_named (any_faulty (rules_of item) 0 (value_fields item fs)) refusal.Malformed
    (test_named (any_outside (rules_of item) 0 (value_fields item fs)) refusal.OutsideLimits
    (met_named (too_many τ item b (item_values item fs)) refusal.TooManyValues)))

record_named : (r : Reading) (l : List ℕ) (record' : Record) → EventNamed (read_record r l record')
record_named (BeforeTime form) l ID = tt
record_named (BeforeTime form) l IT = unless_named _ _ (time_named _) tt
record_named (BeforeTime form) l JR = five
record_named (BeforeTime form) l KK = five
record_named (BeforeTime form) l KM = tt
record_named (BeforeTime form) l ZZ = five
record_named (BeforeTime form) l (Control next) = tt
record_named (BeforeTime form) l (Of item) = five
record_named (BeforeBlocks τ form) l ID = five
record_named (BeforeBlocks τ form) l IT = five
record_named (BeforeBlocks τ form) l JR = unless_named _ _ (ratio_named τ _) tt
record_named (BeforeBlocks τ form) l KK = unless_named _ _ (name_named _) tt
record_named (BeforeBlocks τ form) l KM = tt
record_named (BeforeBlocks τ form) l ZZ = tt
record_named (BeforeBlocks τ form) l (Control next) = tt
record_named (BeforeBlocks τ form) l (Of item) = five
record_named (InBlock τ form b) l ID = five
record_named (InBlock τ form b) l IT = five
record_named (InBlock τ form b) l JR = five
record_named (InBlock τ form b) l KK = unless_named _ _ (name_named _) tt
record_named (InBlock τ form b) l KM = tt
record_named (InBlock τ form b) l ZZ = tt
record_named (InBlock τ form b) l (Control next) = tt
record_named (InBlock τ form b) l (Of item) = unless_named _ _ (item_named τ b item _) tt

line_named : (r : Reading) (l : List ℕ) → EventNamed (read_line r l)
unfolding read_line
line_named r l = by (head_of l) (head_named l)
  where
    by : (h : Head) → HeadNamed h → EventNamed (read_by h r l)
    by (Faulty number) p = p
    by Skipped p = tt
    by (Holds record') p = record_named r l record'

-- A BLOCK THAT CLOSES
broken_named : (kind : Kind) (τ : Time) (b : Block) → NamedIfAny (broken_by kind τ b)
broken_named NoKind τ b = none_named
broken_named Basin τ b = none_named
broken_named Inflow τ b = none_named
broken_named Confluence τ b = none_named
broken_named Reach τ b =
    met_named (unroutable (coef_a (reach_steps b) τ.minutes) (coef_b (reach_k b) (reach_x b)) (coef_c (reach_k b) (reach_x b))) refusal.Unroutable
broken_named Pond τ b = met_named (table_breaks τ.minutes (pond_volumes b) (pond_outflows b)) refusal.BrokenTable

shape_named : (τ : Time) (b : Block) (held : ℕ) → NamedIfAny (shape_refusal τ b held)
unfolding shape_refusal broken
shape_named τ b held =
    test_named (kind_number (kind_of b) =? 0) refusal.NoKind
    (test_named (patternless τ b) refusal.NoPattern
    (test_named (held <? takes b) refusal.TooFewHeld (test_named (20 ≤? (held - takes b)) refusal.TooManyHeld (broken_named (kind_of b) τ b))))

flows_named : (b : Block) (runs : List Run) → NamedIfAny (flow_refusals b runs)
unfolding flow_refusal
flows_named b [] = none_named
flows_named b (run ∷ runs) =
    let taken : Held = taken_by b run.held in
    first_named (flow_refusal run.time b taken) (flow_refusals b runs)
    (test_named (overtops run.time b taken) refusal.Overtopped (met_named (flow_limit <? peak_of (made run.time b taken).flow) refusal.FlowAboveLimit))
    (flows_named b runs)

open_named : (r : Reading) (s : Standing) → NamedIfAny (open_refusal r s)
unfolding closing_refusal
open_named (BeforeTime form) s = none_named
open_named (BeforeBlocks τ form) s = none_named
open_named (InBlock τ form b) s = first_named (shape_refusal τ b s.waiting) (flow_refusals b s.runs) (shape_named τ b s.waiting) (flows_named b s.runs)

-- A DECK
abbrev WorkedNamed : Worked → Type 0
WorkedNamed (Stopped number line) = Named number
WorkedNamed (Done τ rss) = Unit

abbrev StepNamed : Step → Type 0
StepNamed (Stop w) = WorkedNamed w
StepNamed (Next r s) = Unit

step_named : (n line : ℕ) (next : Step) → NamedIfAny n → StepNamed next → StepNamed (step_unless n line next)
step_named zero line next p q = q
step_named (suc n) line next p q = p (λ z. omega (arith, z))

act_named : (which : Which) (e : Event) (r : Reading) (s : Standing) (line : ℕ) → EventNamed e → StepNamed (act which e r s line)
act_named which (Refuse number) r s line p = p
act_named which (Go next) r s line p = tt
act_named which (Open next) r s line p =
    step_named (first (open_refusal r s) (many_refusal s.blocks)) line _
    (first_named (open_refusal r s) (many_refusal s.blocks) (open_named r s) (met_named (most_blocks ≤? s.blocks) refusal.TooManyBlocks)) tt
act_named which (End τ) r s line p =
    let held : ℕ = (closed r s).waiting in
    step_named (first (open_refusal r s) (end_refusal held)) line _
    (first_named (open_refusal r s) (end_refusal held) (open_named r s) (met_named (not (held =? 1)) refusal.NotOneHeld)) tt

on_named : (step : Step) (go : Reading → Standing → Worked) → StepNamed step → ((r : Reading) (s : Standing) → WorkedNamed (go r s)) → WorkedNamed (and_then step go)
on_named (Stop w) go p on = p
on_named (Next r s) go p on = on r s

walk_named : (which : Which) (ls : List (List ℕ)) (r : Reading) (s : Standing) (line : ℕ) → WorkedNamed (walk which ls r s line)
unfolding walk
walk_named which [] r s line = (refusal.NoLastLine, refl)
walk_named which (l ∷ ls) r s line =
    on_named (act which (read_line r l) r s line) _ (act_named which (read_line r l) r s line (line_named r l))
    (λ (r' : Reading) (s' : Standing). walk_named which ls r' s' (line + 1))

worked_named : (which : Which) (deck : List ℕ) → WorkedNamed (worked_under which deck)
unfolding worked_under
worked_named which deck = walk_named which (lines_of deck) (BeforeTime Fixed) nothing_yet 1

pub stopped_named : (which : Which) (deck : List ℕ) (number line : ℕ) → worked_under which deck ≡ Stopped number line → Named number
stopped_named which deck number line e = rw e at (worked_named which deck)

-- A RUN
abbrev AnswerNamed : Answer → Type 0
AnswerNamed (Accepted nq blocks ratios) = Unit
AnswerNamed (Refused number line) = Named number

settled_named : (named ratio : ℕ) (lent : Lent) (w : Worked) → WorkedNamed w → AnswerNamed (settled named ratio lent w).answer
unfolding when◌then◌else◌
settled_named named ratio lent (Stopped number line) p = p
settled_named named ratio lent (Done τ rss) p = by (no_room named ratio τ.ordinates (block_count rss) (length rss) lent)
  where
    by : (t : Bool) → AnswerNamed (when t then refused 17 0 lent else accepted named ratio τ rss lent).answer
    by true = (refusal.LittleRoom, refl)
    by false = tt

run_named : (deck : List ℕ) (named ratio : ℕ) (lent : Lent) → AnswerNamed (outcome deck named ratio lent).answer
unfolding outcome when◌then◌else◌
run_named deck named ratio lent = by (lent.work <? work_size) (deck_size <? length deck)
  where
    by : (a b : Bool) → AnswerNamed (when a then refused 1 0 lent else when b then refused 2 0 lent else settled named ratio lent (worked deck)).answer
    by true b = (refusal.LittleWork, refl)
    by false true = (refusal.LongDeck, refl)
    by false false = settled_named named ratio lent (worked deck) (worked_named Every deck)

pub outcome_named : (deck : List ℕ) (named ratio : ℕ) (lent : Lent) (number line : ℕ) → (outcome deck named ratio lent).answer ≡ Refused number line → Named number
outcome_named deck named ratio lent number line e = rw e at (run_named deck named ratio lent)
