-- What a line with fields does, from what the pass over its fields kept: outside its limits it is refused by 7, else its values are taken.
--     LineTaken       what taking a line does, and leaves
--     control_outside, item_outside    refusal 7
--     time-line       the time control taken
--     ratio-line      the ratios taken, or refused by 7
--     item_line       a record of the open block taken, or refused by 8
use Rattle.std.specs.Prelude.{ℕ, zero, suc, ◌≤◌, ◌<◌, ◌≡◌, refl, Bool, true, false, List, [], take, get_or, Result, Ok, Err}
use Rattle.std.proofs.Math.Path.{sym}
use Rattle.std.proofs.Common.{◌∙◌, ap, subst, arith}
use Rattle.std.proofs.Math.Seq.{get_or-take}
use Rattle.meaning.specs.Words.{met}
use Rattle.meaning.specs.Fields.{Form}
use Rattle.meaning.specs.Records.{Row, Item, row_of, filled_up, rules_of, time_rules, value_fields, any_faulty, any_outside, most_ordinates}
use Rattle.meaning.specs.Blocks.{Time, Block, repeated, too_many}
use Rattle.meaning.specs.Run.{BeforeBlocks, InBlock, Event, Refuse, Go, unless, time_refusal, time_of, with_ratios, item_values, item_refusal, with_item}
use Rattle.refusals.specs.declared.Refusal.{Refusal}
use Rattle.refusals.specs.declared.Refusal.TheVariants.{OutsideLimits}
use Rattle.refusals.specs.Numbers.{refusal_number, refusal_in, named_by, named_back}
use Rattle.fields.specs.Spans.{form_of}
use Rattle.records.specs.Rows.{items, field_row, block_row, span_in}
use Rattle.blocks.specs.declared.Time as coded
use Rattle.blocks.specs.Meant.{time_is, name_is}
use Rattle.blocks.specs.Cards.{block_of, Takes}
use Rattle.blocks.specs.Values.{counted_readable}
use Rattle.limits.specs.Limits.{values_at_most}
use Rattle.scanning.specs.Pass.{Scanned}
use Rattle.scanning.specs.WholeLine.{fields_in_lem, LineRead}
use Rattle.placing.specs.declared.Phase.{Phase}
use Rattle.placing.specs.declared.Phase.TheVariants as phase
use Rattle.placing.specs.declared.Reading.{Reading}
use Rattle.placing.specs.Readings.{reading_by, reading_is, block_is, Ready}
use Rattle.placing.specs.Places.{Due, DueTime, fields_event}
use Rattle.taking.specs.Ratios.{kept_ratios, no_ratio, ratio_outside, ratio_number, ratio-listed}

-- A reading behind IT, under that time control: the code's, and one that means it.
abbrev pub with_time : Reading → coded.Time → Reading
with_time r time = record { phase = phase.BeforeBlocks; free = r.free; time = time; name = r.name }

pub record Timed (r : Reading) (τ : Time) (x : Reading) : Type 0 where
  pub place : x.phase ≡ phase.BeforeBlocks
  pub form : x.free ≡ r.free
  pub time : time_is x.time ≡ τ
  pub few : x.time.ratios.count ≤ 9
  pub name : x.name ≡ r.name

pub timed_with : {x : Reading} {τ : Time} (r : Reading) (time : coded.Time) → x ≡ with_time r time → time_is time ≡ τ → time.ratios.count ≤ 9 → Timed r τ x
timed_with r time e is few = rw e (record { place = refl; form = refl; time = is; few = few; name = refl })

-- The time control that IT's values make, and JR's ratios in one.
abbrev pub time_taken : List ℕ → Time
time_taken values = record { minutes = get_or values 0 0; ordinates = get_or values 3 0; ratio = 100; listed = [] }

abbrev pub with_listed : List ℕ → Time → Time
with_listed ratios τ = record { minutes = τ.minutes; ordinates = τ.ordinates; ratio = τ.ratio; listed = ratios }

abbrev pub TimeTaken : Reading → (values : List ℕ) → Reading → Type 0
TimeTaken r values x = Timed r (time_taken values) x

abbrev pub RatiosTaken : Reading → (count : ℕ) → (values : List ℕ) → Result Reading Refusal → Type 0
RatiosTaken r count values (Ok x) = (no_ratio count values ≡ false) × Timed r (with_listed (kept_ratios count values) (time_is r.time)) x
RatiosTaken r count values (Err refusal) = (no_ratio count values ≡ true) × (refusal ≡ OutsideLimits)

-- A pass over a line's fields that met no fault: what it kept is that of some fields.
pub record Passed (item : Item) (s : Scanned) : Type 0 where
  pub fields : List (List ℕ)
  pub read : LineRead (field_row item) fields s

-- the reading where it stood, or what refused the line
abbrev pub stays : {T : Type 0} → Reading → Result T Refusal → Result Reading Refusal
stays r (Ok x) = Ok r
stays r (Err refusal) = Err refusal

-- What the line does, and that the reading may go on.
abbrev pub taken_event : Result Reading Refusal → List ℕ → Event
taken_event (Ok x) w = Go (reading_is x w)
taken_event (Err refusal) w = Refuse (refusal_number refusal)

abbrev pub MayGoOn : Result Reading Refusal → List ℕ → Type 0
MayGoOn (Ok x) w = Ready x w
MayGoOn (Err refusal) w = Unit

pub record LineTaken (r : Reading) (item : Item) (s : Scanned) (x : Result Reading Refusal) (w w' : List ℕ) : Type 0 where
  pub event : (fs : List (List ℕ)) → LineRead (field_row item) fs s → taken_event x w' ≡ fields_event item (reading_is r w) fs
  pub ready : MayGoOn x w'

-- no refusal has the number 0
number_some : (refusal : Refusal) (e : Event) → unless (refusal_number refusal) e ≡ Refuse (refusal_number refusal)
number_some refusal e = by (refusal_number refusal) refl
  where
    by : (n : ℕ) → refusal_number refusal ≡ n → unless n e ≡ Refuse n
    by zero h = let first = sym (named_back refusal) ∙ ap named_by h in absurd (let z : 1 ≡ 0 = rw first at h in omega arith)
    by (suc n) h = refl

-- THE TIME CONTROL
module _ (fs : List (List ℕ)) (s : Scanned) (read : LineRead (field_row items) fs s) where
  time_outside : s.outside ≡ true → time_refusal fs ≡ 7
  unfolding time_refusal
  time_outside e = rw (read.formed, sym read.flag ∙ e)

  time-sound : s.outside ≡ false → time_refusal fs ≡ 0
  unfolding time_refusal
  time-sound e = rw (read.formed, sym read.flag ∙ e)

  time-read : time_of fs ≡ time_taken s.values
  unfolding time_of
  time-read = rw (← read.values, get_or-take 4 s.values 0 0 (omega arith), get_or-take 4 s.values 3 0 (omega arith))

  few_ordinates : s.outside ≡ false → get_or s.values 3 0 ≤ most_ordinates
  few_ordinates e =
      let v = values_at_most time_rules 0 (filled_up time_rules fs) (sym read.flag ∙ e) 3 in
      rw (← read.values, get_or-take 4 s.values 3 0 (omega arith)) at v

-- THE RATIOS
ratios-read : (fs : List (List ℕ)) (s : Scanned) → LineRead (field_row (suc items)) fs s → (τ : Time) → no_ratio s.count s.values ≡ false
    → with_ratios fs τ ≡ with_listed (kept_ratios s.count s.values) τ
unfolding with_ratios
ratios-read fs s read τ e = rw (ratio-listed fs s read e)

-- RECORDS OF A BLOCK
module _ (item : Item) (fs : List (List ℕ)) (s : Scanned) (read : LineRead (row_of item) fs s) (b : Block) (once : repeated item b ≡ false) where
  flag : any_outside (rules_of item) 0 (value_fields item fs) ≡ s.outside
  flag = rw (fields_in_lem item fs) (sym read.flag)

  values : take (span_in (row_of item) s.count) s.values ≡ item_values item fs
  values = rw (fields_in_lem item fs) read.values

  formed : any_faulty (rules_of item) 0 (value_fields item fs) ≡ false
  formed = rw (fields_in_lem item fs) read.formed

  outside_item : (τ : Time) → s.outside ≡ true → item_refusal τ b item fs ≡ 7
  unfolding item_refusal
  outside_item τ e = rw (once, formed, flag ∙ e)

  item_number : (τ : Time) → s.outside ≡ false → item_refusal τ b item fs ≡ met (too_many τ item b (item_values item fs)) 8
  unfolding item_refusal
  item_number τ e = rw (once, formed, flag ∙ e)

-- the refusal and the block after it are the definition's
item_event : (item : Item) (fs : List (List ℕ)) (s : Scanned) → LineRead (row_of item) fs s → (name w : List ℕ) → repeated item (block_of name w) ≡ false → (τ : Time) (form : Form)
    → (refusal : ℕ) (w' : List ℕ) → Takes item τ.ordinates (take (span_in (row_of item) s.count) s.values) w refusal w' → s.outside ≡ false
    → unless refusal (Go (InBlock τ form (block_of name w'))) ≡ unless (item_refusal τ (block_of name w) item fs) (Go (InBlock τ form (with_item item fs (block_of name w))))
unfolding with_item
item_event item fs s read name w once τ form refusal w' t e =
    by refusal refl ∙ ap (λ (n : ℕ). unless n (Go (InBlock τ form (with_item item fs (block_of name w))))) number
  where
    vs : take (span_in (row_of item) s.count) s.values ≡ item_values item fs
    vs = values item fs s read (block_of name w) once

    number : refusal ≡ item_refusal τ (block_of name w) item fs
    number = t.number τ refl name ∙ rw vs (sym (item_number item fs s read (block_of name w) once τ e))

    by : (n : ℕ) → n ≡ refusal → unless n (Go (InBlock τ form (block_of name w'))) ≡ unless n (Go (InBlock τ form (with_item item fs (block_of name w))))
    by zero z = let after = rw (← z, vs) at (t.block name) in rw after
    by (suc n) z = refl

-- A LINE by where it is due
at_row : {item : Item} {fs : List (List ℕ)} {s : Scanned} → item < items → LineRead (field_row item) fs s → LineRead (row_of item) fs s
at_row {item} {fs} {s} inside read = subst (λ (row : Row). LineRead row fs s) (block_row item inside) read

at_place : {item place : Item} {fs : List (List ℕ)} {s : Scanned} → item ≡ place → LineRead (field_row item) fs s → LineRead (field_row place) fs s
at_place {item} {place} {fs} {s} e read = subst (λ (i : Item). LineRead (field_row i) fs s) e read

-- a reading behind IT is where the definition goes on, and may go on itself
timed_is : {r x : Reading} {τ : Time} (w : List ℕ) → Timed r τ x → reading_is x w ≡ BeforeBlocks τ (form_of r.free)
timed_is w t = rw (t.place, t.form, t.time)

timed_ready : {r x : Reading} {τ : Time} {w : List ℕ} → Timed r τ x → τ.ordinates ≤ most_ordinates → Ready r w → Ready x w
timed_ready {r} {x} {τ} t few ready =
    let same : x.time.ordinates ≡ τ.ordinates = ap (λ (σ : Time). σ.ordinates) t.time in
    record {
      few_ordinates = omega arith;
      few-ratios = t.few;
      short-name = rw t.name ready.short-name;
      readable = ready.readable;
      counted = λ (q : x.phase ≡ phase.InBlock). absurd (let both : phase.BeforeBlocks ≡ phase.InBlock = sym t.place ∙ q in let z : ◌≡◌ {A = ℕ} 0 1 = cc in omega arith);
    }

module _ (r : Reading) (item : Item) (s : Scanned) (w : List ℕ) where
  refused-seven : ((fs : List (List ℕ)) → LineRead (field_row item) fs s → Refuse 7 ≡ fields_event item (reading_is r w) fs) → LineTaken r item s (Err OutsideLimits) w w
  refused-seven seven = record { event = seven; ready = tt }

  outside-by : (p : Phase) → DueTime p (time_is r.time) item → (fs : List (List ℕ)) → LineRead (field_row item) fs s → s.outside ≡ true
      → Refuse 7 ≡ fields_event item (reading_by p (time_is r.time) (form_of r.free) (block_is r w)) fs
  outside-by phase.BeforeTime due fs read e = rw (time_outside fs s (at_place due read) e)
  outside-by phase.BeforeBlocks due fs read e = rw (ratio_outside fs s (at_place due.0 read) (time_is r.time) due.1 e)
  outside-by phase.InBlock due fs read e = absurd due

  pub control_outside : DueTime r.phase (time_is r.time) item → s.outside ≡ true → LineTaken r item s (Err OutsideLimits) w w
  control_outside due e = refused-seven (λ fs read. outside-by r.phase due fs read e)

  pub item_outside : r.phase ≡ phase.InBlock → Due phase.InBlock (time_is r.time) item w → s.outside ≡ true → LineTaken r item s (Err OutsideLimits) w w
  item_outside place due e =
      refused-seven (λ fs read. rw (place, outside_item item fs s (at_row due.0 read) (block_is r w) (due.1 (name_is r.name)) (time_is r.time) e))

  pub time_few : item ≡ items → Passed item s → s.outside ≡ false → get_or s.values 3 0 ≤ most_ordinates
  time_few due p inside = few_ordinates p.fields s (at_place due p.read) inside

  module _ (inside : s.outside ≡ false) (ready : Ready r w) where
    pub time-line : r.phase ≡ phase.BeforeTime → item ≡ items → Passed item s → (x : Reading) → TimeTaken r s.values x → LineTaken r item s (Ok x) w w
    time-line place due p x t =
        record {
          event = λ fs read. rw (timed_is w t, place, time-sound fs s (at_place due read) inside, time-read fs s (at_place due read));
          ready = timed_ready t (time_few due p inside) ready;
        }

    module _ (place : r.phase ≡ phase.BeforeBlocks) (due : DueTime phase.BeforeBlocks (time_is r.time) item) where
      ratio_met : (none : Bool) → no_ratio s.count s.values ≡ none → (fs : List (List ℕ)) → LineRead (field_row item) fs s
          → fields_event item (reading_is r w) fs ≡ unless (met none 7) (Go (BeforeBlocks (with_ratios fs (time_is r.time)) (form_of r.free)))
      ratio_met none e fs read = rw (place, ratio_number fs s (at_place due.0 read) (time_is r.time) due.1 inside, e)

      pub ratio-line : (x : Result Reading Refusal) → RatiosTaken r s.count s.values x → LineTaken r item s x w w
      ratio-line (Ok x) t =
          record {
            event = λ fs read. rw (timed_is w t.1, ratio_met false t.0 fs read, ratios-read fs s (at_place due.0 read) (time_is r.time) t.0);
            ready = timed_ready t.1 ready.few_ordinates ready;
          }
      ratio-line (Err refusal) t = record { event = λ fs read. rw (t.1, ratio_met true t.0 fs read); ready = tt }

    module _ (place : r.phase ≡ phase.InBlock) (due : Due phase.InBlock (time_is r.time) item w) where
      item_met : (refusal : ℕ) (w' : List ℕ) → Takes item r.time.ordinates (take (span_in (row_of item) s.count) s.values) w refusal w'
          → (fs : List (List ℕ)) → LineRead (field_row item) fs s → unless refusal (Go (reading_is r w')) ≡ fields_event item (reading_is r w) fs
      item_met refusal w' t fs read =
          rw place
          (item_event item fs s (at_row due.0 read) (name_is r.name) w (due.1 (name_is r.name)) (time_is r.time) (form_of r.free) refusal w' t inside)

      pub item_line : {T : Type 0} (x : Result T Refusal) (w' : List ℕ)
          → Takes item r.time.ordinates (take (span_in (row_of item) s.count) s.values) w (refusal_in x) w' → LineTaken r item s (stays r x) w w'
      item_line (Ok x) w' t =
          record {
            event = item_met 0 w' t;
            ready =
                record {
                  few_ordinates = ready.few_ordinates;
                  few-ratios = ready.few-ratios;
                  short-name = ready.short-name;
                  readable = counted_readable t.kept;
                  counted = λ q. t.kept;
                };
          }
      item_line (Err refusal) w' t =
          record { event = λ fs read. sym (number_some refusal (Go (reading_is r w'))) ∙ item_met (refusal_number refusal) w' t fs read; ready = tt }
