-- WHAT STANDS WHERE: what a record does where the reading stands, by the record and then by the phase.
use Rattle.std.specs.Prelude.{ℕ, zero, suc, ◌≤◌, ◌<◌, ◌≡◌, Bool, not, List, [], ◌∷◌, length, take, Result, Ok, Err}
use Rattle.std.proofs.Common.{arith, sym, true≢false, lt-ltb}
use Rattle.std.proofs.Math.Path.{refl}
use Rattle.std.proofs.Math.Bool.{true, false}
use Rattle.meaning.specs.Words.{◌<?◌, empty}
use Rattle.meaning.specs.Fields.{fields_of, name_in}
use Rattle.meaning.specs.Records as records
use Rattle.meaning.specs.Records.{Item, ID, IT, JR, KK, KM, ZZ, Control, Of}
use Rattle.meaning.specs.Blocks.{Time, repeated}
use Rattle.meaning.specs.Run as run
use Rattle.meaning.specs.Run.{BeforeTime, BeforeBlocks, InBlock, Event, Refuse, Go, Open, End, unless, time_refusal, time_of, ratio_refusal, with_ratios, name_refusal, item_refusal, with_item, read_record}
use Rattle.refusals.specs.declared.Refusal.{Refusal}
use Rattle.refusals.specs.declared.Refusal.TheVariants.{Misplaced}
use Rattle.refusals.specs.Numbers.{refusal_number}
use Rattle.fields.specs.Spans.{form_of}
use Rattle.records.specs.Rows.{items}
use Rattle.blocks.specs.Cards.{block_of}
use Rattle.placing.specs.declared.Phase.{Phase}
use Rattle.placing.specs.declared.Phase.TheVariants as phase
use Rattle.placing.specs.declared.Placed.{Placed}
use Rattle.placing.specs.declared.Placed.TheVariants.{Passed, Named, Last, Fields}
use Rattle.placing.specs.Readings.{reading_by, form_in, time_in, in_form, opened_in}

abbrev pub before_time : Phase → Placed → Result Placed Refusal
before_time phase.BeforeTime then = Ok then
before_time phase.BeforeBlocks then = Err Misplaced
before_time phase.InBlock then = Err Misplaced

abbrev pub after_time : Phase → Placed → Result Placed Refusal
after_time phase.BeforeTime then = Err Misplaced
after_time phase.BeforeBlocks then = Ok then
after_time phase.InBlock then = Ok then

abbrev pub once_in : Bool → Item → Result Placed Refusal
once_in true item = Err Misplaced
once_in false item = Ok (Fields item)

abbrev pub before_blocks : Phase → (listed : Bool) → Result Placed Refusal
before_blocks phase.BeforeTime again = Err Misplaced
before_blocks phase.BeforeBlocks again = once_in again (suc items)
before_blocks phase.InBlock again = Err Misplaced

abbrev pub in_block : Phase → (repeated : Bool) → Item → Result Placed Refusal
in_block phase.BeforeTime again item = Err Misplaced
in_block phase.BeforeBlocks again item = Err Misplaced
in_block phase.InBlock again item = once_in again item

-- what a record with fields does
abbrev pub fields_event : Item → run.Reading → List (List ℕ) → Event
fields_event item (BeforeTime form) fs = unless (time_refusal fs) (Go (BeforeBlocks (time_of fs) form))
fields_event item (BeforeBlocks τ form) fs = unless (ratio_refusal τ fs) (Go (BeforeBlocks (with_ratios fs τ) form))
fields_event item (InBlock τ form b) fs = unless (item_refusal τ b item fs) (Go (InBlock τ form (with_item item fs b)))

-- and a name
abbrev pub name_event : run.Reading → List ℕ → Event
name_event r name = unless (name_refusal name) (Open (opened_in r name))

-- what a line of such a record does
abbrev pub placed_event : Result Placed Refusal → run.Reading → List ℕ → Event
placed_event (Err refusal) r l = Refuse (refusal_number refusal)
placed_event (Ok (Passed free)) r l = Go (in_form (form_of free) r)
placed_event (Ok Named) r l = name_event r (name_in (form_in r) l)
placed_event (Ok Last) r l = End (time_in r)
placed_event (Ok (Fields item)) r l = fields_event item r (fields_of (form_in r) l)

-- and that it is what the record does, on every line that holds it
abbrev pub PlacedIs : Result Placed Refusal → run.Reading → records.Record → Type 0
PlacedIs s r k = (l : List ℕ) → read_record r l k ≡ placed_event s r l

-- where fields are read: the time control's before IT, the ratios' behind it where none are listed yet, a record's in a block that does not repeat it
abbrev pub Due : Phase → Time → Item → List ℕ → Type 0
Due phase.BeforeTime τ item w = item ≡ items
Due phase.BeforeBlocks τ item w = (item ≡ suc items) × (empty τ.listed ≡ true)
Due phase.InBlock τ item w = (item < items) × ((name : List ℕ) → repeated item (block_of name w) ≡ false)

-- the time control's or the ratios', whatever stands in the words; a record's in a block alone
abbrev pub DueTime : Phase → Time → Item → Type 0
DueTime phase.BeforeTime τ item = item ≡ items
DueTime phase.BeforeBlocks τ item = (item ≡ suc items) × (empty τ.listed ≡ true)
DueTime phase.InBlock τ item = ⊥

pub due_time : (p : Phase) (τ : Time) (item : Item) (w : List ℕ) → Due p τ item w → items ≤ item → DueTime p τ item
due_time phase.BeforeTime τ item w due past = due
due_time phase.BeforeBlocks τ item w due past = due
due_time phase.InBlock τ item w due past = absurd (omega arith)

pub due_inside : (p : Phase) (τ : Time) (item : Item) (w : List ℕ) → Due p τ item w → item < items → p ≡ phase.InBlock
due_inside phase.BeforeTime τ item w due inside = absurd (omega arith)
due_inside phase.BeforeBlocks τ item w due inside = absurd (omega arith)
due_inside phase.InBlock τ item w due inside = refl

pub due_known : (p : Phase) (τ : Time) (item : Item) (w : List ℕ) → Due p τ item w → item ≤ suc items
due_known phase.BeforeTime τ item w due = omega arith
due_known phase.BeforeBlocks τ item w due = omega arith
due_known phase.InBlock τ item w due = omega arith

abbrev pub MayRead : Result Placed Refusal → Phase → Time → List ℕ → Type 0
MayRead (Err refusal) p τ w = Unit
MayRead (Ok (Passed free)) p τ w = Unit
MayRead (Ok Named) p τ w = Unit
MayRead (Ok Last) p τ w = Unit
MayRead (Ok (Fields item)) p τ w = Due p τ item w

abbrev pub Places : Result Placed Refusal → Phase → Time → Bool → List ℕ → List ℕ → records.Record → Type 0
Places s p τ free name w k = PlacedIs s (reading_by p τ (form_of free) (block_of name w)) k × MayRead s p τ w

-- ratios are listed where the code counts some
pub listed_some : (n : ℕ) (ratios : List ℕ) → 1 ≤ length ratios → not (empty (take n ratios)) ≡ (0 <? n)
listed_some zero ratios h = refl
listed_some (suc n) [] h = absurd (omega arith)
listed_some (suc n) (r ∷ ratios) h = sym (lt-ltb 0 (suc n) (omega arith))

not_fails : (t : Bool) → not t ≡ false → t ≡ true
not_fails true e = refl
not_fails false e = absurd (true≢false e)

module _ (τ : Time) (free : Bool) (name w : List ℕ) where
  pub id_placed : (p : Phase) → Places (before_time p (Passed free)) p τ free name w ID
  id_placed phase.BeforeTime = (λ l. refl, tt)
  id_placed phase.BeforeBlocks = (λ l. refl, tt)
  id_placed phase.InBlock = (λ l. refl, tt)

  pub it_placed : (p : Phase) → Places (before_time p (Fields items)) p τ free name w IT
  it_placed phase.BeforeTime = (λ l. refl, refl)
  it_placed phase.BeforeBlocks = (λ l. refl, tt)
  it_placed phase.InBlock = (λ l. refl, tt)

  -- the ratios, and whether some are listed
  listed_placed : (again : Bool) → not (empty τ.listed) ≡ again → Places (once_in again (suc items)) phase.BeforeBlocks τ free name w JR
  unfolding ratio_refusal
  listed_placed true e = (λ l. rw e, tt)
  listed_placed false e = (λ l. refl, (refl, not_fails (empty τ.listed) e))

  pub jr_placed : (again : Bool) → not (empty τ.listed) ≡ again → (p : Phase) → Places (before_blocks p again) p τ free name w JR
  jr_placed again e phase.BeforeTime = (λ l. refl, tt)
  jr_placed again e phase.BeforeBlocks = listed_placed again e
  jr_placed again e phase.InBlock = (λ l. refl, tt)

  pub kk_placed : (p : Phase) → Places (after_time p Named) p τ free name w KK
  kk_placed phase.BeforeTime = (λ l. refl, tt)
  kk_placed phase.BeforeBlocks = (λ l. refl, tt)
  kk_placed phase.InBlock = (λ l. refl, tt)

  pub zz_placed : (p : Phase) → Places (after_time p Last) p τ free name w ZZ
  zz_placed phase.BeforeTime = (λ l. refl, tt)
  zz_placed phase.BeforeBlocks = (λ l. refl, tt)
  zz_placed phase.InBlock = (λ l. refl, tt)

  pub km_placed : (p : Phase) → Places (Ok (Passed free)) p τ free name w KM
  km_placed phase.BeforeTime = (λ l. refl, tt)
  km_placed phase.BeforeBlocks = (λ l. refl, tt)
  km_placed phase.InBlock = (λ l. refl, tt)

  pub control_placed : (next : Bool) (p : Phase) → Places (Ok (Passed next)) p τ free name w (Control (form_of next))
  control_placed next phase.BeforeTime = (λ l. refl, tt)
  control_placed next phase.BeforeBlocks = (λ l. refl, tt)
  control_placed next phase.InBlock = (λ l. refl, tt)

  -- a record of a block
  once_placed : (item : Item) (again : Bool) → item < items → ((name : List ℕ) → repeated item (block_of name w) ≡ again) → Places (once_in again item) phase.InBlock τ free name w (Of item)
  unfolding item_refusal
  once_placed item true inside e = (λ l. rw (e name), tt)
  once_placed item false inside e = (λ l. refl, (inside, e))

  pub item_placed : (item : Item) (again : Bool) → item < items → ((name : List ℕ) → repeated item (block_of name w) ≡ again) → (p : Phase) → Places (in_block p again item) p τ free name w (Of item)
  item_placed item again inside e phase.BeforeTime = (λ l. refl, tt)
  item_placed item again inside e phase.BeforeBlocks = (λ l. refl, tt)
  item_placed item again inside e phase.InBlock = once_placed item again inside e
