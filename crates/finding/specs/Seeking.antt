-- The search between two blocks, and what the next event makes of it.
--     Seeking        the block looked for from here on is the one looked for in the deck
--     starts         where the search begins
--     refused, missing       a line is refused, or none is left: the block is nowhere
--     kk_here, zz_here       the line that closes it
--     zz_before, goes_on     a line that closes one before it: the deck's end, or the next block
use Rattle.std.specs.Prelude.{ℕ, zero, suc, ◌+◌, ◌-◌, ◌≤◌, ◌≡◌, refl, List, [], ◌∷◌, length, drop, None}
use Rattle.std.proofs.Common.{zero-le, sym, ap, ◌∙◌, subst, arith}
use Rattle.meaning.specs.Lines.{lines_of}
use Rattle.meaning.specs.Fields.{Form, Fixed}
use Rattle.meaning.specs.Blocks.{Time, Block, opened}
use Rattle.meaning.specs.Run as run
use Rattle.meaning.specs.Run.{BeforeTime, InBlock, Event, Refuse, Go, Open, End, read_line}
use Rattle.events.specs.NextEvent as events
use Rattle.events.specs.NextEvent.{Missing, Met, met_by, next_event}
use Rattle.events.specs.TimeControl.{Timed, FoundTimed, found-timed}
use Rattle.limits.specs.Within.{ReadingWithin, EventWithin, FoundWithin, found_within}
use Rattle.fields.specs.Spans.{form_of}
use Rattle.blocks.specs.declared.Name.{Name}
use Rattle.blocks.specs.Meant.{time_is, name_is}
use Rattle.placing.specs.declared.Phase.{Phase}
use Rattle.placing.specs.declared.Phase.TheVariants as phase
use Rattle.placing.specs.declared.Reading.{Reading}
use Rattle.placing.specs.Readings.{reading_by, reading_is, block_is, opened_in, Ready, Begins, Opens}
use Rattle.reading.specs.declared.Event as coded
use Rattle.reading.specs.declared.Event.TheVariants as event
use Rattle.reading.specs.declared.Got.{Got}
use Rattle.reading.specs.Found as read
use Rattle.reading.specs.Found.{Onward, Gets}
use Rattle.finding.specs.Place.{Place, Nowhere, closed_in, place_by, block_at, FoundIs, found_by, found_at}

-- THE NEXT EVENT
abbrev place_found : events.Found → (left : ℕ) → Place
place_found (Missing r line) left = Nowhere
place_found (Met e r line rest) left = place_by e r left (λ (next : run.Reading) (n : ℕ). block_at rest next n)

block-met : (e : Event) (r : run.Reading) (left line : ℕ) (ls : List (List ℕ)) (go : run.Reading → events.Found)
    → ((next : run.Reading) → block_at ls next left ≡ place_found (go next) left)
    → place_by e r left (λ (next : run.Reading) (n : ℕ). block_at ls next n) ≡ place_found (met_by e r line ls go) left
block-met (Refuse number) r left line ls go ih = refl
block-met (Go next) r left line ls go ih = ih next
block-met (Open next) r left line ls go ih = refl
block-met (End τ) r left line ls go ih = refl

block-found : (ls : List (List ℕ)) (r : run.Reading) (left line : ℕ) → block_at ls r left ≡ place_found (next_event ls r line) left
unfolding block_at next_event
block-found [] r left line = refl
block-found (l ∷ ls) r left line =
    block-met (read_line r l) r left line ls (λ (next : run.Reading). next_event ls next (line + 1)) (λ (next : run.Reading). block-found ls next left (line + 1))

-- A LINE THAT CLOSES A BLOCK BEFORE IT: behind a KK the search goes on with one KK less, at the ZZ it ends
kk_later : (left : ℕ) (next r : run.Reading) (rest : List (List ℕ)) → (left ≡ 0 → ⊥)
    → place_by (Open next) r left (λ (next : run.Reading) (n : ℕ). block_at rest next n) ≡ block_at rest next (left - 1)
kk_later zero next r rest some = absurd (some refl)
kk_later (suc left) next r rest some = let e : suc left - 1 ≡ left = omega arith in ap (block_at rest next) (sym e)

zz_later : (left : ℕ) (τ : Time) (r : run.Reading) (go : run.Reading → ℕ → Place) → (left ≡ 0 → ⊥) → place_by (End τ) r left go ≡ Nowhere
zz_later zero τ r go some = absurd (some refl)
zz_later (suc left) τ r go some = refl

-- A BLOCK THAT CLOSES, by the phase of the reading
closed_by : (p : Phase) (r : Reading) (cards : List ℕ) → Ready r cards → ReadingWithin (reading_by p (time_is r.time) (form_of r.free) (block_is r cards))
    → FoundIs (closed_in (reading_by p (time_is r.time) (form_of r.free) (block_is r cards))) (found_by p r) cards
closed_by phase.BeforeTime r cards ready within = refl
closed_by phase.BeforeBlocks r cards ready within = refl
closed_by phase.InBlock r cards ready within =
    record {
      time = refl;
      block = refl;
      letters = ready.short-name;
      few_ordinates = ready.few_ordinates;
      few-ratios = ready.few-ratios;
      read = record { time = within.0; words = ready.readable; cards = within.1.cards };
    }

-- after IT a block is opened under the time control and in the form that the reading's struct says
opened_by : (p : Phase) (τ : Time) (form : Form) (b : Block) (name : List ℕ) → Timed (reading_by p τ form b)
    → InBlock τ form (opened name) ≡ opened_in (reading_by p τ form b) name
opened_by phase.BeforeTime τ form b name h = absurd h
opened_by phase.BeforeBlocks τ form b name h = refl
opened_by phase.InBlock τ form b name h = refl

-- BETWEEN TWO BLOCKS
pub record Seeking (deck : List ℕ) (sought : Place) (r : Reading) (at line left : ℕ) (cards : List ℕ) : Type 0 where
  pub up : at ≤ length deck
  pub counted : line ≤ at
  pub ready : Ready r cards
  pub within : ReadingWithin (reading_is r cards)
  pub goes : block_at (lines_of (drop at deck)) (reading_is r cards) left ≡ sought

pub starts : (deck : List ℕ) (number : ℕ) (r : Reading) (cards : List ℕ) → Begins r cards → Seeking deck (block_at (lines_of deck) (BeforeTime Fixed) number) r 0 0 number cards
starts deck number r cards b = record { up = zero-le; counted = zero-le; ready = b.ready; within = rw b.is tt; goes = rw b.is refl }

module _ {deck : List ℕ} {sought : Place} {r : Reading} {at line left : ℕ} {cards : List ℕ} (g : Seeking deck sought r at line left cards) where
  abbrev lines : List (List ℕ)
  lines = lines_of (drop at deck)

  abbrev next : events.Found
  next = next_event lines (reading_is r cards) (line + 1)

  sought_by : (f : events.Found) → next ≡ f → sought ≡ place_found f left
  sought_by f e = sym g.goes ∙ block-found lines (reading_is r cards) left (line + 1) ∙ ap (λ (f : events.Found). place_found f left) e

  nowhere : (cards' : List ℕ) → sought ≡ Nowhere → FoundIs sought None cards'
  nowhere cards' e = subst (λ (p : Place). FoundIs p None cards') (sym e) refl

  pub refused : {number last : ℕ} {p : run.Reading} {rest : List (List ℕ)} (cards' : List ℕ) → next ≡ Met (Refuse number) p last rest
      → FoundIs sought None cards'
  refused cards' e = nowhere cards' (sought_by _ e)

  pub missing : {p : run.Reading} {last : ℕ} (cards' : List ℕ) → next ≡ Missing p last → FoundIs sought None cards'
  missing cards' e = nowhere cards' (sought_by _ e)

  -- KK or ZZ: where the reading stood before its line
  module _ {q : Reading} {cards' : List ℕ} {last : ℕ} {rest : List (List ℕ)} (ready : Ready q cards') where
    limits : (e : Event) → next ≡ Met e (reading_is q cards') last rest → EventWithin e × ReadingWithin (reading_is q cards')
    limits e found = subst FoundWithin found (found_within lines (reading_is r cards) (line + 1) g.within)

    here : (e : Event) → next ≡ Met e (reading_is q cards') last rest → sought ≡ closed_in (reading_is q cards') → FoundIs sought (found_at q) cards'
    here e found closed =
        subst (λ (p : Place). FoundIs p (found_at q) cards') (sym closed) (closed_by q.phase q cards' ready (limits e found).1)

    pub kk_here : {opens : run.Reading} → next ≡ Met (Open opens) (reading_is q cards') last rest → left ≡ 0 → FoundIs sought (found_at q) cards'
    kk_here {opens} found none = here (Open opens) found (sought_by _ found ∙ rw none)

    pub zz_here : {τ : Time} → next ≡ Met (End τ) (reading_is q cards') last rest → left ≡ 0 → FoundIs sought (found_at q) cards'
    zz_here {τ} found none = here (End τ) found (sought_by _ found ∙ rw none)

    pub zz_before : {τ : Time} → next ≡ Met (End τ) (reading_is q cards') last rest → (left ≡ 0 → ⊥) → FoundIs sought None cards'
    zz_before {τ} found some = nowhere cards' (sought_by _ found ∙ zz_later left τ (reading_is q cards') _ some)

    pub goes_on : (name : Name) (at' : ℕ) {x : Reading} {cards'' : List ℕ} → next ≡ Met (Open (opened_in (reading_is q cards') (name_is name))) (reading_is q cards') last rest
        → rest ≡ lines_of (drop at' deck) → at' ≤ length deck → last ≤ at' → (left ≡ 0 → ⊥) → Opens q name x cards'' → Seeking deck sought x at' last (left - 1) cards''
    goes_on name at' found behind up counted some opens =
        let after_it = (subst FoundTimed found (found-timed lines (reading_is r cards) (line + 1))).0 in
        let same = opens.is ∙ opened_by q.phase (time_is q.time) (form_of q.free) (block_is q cards') (name_is name) after_it in
        record {
          up = up;
          counted = counted;
          ready = opens.ready;
          within = rw same (limits _ found).0;
          goes = rw (same, ← behind) (sym (kk_later left _ (reading_is q cards') rest some) ∙ sym (sought_by _ found));
        }

  -- BY THE EVENT that is read: where KK are left, one of them, or none; else the line that closes the block
  module _ (got : Got) (cards' : List ℕ) (gets : Gets deck at line (reading_is r cards) got cards') where
    pub not_there : (left ≡ 0 → ⊥) → ((name : Name) → got.event ≡ event.Opened name → ⊥) → FoundIs sought None cards'
    not_there some other = by got.event gets.found gets.onward other
      where
        by : (e : coded.Event) → read.FoundIs e (reading_is got.reading cards') got.line (lines_of (drop got.at deck)) next → read.OnwardBy e (Onward deck at got cards')
            → ((name : Name) → e ≡ event.Opened name → ⊥) → FoundIs sought None cards'
        by (event.Refused refusal) f o other = refused cards' f.2
        by (event.Opened name) f o other = absurd (other name refl)
        by event.Ended f o other = zz_before o.ready f some
        by event.Missing f o other = missing cards' f.2

    pub next_kk : (left ≡ 0 → ⊥) → (name : Name) → got.event ≡ event.Opened name → {x : Reading} {cards'' : List ℕ} → Opens got.reading name x cards'' → Seeking deck sought x got.at got.line (left - 1) cards''
    next_kk some name is opens =
        let f = rw is at gets.found in
        let o = rw is at gets.onward in
        goes_on o.0.ready name got.at f refl o.0.within o.0.counted some opens
