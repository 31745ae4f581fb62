-- What a line can do, by where the reading stands: the time control, once blocks are read, stays, and before the first block none is open.
use Rattle.std.specs.Prelude.{ℕ, List}
use Rattle.meaning.specs.Fields.{Form, fields_of, name_in}
use Rattle.meaning.specs.Records.{Record, ID, IT, JR, KK, KM, ZZ, Control, Of}
use Rattle.meaning.specs.Blocks.{Time, Block}
use Rattle.meaning.specs.Run.{Reading, BeforeTime, BeforeBlocks, InBlock, Event, Refuse, Go, Open, End, unless, time_refusal, ratio_refusal, name_refusal, item_refusal, read_record, read_line}
use Rattle.events.specs.NextEvent.{unless_has, line_has}

pub data Does : Reading → Event → Type 0 where
  refuses : {r : Reading} {number : ℕ} → Does r (Refuse number)
  waits : {f g : Form} → Does (BeforeTime f) (Go (BeforeTime g))
  times : {f g : Form} {τ : Time} → Does (BeforeTime f) (Go (BeforeBlocks τ g))
  passes : {τ σ : Time} {f g : Form} → Does (BeforeBlocks τ f) (Go (BeforeBlocks σ g))
  begins : {τ : Time} {f g : Form} {c : Block} → Does (BeforeBlocks τ f) (Open (InBlock τ g c))
  ends_empty : {τ : Time} {f : Form} → Does (BeforeBlocks τ f) (End τ)
  fills : {τ : Time} {f g : Form} {b c : Block} → Does (InBlock τ f b) (Go (InBlock τ g c))
  turns : {τ : Time} {f g : Form} {b c : Block} → Does (InBlock τ f b) (Open (InBlock τ g c))
  ends : {τ : Time} {f : Form} {b : Block} → Does (InBlock τ f b) (End τ)

does_unless : {r : Reading} {e : Event} (number : ℕ) → Does r e → Does r (unless number e)
does_unless {r} {e} number d = unless_has (Does r) (λ (n : ℕ). refuses) number e (λ z. d)

-- A line of nothing to read.
does_nothing : (r : Reading) → Does r (Go r)
does_nothing (BeforeTime f) = waits
does_nothing (BeforeBlocks τ f) = passes
does_nothing (InBlock τ f b) = fills

does_record : (r : Reading) (l : List ℕ) (k : Record) → Does r (read_record r l k)
does_record (BeforeTime f) l ID = waits
does_record (BeforeTime f) l IT = does_unless (time_refusal (fields_of f l)) times
does_record (BeforeTime f) l JR = refuses
does_record (BeforeTime f) l KK = refuses
does_record (BeforeTime f) l KM = waits
does_record (BeforeTime f) l ZZ = refuses
does_record (BeforeTime f) l (Control next) = waits
does_record (BeforeTime f) l (Of item) = refuses
does_record (BeforeBlocks τ f) l ID = refuses
does_record (BeforeBlocks τ f) l IT = refuses
does_record (BeforeBlocks τ f) l JR = does_unless (ratio_refusal τ (fields_of f l)) passes
does_record (BeforeBlocks τ f) l KK = does_unless (name_refusal (name_in f l)) begins
does_record (BeforeBlocks τ f) l KM = passes
does_record (BeforeBlocks τ f) l ZZ = ends_empty
does_record (BeforeBlocks τ f) l (Control next) = passes
does_record (BeforeBlocks τ f) l (Of item) = refuses
does_record (InBlock τ f b) l ID = refuses
does_record (InBlock τ f b) l IT = refuses
does_record (InBlock τ f b) l JR = refuses
does_record (InBlock τ f b) l KK = does_unless (name_refusal (name_in f l)) turns
does_record (InBlock τ f b) l KM = fills
does_record (InBlock τ f b) l ZZ = ends
does_record (InBlock τ f b) l (Control next) = fills
does_record (InBlock τ f b) l (Of item) = does_unless (item_refusal τ b item (fields_of f l)) fills

pub does : (r : Reading) (l : List ℕ) → Does r (read_line r l)
does r l = line_has (Does r) (λ (n : ℕ). refuses) r (does_nothing r) (does_record r) l
