-- Two outcomes that meet a contract of this crate, as its `ensures` line has it, are equal: of a text that is written, every byte lent and the place behind it.
use mathlib.Core.Path.{◌≡◌, sym, ◌∙◌}
use Rattle.sequences.specs.OneOutcome.{Once}
use Rattle.text.specs.Written.{written_once}
use Rattle.text.proofs.write_byte.Kinds as write_byte
use Rattle.text.proofs.write_byte.Reads as write-byte-says
use Rattle.text.proofs.write_text.Kinds as write-text
use Rattle.text.proofs.write_text.Reads as write-text-says
use Rattle.text.proofs.write_whole.Kinds as write-whole
use Rattle.text.proofs.write_whole.Reads as write-whole-says
use Rattle.text.proofs.write_two_places.Kinds as write-two-places
use Rattle.text.proofs.write_two_places.Reads as write-two-places-says
use Rattle.text.proofs.write_six_places.Kinds as write-six-places
use Rattle.text.proofs.write_six_places.Reads as write-six-places-says
use Rattle.text.proofs.write_number.Kinds as write-number
use Rattle.text.proofs.write_number.Reads as write-number-says
use Rattle.text.proofs.write_amount.Kinds as write-amount
use Rattle.text.proofs.write_amount.Reads as write-amount-says
use Rattle.text.proofs.write_told.Kinds as write-told
use Rattle.text.proofs.write_told.Reads as write-told-says
use Rattle.text.proofs.trim_blanks.Kinds as trim-blanks
use Rattle.text.proofs.trim_blanks.Reads as trim-blanks-says

pub one_write_byte : Once write_byte.ps write_byte.r write-byte-says.Post (λ κs x y e f. (x ≡ y) × (e.0.now ≡ f.0.now))
one_write_byte κs a x y e f p q = written_once p q

pub one_write_text : Once write-text.ps write-text.r write-text-says.Post (λ κs x y e f. (x ≡ y) × (e.0.now ≡ f.0.now))
one_write_text κs a x y e f p q = written_once p q

pub one_write_whole : Once write-whole.ps write-whole.r write-whole-says.Post (λ κs x y e f. (x ≡ y) × (e.0.now ≡ f.0.now))
one_write_whole κs a x y e f p q = written_once p q

pub one_write_two_places : Once write-two-places.ps write-two-places.r write-two-places-says.Post (λ κs x y e f. (x ≡ y) × (e.0.now ≡ f.0.now))
one_write_two_places κs a x y e f p q = written_once p q

pub one_write_six-places : Once write-six-places.ps write-six-places.r write-six-places-says.Post (λ κs x y e f. (x ≡ y) × (e.0.now ≡ f.0.now))
one_write_six-places κs a x y e f p q = written_once p q

pub one_write_number : Once write-number.ps write-number.r write-number-says.Post (λ κs x y e f. (x ≡ y) × (e.0.now ≡ f.0.now))
one_write_number κs a x y e f p q = written_once p q

pub one_write_amount : Once write-amount.ps write-amount.r write-amount-says.Post (λ κs x y e f. (x ≡ y) × (e.0.now ≡ f.0.now))
one_write_amount κs a x y e f p q = written_once p q

pub one_write_told : Once write-told.ps write-told.r write-told-says.Post (λ κs x y e f. (x ≡ y) × (e.0.now ≡ f.0.now))
one_write_told κs a x y e f p q = written_once p q

pub one_trim_blanks : Once trim-blanks.ps trim-blanks.r trim-blanks-says.Post (λ κs x y e f. x.now ≡ y.now)
one_trim_blanks κs a x y e f p q = p ∙ sym q
