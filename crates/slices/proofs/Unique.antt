-- Two outcomes that meet a contract of this crate, as its `ensures` line has it, are equal.
use mathlib.Core.Path.{◌≡◌, sym, ◌∙◌}
use Rattle.sequences.specs.OneOutcome.{Once}
use Rattle.slices.proofs.zero_words.Kinds as zero-words
use Rattle.slices.proofs.zero_words.Reads as zero-words-says
use Rattle.slices.proofs.fill_bytes.Kinds as fill-bytes
use Rattle.slices.proofs.fill_bytes.Reads as fill-bytes-says
use Rattle.slices.proofs.copy_words.Kinds as copy-words
use Rattle.slices.proofs.copy_words.Reads as copy-words-says
use Rattle.slices.proofs.put_le.Kinds as put-le
use Rattle.slices.proofs.put_le.Reads as put-le-says
use Rattle.slices.proofs.read_le.Kinds as read-le
use Rattle.slices.proofs.read_le.Reads as read-le-says
use Rattle.slices.proofs.number_at.Kinds as number_at
use Rattle.slices.proofs.number_at.Reads as number-at-says
use Rattle.slices.proofs.smaller.Kinds as smaller
use Rattle.slices.proofs.smaller.Reads as smaller-says
use Rattle.slices.proofs.trim_end.Kinds as trim-end
use Rattle.slices.proofs.trim_end.Reads as trim-end-says

pub one_zero-words : Once zero-words.ps zero-words.r zero-words-says.Post (λ κs x y e f. e.0.now ≡ f.0.now)
one_zero-words κs a x y e f p q = cc

pub one_fill-bytes : Once fill-bytes.ps fill-bytes.r fill-bytes-says.Post (λ κs x y e f. e.0.now ≡ f.0.now)
one_fill-bytes κs a x y e f p q = cc

pub one_copy_words : Once copy-words.ps copy-words.r copy-words-says.Post (λ κs x y e f. e.0.now ≡ f.0.now)
one_copy_words κs a x y e f p q = cc

pub one_put-le : Once put-le.ps put-le.r put-le-says.Post (λ κs x y e f. e.0.now ≡ f.0.now)
one_put-le κs a x y e f p q = cc

pub one_read-le : Once read-le.ps read-le.r read-le-says.Post (λ κs x y e f. x ≡ y)
one_read-le κs a x y e f p q = cc

pub one_number_at : Once number_at.ps number_at.r number-at-says.Post (λ κs x y e f. x ≡ y)
one_number_at κs a x y e f p q = cc

pub one_smaller : Once smaller.ps smaller.r smaller-says.Post (λ κs x y e f. x ≡ y)
one_smaller κs a x y e f p q = cc

pub one_trim_end : Once trim-end.ps trim-end.r trim-end-says.Post (λ κs x y e f. x.now ≡ y.now)
one_trim_end κs a x y e f p q = p ∙ sym q
