-- After some turns the lines of as many records are written, and the records behind them are left.
use Rattle.std.proofs.Common.{arith, zero-add, [], ◌∷◌, ◌++◌, ◌+◌, ◌*◌, ◌≤◌, length, ◌≡◌, ◌∙◌, ap, sym, ℕ, List, take, drop, length-take, length-drop, length-append, drop-drop}
use Rattle.std.proofs.Math.Seq.{take-append_seam, drop-append_seam}
use Rattle.meaning.specs.Results.{record_size}
use Rattle.sequences.specs.Bounds.{AllUpTo, bound_part}
use Rattle.sequences.specs.Parts.{part, length_part, part-part}
use Rattle.text.specs.Written.{written_more}
use Rattle.figures.specs.Room.{line_short}
use Rattle.printing.specs.Lines.{lines_more}
use Rattle.printing.specs.Room.{lines_short}
use Rattle.printing.proofs.write_lines.Goals as goal

-- the record that comes next, those behind it, and that it is within them all
next-record : (k n : ℕ) (records : List ℕ) {here rest behind : List ℕ} → record_size * n ≤ length records
    → rest ≡ here ++ behind → length here ≡ record_size → rest ≡ drop (record_size * k) (take (record_size * n) records)
    → (here ≡ part (record_size * k) record_size records) × (behind ≡ drop (record_size * (k + 1)) (take (record_size * n) records)) × (record_size * k + record_size ≤ record_size * n)
next-record k n records {here} {rest} {behind} long cut one left =
    let lens : length here + length behind ≡ length (drop (record_size * k) (take (record_size * n) records)) = sym (length-append here behind) ∙ ap length (sym cut ∙ left) in
    let room : record_size * k + record_size ≤ record_size * n = omega (arith, one, simp (length-take, length-drop) at lens) in
    let more : record_size * k + record_size ≡ record_size * (k + 1) = omega arith in (
      sym (take-append_seam here behind) ∙ rw (one, sym cut, left) (rw zero-add at (part-part 0 (record_size * n) (record_size * k) record_size records room (omega arith))),
      sym (drop-append_seam here behind) ∙ rw (one, sym cut, left) (drop-drop record_size (record_size * k) (take (record_size * n) records) ∙ rw more),
      room,
    )

pub write_line-at-requires : goal.write_line-at-requires
write_line-at-requires c =
    let l = c.loop-record in
    let s = c.in-Some.ensures.steps in
    let k = length l.yielded in
    let n = c.args.blocks in
    let records = c.args.records.now in
    let long : record_size * n ≤ length records = c.requires.0 in
    let one : length c.in-Some.record.now ≡ record_size = s.1.1 ∙ l.invariant.3 in
    let next = next-record k n records long s.1.0 one l.invariant.4 in
    let bytes : AllUpTo 255 records = λ (j : ℕ). grind arith in
    let line = line_short (part (record_size * k) record_size records) (bound_part 255 (record_size * k) record_size records bytes) (length_part (record_size * k) record_size records (omega (arith, next.2))) in
    let lines = lines_short k records bytes (omega (arith, next.2)) in
    (one, rw next.0 (omega (arith, l.invariant.2.place)))

pub loop-record-preserved : goal.loop-record-preserved
loop-record-preserved c =
    let l = c.loop-record in
    let s = c.in-Some.ensures.steps in
    let k = length l.yielded in
    let n = c.args.blocks in
    let records = c.args.records.now in
    let long : record_size * n ≤ length records = c.requires.0 in
    let one : length c.in-Some.record.now ≡ record_size = s.1.1 ∙ l.invariant.3 in
    let next = next-record k n records long s.1.0 one l.invariant.4 in
    let bytes : AllUpTo 255 records = λ (j : ℕ). grind arith in
    let lines = lines_short k records bytes (omega (arith, next.2)) in
    let longer : length (l.yielded ++ c.in-Some.record ∷ []) ≡ k + 1 = length-append l.yielded (c.in-Some.record ∷ []) in
    let written = c.write_line-at in
    rw longer (
      written.auto.out ∙ l.invariant.0,
      omega (arith, next.2),
      rw lines_more (written_more (omega (arith, l.invariant.2.place)) l.invariant.2 (rw next.0 at written.ensures)),
      s.0 ∙ l.invariant.3,
      next.1,
    )
