-- A count of bytes at the front of a slice.
--     Counted           in the two forms that lending the front asks
--     written_counted   so is the place behind a text that begins at 0
use Rattle.std.specs.Prelude.{◌≡◌, List, ℕ, ◌≤◌, length, take}
use Rattle.std.proofs.Common.{sym, ap, ◌∙◌, arith, length-take}
use Rattle.text.specs.Written.{Written, written_text}

pub record Counted (n : ℕ) (bytes : List ℕ) : Type 0 where
  pub within : n ≤ length bytes
  pub front : n ≡ length (take n bytes)

pub written_counted : {out text next : List ℕ} {behind : ℕ} → Written out 0 text next behind → Counted behind next
written_counted {out} {text} {next} {behind} w =
    let long : behind ≡ length text = omega (arith, w.place) in
    let front : behind ≡ length (take behind next) = long ∙ ap length (sym (written_text w)) in
    record { within = omega (arith, front, length-take behind next); front = front }
