-- After some turns as many bytes are written, two digits each.
use Rattle.std.proofs.Common.{◌+◌, ◌*◌, ◌≤◌, ◌≡◌, length, take}
use Rattle.text.specs.Written.{Written}
use Rattle.hexes.specs.Hex.{byte_size, hex_all}
use Rattle.hexes.proofs.write_bytes.Given as goal

abbrev pub invariant-loop-byte : goal.invariant-loop-byte
invariant-loop-byte l =
    (l.at ≤ l.start + byte_size * l.byte-index) × (length l.out ≡ length l.initial.out) × Written l.initial.out l.start (hex_all (take l.byte-index l.bytes)) l.out l.at
