-- The record says the ratio in force and its place, and the ordinates are those of the block named.
use Prim.Native.Nat.{ℕ}
use mathlib.Core.Path.{◌≡◌, ap, ◌∙◌}
use mathlib.Core.List.{List}
use Rattle.blocks.specs.Meant.{name_is}
use Rattle.writing.specs.WrittenResult.{record_told, record_put, told_as}
use Rattle.writing.proofs.write_result.Goals as goal

pub returns : goal.returns
returns c =
    let written = c in
    let label = written.label_of.ensures in
    let x = written.args in
    let said = written.label_of.result in
    let there : written.write_record.new.records ≡ record_put x.k (record_told (name_is x.name) said.ratio said.place x.closed) x.records.now =
    written.write_record.ensures in
    let record' : List ℕ → List ℕ = λ (bytes : List ℕ). record_put x.k bytes x.records.now in record { copied = c.copy_named.ensures; written = there ∙ ap record' (told_as (name_is x.name) x.closed label.0 label.1) }
