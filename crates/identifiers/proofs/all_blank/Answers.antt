-- Each byte is a blank.
use Rattle.std.proofs.Common.{rules, tests, ◌≡◌, ◌∙◌}
use Rattle.std.specs.List.{list_all}
use Rattle.std.proofs.lemmas.Iterator.{YieldsList-from_slice}
use Rattle.std.proofs.lemmas.Iterator.Search.{all_from_yields_List}
use Rattle.meaning.specs.Lines.{blank}
use Rattle.meaning.specs.Words.{◌=?◌}
use Rattle.identifiers.specs.Texts.{blanks_all}
use Rattle.identifiers.proofs.all_blank.Goals as goal

pub returns : goal.returns
returns c =
    let all : c.all.result ≡ list_all (λ b. b =? blank) c.args.l.now = all_from_yields_List {all = c.args.l.now} (λ b. b =? blank) _ _ c.all.result c.all.ensures.ran (YieldsList-from_slice c.args.l.now (search rules)) (λ x b q k. search (rules, tests)) in
    all ∙ blanks_all c.args.l.now
