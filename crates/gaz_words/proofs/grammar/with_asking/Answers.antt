use Rattle.std.proofs.Common.{codes, rules}
use Rattle.clap.specs.Words.{new_app}
use Rattle.gaz_words.proofs.grammar.with_asking.Goals as goal

pub returns : goal.returns
returns c =
    let play = c.with-program.ensures _ (new_app (codes "play")) c.program.ensures (search rules, search rules) in
    let init = c.with-program-2.ensures _ _ play c.init.ensures in
    let submit = c.with-program-3.ensures _ _ init c.submit.ensures in
    let status = c.with-program-4.ensures _ _ submit c.status.ensures in
    c.with-2.ensures _ _ (c.with.ensures _ _ status c.line.ensures) c.extract.ensures
