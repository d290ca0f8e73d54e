use Rattle.std.proofs.Common.{rules}
use Rattle.clap.specs.Words.{new_app}
use Rattle.gaz_words.proofs.grammar.over_store.Goals as goal

pub returns : goal.returns
returns c = c.takes-2.ensures _ _ (c.takes.ensures (new_app c.args.name.now) _ (search rules, search rules) c.path-store.ensures) c.path-register.ensures
