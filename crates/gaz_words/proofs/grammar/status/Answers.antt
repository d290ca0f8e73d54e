use Rattle.gaz_words.proofs.grammar.status.Goals as goal

pub returns : goal.returns
returns c = c.takes.ensures _ _ c.over_store-command.ensures c.code.ensures
