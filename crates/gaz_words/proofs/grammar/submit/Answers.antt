use Rattle.gaz_words.proofs.grammar.submit.Goals as goal

pub returns : goal.returns
returns c = c.takes-2.ensures _ _ (c.takes-command.ensures _ _ (c.takes.ensures _ _ c.over_store-command.ensures c.code.ensures) c.volume.ensures) c.word.ensures
