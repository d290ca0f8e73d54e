use Rattle.gaz_words.proofs.grammar.line.Goals as goal

pub returns : goal.returns
returns c = c.takes.ensures _ _ c.over_store.ensures c.word-uprn.ensures
