use Rattle.gaz_words.proofs.grammar.grammar.Goals as goal

pub returns : goal.returns
returns c = c.with-2.ensures _ _ (c.with.ensures _ _ (c.with-program.ensures _ _ c.with_asking.ensures c.serve.ensures) c.extend.ensures) c.migrate.ensures
