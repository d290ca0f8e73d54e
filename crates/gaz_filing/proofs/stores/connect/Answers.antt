use Rattle.gaz_filing.proofs.stores.connect.Goals as goal

pub returns-in-Err-clause-none : goal.returns-in-Err-clause-none
returns-in-Err-clause-none g c = record {
  rest = c.in-Err.rest;
  are = c.into_files.ensures;
  unharmed = c.in-Err.ensures.unharmed;
}
