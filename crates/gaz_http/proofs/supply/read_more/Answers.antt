use Rattle.gaz_http.proofs.supply.read_more.Goals as goal

pub returns-in_default-clause-failed : goal.returns-in_default-clause-failed
returns-in_default-clause-failed g c = (c.args.w.now, c.in_default.ensures.told)

pub returns-in-Err-clause-failed : goal.returns-in-Err-clause-failed
returns-in-Err-clause-failed g c = (c.args.r.now, c.in-Err.ensures.told)
