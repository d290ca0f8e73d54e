use Rattle.std.proofs.KnownBytes.{Keeps-refl}
use Rattle.gazhub.proofs.obeying.obey.Goals as goal

pub returns-in-Init : goal.returns-in-Init
returns-in-Init g c = rw c.in-Init.is (record { told = c.init.result; works = c.init.ensures; finished = c.finish.ensures.finished; silent = record { read = Keeps-refl _; printed = c.finish.ensures.silent } })

pub returns-in-Ask : goal.returns-in-Ask
returns-in-Ask g c = rw c.in-Ask.is (record { told = c.ask.result; works = c.ask.ensures; finished = c.finish-in-Ask.ensures.finished; silent = record { read = Keeps-refl _; printed = c.finish-in-Ask.ensures.silent } })

pub returns-in-Extend : goal.returns-in-Extend
returns-in-Extend g c = rw c.in-Extend.is (record { told = c.extend.result; works = c.extend.ensures; finished = c.finish-in-Extend.ensures.finished; silent = record { read = Keeps-refl _; printed = c.finish-in-Extend.ensures.silent } })

pub returns-in-Migrate : goal.returns-in-Migrate
returns-in-Migrate g c = rw c.in-Migrate.is (record { told = c.migrate.result; works = c.migrate.ensures; finished = c.finish-in-Migrate.ensures.finished; silent = record { read = Keeps-refl _; printed = c.finish-in-Migrate.ensures.silent } })
