use Rattle.std.proofs.Common.{Ok, Err}
use Rattle.gaz_store.proofs.Extended.{content_stays, leaves_either}
use Rattle.gaz_store.proofs.store.Store.extend.Goals as goal

pub returns-in-Ok-clause-keeps : goal.returns-in-Ok-clause-keeps
returns-in-Ok-clause-keeps g c = content_stays c.args.register.now c.args.grown c.args.self.now c.grow.new.self _ c.clear.ensures (Ok tt) c.requires c.in-Ok.ensures.alters

pub returns-in-Ok-clause-stops : goal.returns-in-Ok-clause-stops
returns-in-Ok-clause-stops g c = leaves_either c.args.register.now c.args.grown c.args.self.now c.grow.new.self _ c.clear.ensures (Ok tt) c.requires c.in-Ok.ensures.alters

pub returns-in-Err-clause-keeps : goal.returns-in-Err-clause-keeps
returns-in-Err-clause-keeps g c = content_stays c.args.register.now c.args.grown c.args.self.now c.grow.new.self _ c.clear.ensures (Err c.in-Err.fault) c.requires c.in-Err.ensures.alters

pub returns-in-Err-clause-stops : goal.returns-in-Err-clause-stops
returns-in-Err-clause-stops g c = leaves_either c.args.register.now c.args.grown c.args.self.now c.grow.new.self _ c.clear.ensures (Err c.in-Err.fault) c.requires c.in-Err.ensures.alters
