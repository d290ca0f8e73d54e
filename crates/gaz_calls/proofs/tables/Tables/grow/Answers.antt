use Rattle.std.proofs.Common.{◌∙◌, Ok, subst, sym, ap}
use Rattle.gaz_register.specs.Texts.{register_text}
use Rattle.gaz_kept.specs.Rewriting.{Registers}
use Rattle.gaz_calls.specs.Altering.{AltersTables}
use Rattle.gaz_calls.specs.Growing.{TellsWhose}
use Rattle.gaz_calls.proofs.Grown.{alters_after, grown_told, growth_is, refused_after}
use Rattle.gaz_calls.proofs.tables.Tables.grow.Goals as goal

pub returns-clause-alters : goal.returns-clause-alters
returns-clause-alters g c =
    alters_after c.args.self.now c.is_of.new.self c.write_register.new.self c.is_of.result (Ok tt) (register_text c.args.grown.now) c.is_of.ensures.asks
    (subst (λ r. AltersTables c.is_of.new.self c.write_register.new.self r (Registers (register_text c.args.grown.now))) c.in_ok-write_register.was c.write_register.ensures)

pub returns-clause-growth : goal.returns-clause-growth
returns-clause-growth g c = growth_is c.args.register.now c.args.grown.now (sym c.growth.ensures ∙ c.in_ok-growth.was)

pub returns-clause-told : goal.returns-clause-told
returns-clause-told g c =
    let alters = subst (λ r. AltersTables c.is_of.new.self c.write_register.new.self r (Registers (register_text c.args.grown.now))) c.in_ok-write_register.was c.write_register.ensures in
    grown_told g.S.Store c.args.self.now.conn c.is_of.new.self.conn c.write_register.new.self.conn c.args.register.now c.args.grown.now c.is_of.result c.is_of.ensures.asks.asks
    (subst (λ r. TellsWhose g.S.Store c.args.self.now.conn c.is_of.new.self.conn (register_text c.args.register.now) r) (c.in_ok-own.was ∙ ap Ok c.if-not-own.false) c.is_of.ensures.told)
    tt alters.alters

pub returns-in_err-write_register-clause-alters : goal.returns-in_err-write_register-clause-alters
returns-in_err-write_register-clause-alters g c =
    refused_after c.args.self.now c.is_of.new.self c.write_register.new.self c.is_of.result c.write_register.result _ _ (register_text c.args.grown.now) c.is_of.ensures.asks c.write_register.ensures c.in_err-write_register.was
    c.from_residual-in_err-write_register.ensures.1
