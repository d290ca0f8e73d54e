use Rattle.std.proofs.Common.{◌+◌, ◌∙◌, arith}
use Rattle.gaz_standing.proofs.Versions.{until_before}
use Rattle.gaz_ledger.proofs.Becoming.{passing_cut, past_after}
use Rattle.gaz_ledger.specs.Custodies.{passed_at}
use Rattle.gaz_ledger.proofs.passage.undo_passing.Goals as goal

pub loop-uprn-preserved : goal.loop-uprn-preserved
loop-uprn-preserved c =
    let old = c.loop-uprn.custodies in
    let new = c.cut.new.self in
    let was = c.loop-uprn.invariant.passing in
    record {
      passing = passing_cut c.args.reached old new c.loop-uprn.passed.items c.pop.new.self.items c.in-Some.uprn c.in-Some.ensures.items was c.cut.ensures;
      past = λ v le. past_after old new c.in-Some.uprn _ c.cut.ensures v (until_before (passed_at old c.in-Some.uprn) (c.args.reached + 1) v (omega arith)) ∙ c.loop-uprn.invariant.past v le;
    }
