use Rattle.std.proofs.Common.{arith}
use Rattle.std.proofs.lemmas.Grind.{common_steps}
use Rattle.gaz_faulty.specs.Faulting.{progress_around}
use Rattle.gaz_faulty.proofs.Faulting.{held_around}
use Rattle.gaz_faulty.proofs.passing.FaultyInbox.held.Goals as goal

pub returns-clause-reads : goal.returns-clause-reads
returns-clause-reads g c =
    let told = rw c.in_ok-admit.ensures.inner at c.held.ensures in
    let inner = g.K.Shelf.seen c.args.self.now.inner in
    record {
      keeps = grind (arith, common_steps);
      right = λ stood fine. held_around c.held.result c.args.code (progress_around c.args.self.now.broken inner.progress) inner.content (told.right stood fine);
      cleared = grind (arith, common_steps);
      counts = grind (arith, common_steps);
    }
