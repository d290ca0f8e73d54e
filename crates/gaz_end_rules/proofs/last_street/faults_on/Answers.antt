-- The last answer, or a new one that is then the last.
use Rattle.gaz_end_rules.specs.Bases.{basis_views}
use Rattle.gaz_end_rules.proofs.Progress.{reads_none}
use Rattle.gaz_end_rules.proofs.last_street.faults_on.Goals as goal

pub returns-in-Some : goal.returns-in-Some
returns-in-Some g c =
    let was = (g.K.Shelf.seen c.args.keeper.now).content in
    reads_none _ c.args.code _ _ c.requires (λ _ _ _ right. (right, rw c.in-Some.is at c.about.ensures was.working (basis_views was.board c.args.bases.now) right))

pub returns : goal.returns
returns g c =
    let did = c.in_ok-faults.ensures in
    let was = (g.K.Shelf.seen c.args.keeper.now).content in
    record {
      keeps = did.keeps;
      right = λ stood fine reached _.
          let told = did.right stood fine reached in
          (c.set.ensures was.working (basis_views was.board c.args.bases.now) told, told);
      cleared = did.cleared;
      counts = record { kept = did.counts.kept; store = tt; trust = did.counts.trust };
    }
