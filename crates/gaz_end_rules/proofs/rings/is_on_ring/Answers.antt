-- The mark of the walk.
use Rattle.gaz_end_rules.proofs.Walks.{mark_right}
use Rattle.gaz_end_rules.proofs.rings.is_on_ring.Goals as goal

pub returns : goal.returns
returns g c =
    let did = c.in_ok-walk.ensures in
    record {
      keeps = did.keeps;
      right = λ stood fine known.
          let now = did.right stood fine known in
          (now.0, λ up. mark_right _ _ _ _ _ _ now.0 now.1 up c.is_on_ring.ensures.visited c.is_on_ring.ensures.never);
      cleared = did.cleared;
      counts = record { kept = did.counts.kept; store = tt; trust = did.counts.trust };
    }
