-- What is kept stays.
use Rattle.std.proofs.Common.{◌≡◌}
use Rattle.gaz_keeper.specs.Keeper.{Idle}
use Rattle.gaz_shelf.specs.Mem.{content_in, seen_in}
use Rattle.gaz_loaded.proofs.loading.bring_to_hand.Given as goal

abbrev pub invariant-loop-code : goal.invariant-loop-code
invariant-loop-code l = record {
  same : content_in l.shelf ≡ content_in l.fn.shelf;
  idle : (seen_in l.shelf).progress ≡ Idle;
}
