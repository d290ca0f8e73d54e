-- How a keeper around another is seen.
use Rattle.gaz_faulty.specs.Faulting.{around}
use Rattle.gaz_keeper.specs.Keeper.{Seen}
use Rattle.gaz_faulty.specs.declared.faulty.Faulty.{Faulty}
use Rattle.gaz_keeper.specs.declared.shelf.Shelf.{Ghosts}

abbrev pub seen_around : {K : Type 0} → {inner : Ghosts K} → Faulty K inner → Seen
seen_around {K} {inner} s = around (inner.seen s.inner) s.broken s.plan.failures
