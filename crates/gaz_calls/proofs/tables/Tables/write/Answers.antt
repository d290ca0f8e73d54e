use Rattle.std.proofs.Common.{refl}
use Rattle.gaz_kept.specs.Keeping.{KeepsVolume}
use Rattle.gaz_calls.specs.Asking.{IsAnyway}
use Rattle.gaz_keeper.proofs.Faults.{passed_on}
use Rattle.gaz_calls.proofs.Altering.{altered_nothing, statement_alters}
use Rattle.gaz_calls.proofs.tables.Tables.write.Goals as goal

pub returns-in_err-ready : goal.returns-in_err-ready
returns-in_err-ready g c = rw (passed_on _ _ c.from_residual.ensures.1) (altered_nothing _ _ _ _ IsAnyway _ c.ready.ensures.asks c.in_err-ready.was)

pub returns : goal.returns
returns g c =
    statement_alters _ _ _ _ _ _ _ (KeepsVolume c.args.code c.args.volume c.args.changes.now)
    c.ready.ensures.asks c.in_ok-ready.ensures.ready
    c.keep-done.ensures.open c.keep-done.ensures.kept c.keep-done.ensures.undone c.keep-done.ensures.leaves c.keep-done.ensures.certain
    refl refl c.told.ensures.tells
