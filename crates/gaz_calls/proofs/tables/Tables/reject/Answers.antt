use Rattle.std.proofs.Common.{◌≡◌, refl, arith, w64}
use Rattle.std.proofs.lemmas.Int.{ints}
use mir.Val.{to_z, of_z}
use Rattle.gaz_tables.specs.Receiveds.{Rejects}
use Rattle.gaz_tables.specs.Schema.{received}
use Rattle.gaz_tables.specs.Stores.{ChangesTable}
use Rattle.gaz_calls.specs.Asking.{IsAnyway}
use Rattle.gaz_keeper.proofs.Faults.{passed_on}
use Rattle.gaz_calls.proofs.Altering.{altered_nothing, statement_alters}
use Rattle.gaz_calls.proofs.tables.Tables.reject.Goals as goal

pub returns-in_err-ready : goal.returns-in_err-ready
returns-in_err-ready g c = rw (passed_on _ _ c.from_residual.ensures.1) (altered_nothing _ _ _ _ IsAnyway _ c.ready.ensures.asks c.in_err-ready.was)

pub returns : goal.returns
returns g c =
    let place : to_z w64 (of_z w64 c.args.place) ≡ c.args.place = omega (arith, ints, c.ranges.place.sfits) in
    statement_alters _ _ _ _ _ _ _ (ChangesTable received (Rejects c.args.cust c.args.volume c.args.place c.args.rule))
    c.ready.ensures.asks c.in_ok-ready.ensures.ready
    c.reject-done.ensures.open (rw place at c.reject-done.ensures.written) c.reject-done.ensures.undone (rw place at c.reject-done.ensures.leaves) c.reject-done.ensures.certain
    refl refl c.told.ensures.tells
