-- A fault that is handed on by `?`.
use Rattle.std.proofs.Common.{◌≡◌, Result, Ok, Err, ap}
use Rattle.std.specs.Prelude.{IsErrAnd}
use Rattle.gaz_keeper.specs.declared.fault.ShelfFault.{ShelfFault}

-- it is the one that a call answered
pub passed_on : {T : Type 0} (r : Result T ShelfFault) (e : ShelfFault) → IsErrAnd r (λ f. f ≡ e) → r ≡ Err e
passed_on (Ok x) e h = absurd h
passed_on (Err f) e h = ap Err h
