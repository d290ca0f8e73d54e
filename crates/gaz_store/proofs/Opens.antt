-- An Ok says that the connection is open.
use Rattle.std.proofs.Common.{◌≡◌, Bool, true, Result, Ok, Err, OnOk}
use Rattle.std.specs.Prelude.{IsTrue}
use Rattle.sqlite.specs.State.{HasCleanDisk, State}
use Rattle.gaz_calls.specs.Seen.{IsUnharmed}

-- where it answered last
pub open_where_sure : {T E : Type 0} (r : Result T E) (s : State) (sure : Bool) → OnOk r (sure ≡ true) → (sure ≡ true → HasCleanDisk s → IsTrue s.is_open) → OnOk r (HasCleanDisk s → IsUnharmed s)
open_where_sure (Ok x) s sure is opens = λ clean. record { clean = clean; is_open = opens is clean }
open_where_sure (Err e) s sure is opens = tt

-- where it wrote
pub open_where_done : {T E : Type 0} (r : Result T E) (s : State) → (HasCleanDisk s → OnOk r (IsTrue s.is_open)) → OnOk r (HasCleanDisk s → IsUnharmed s)
open_where_done (Ok x) s opens = λ clean. record { clean = clean; is_open = opens clean }
open_where_done (Err e) s opens = tt
