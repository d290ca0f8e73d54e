-- What a call that only reads tells, in other words.
use Rattle.std.specs.Prelude.{Result, Ok, Err, IfOk}
use Rattle.gaz_keeper.specs.Keeper.{Seen}
use Rattle.gaz_keeper.specs.declared.fault.ShelfFault.{ShelfFault}
use Rattle.gaz_extract.specs.Readings.{Looks}

pub if_ok : {T : Type 0} (r : Result T ShelfFault) (P Q : T → Type 0) → ((x : T) → P x → Q x) → IfOk r P → IfOk r Q
if_ok (Ok x) P Q f h = f x h
if_ok (Err e) P Q f h = tt

-- what is right is right in other words too
pub looks_as : {T : Type 0} (a b : Seen) (r : Result T ShelfFault) (P Q : T → Type 0) → ((x : T) → P x → Q x) → Looks a b r P → Looks a b r Q
looks_as a b r P Q f l = record { keeps = l.keeps; right = λ stood fine. if_ok r P Q f (l.right stood fine); counts = l.counts }
