-- Calls that only read, one after another.
use Rattle.std.proofs.Common.{◌≡◌, arith, refl}
use Rattle.std.specs.Prelude.{◌≢◌, Result}
use Rattle.gaz_keeper.specs.Keeper.{Broken, Idle, IsLeft, IsNotOpen, Open, Progress, Reads, Seen}
use Rattle.gaz_keeper.specs.declared.fault.ShelfFault.{ShelfFault}
use Rattle.gaz_keeper.proofs.Keeping.{keeps_itself, keeps_then}
use Rattle.gaz_loaded.specs.Files.{OnlyReads}

pub reads_nothing : (a : Seen) → OnlyReads a a
reads_nothing a = record { keeps = keeps_itself a; failures = omega arith; trust = λ t. t }

pub reads_then : (a b c : Seen) → OnlyReads a b → OnlyReads b c → OnlyReads a c
reads_then a b c first second =
    let one = first.failures in
    let two = second.failures in
    record { keeps = keeps_then a b c first.keeps second.keeps; failures = omega arith; trust = λ t. first.trust (second.trust t) }

-- a call that reads
pub only_reads : {T : Type 0} (a b : Seen) (r : Result T ShelfFault) (P : T → Type 0) → Reads a b r P → OnlyReads a b
only_reads a b r P call = record { keeps = call.keeps; failures = call.counts.kept; trust = call.counts.trust }

-- what wasn't open and isn't broken any more is idle
pub idle_then : (p q : Progress) → IsLeft p q → IsNotOpen p → q ≢ Broken → q ≡ Idle
idle_then Idle q left closed whole = left
idle_then (Open c) q left closed whole = absurd (closed c refl)
idle_then Broken Idle left closed whole = refl
idle_then Broken (Open c) left closed whole = absurd (left c refl)
idle_then Broken Broken left closed whole = absurd (whole refl)
