-- Why a query fails that means what it is asked.
use Rattle.std.specs.Prelude.{◌≡◌, ◌⊎◌, false, IsSome}
use Rattle.sqlite_disk.specs.Disk.{MoreFaults}
use Rattle.sqlite.specs.State.{State}
use Rattle.sqlite.specs.declared.error.Error.{Error}
use Rattle.sqlite.specs.declared.error.Error.TheVariants.{SqliteFailure}
use Rattle.sqlite.specs.declared.error.ErrorCode.TheVariants.{OutOfMemory}

-- the disk failed meanwhile, or the count of its failures is at its last value and tells none; the
-- connection was shut before; or its steps are limited
abbrev pub IsHindered : State → State → Type 0
IsHindered old new = MoreFaults old.faults new.faults
    ⊎ ((old.is_open ≡ false) ⊎ IsSome old.step_limit)

-- memory was lacking, or what is asked was hindered
abbrev pub HasReason : State → State → Error → Type 0
HasReason old new e = (e ≡ SqliteFailure OutOfMemory) ⊎ IsHindered old new
