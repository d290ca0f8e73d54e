-- Why the rows of a store weren't read, told of the database's error.
use Rattle.sqlite.specs.declared.error.Error.{Error}
use Rattle.sqlite.specs.declared.error.Error.TheVariants.{SqliteFailure}
use Rattle.sqlite.specs.declared.error.ErrorCode.TheVariants.{OutOfMemory}
use Rattle.gaz_kept.specs.declared.refusal.Unread.{Unread}
use Rattle.gaz_kept.specs.declared.refusal.Unread.TheVariants.{Failed, Memory}

-- a want of memory, or anything else that failed
abbrev pub unread_of : Error → Unread
unread_of (SqliteFailure OutOfMemory) = Memory
unread_of _ = Failed
