-- A database in memory.
use Rattle.std.specs.Prelude.{◌≡◌, [], true, false}
use Rattle.sqlite_disk.specs.declared.Disk.{Ghosts}
use Rattle.sqlite_schema.specs.declared.schema.Schema.{Schema}
use Rattle.sqlite_store.specs.declared.store.FileStore.{FileStore}
use Rattle.sqlite.specs.Held.{Held}
use Rattle.gaz_quiet.specs.declared.quiet.QuietDisk.{QuietDisk}

-- what is seen of a file in memory
abbrev pub quiet : Ghosts QuietDisk
quiet = record {
  seen = λ d. d.bytes.items;
  may_leave = λ d left. left ≡ d.bytes.items;
  is_usable = λ _. true;
  faults = λ d. d.faults;
  tally_of = λ d. record { caught = d.caught; refused = 0 };
  is_clean = λ _. true;
  key_of = λ _. 0;
  is_fair = λ _ _. true;
  is_frozen = λ _. false;
  is_rotten = λ _ _ _. false;
  is_mixing = λ _. false;
}

-- a connection to a database in such files
abbrev pub Quiet : Type 0
Quiet = Held (FileStore QuietDisk quiet)

abbrev pub no_tables : Schema
no_tables = record { tables = []; indexes = []; views = [] }
