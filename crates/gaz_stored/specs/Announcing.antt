-- What is written before connections are answered.
use Rattle.std.specs.Prelude.{◌≡◌, ◌++◌, ⊤, codes, ℕ, List, Option, None, Result, Ok, Err}
use Rattle.std.specs.Prelude.{IsSomeAnd}
use Rattle.std.specs.Fmt.{decimal}
use Rattle.std.specs.Io.KnownBytes.{Appends, Keeps}
use Rattle.gaz_kept.specs.declared.refusal.StoreRefusal.{StoreRefusal}
use Rattle.gaz_stored.specs.declared.attending.Unserved.{Unserved}
use Rattle.gaz_stored.specs.declared.attending.Unserved.TheVariants.{NoPort, Unwritten}

-- the line that says to which port peers come
abbrev pub listening : ℕ → List ℕ
listening port = codes "listening 127.0.0.1:" ++ (decimal port ++ codes "\n")

-- what was written, by how it ended: that line where peers were answered; nothing where there was
-- no port or no hub; where the writer failed, it isn't said
abbrev pub IsAnnounced : {N : Type 0} → Option ℕ → Option (List ℕ) → Option (List ℕ)
    → Result (Result N Unserved) StoreRefusal → Type 0
IsAnnounced port held holds (Ok (Ok served)) =
    IsSomeAnd port (λ at. Appends held holds (listening at))
IsAnnounced port held holds (Ok (Err NoPort)) = (port ≡ None) × Keeps held holds
IsAnnounced port held holds (Ok (Err Unwritten)) = ⊤
IsAnnounced port held holds (Err refusal) = Keeps held holds
