-- What comes of connections that are answered.
use Rattle.std.proofs.Common.{◌≡◌, ◌-◌, ℕ, false, List, Ok, Err, Result, IfOk, IfErr, IfSome, Option, refl}
use Rattle.std.specs.Io.KnownBytes.{Keeps}
use Rattle.sqlite_disk.specs.declared.Disk as disk
use Rattle.gaz_kept.specs.declared.refusal.StoreRefusal.{StoreRefusal}
use Rattle.gaz_stored.specs.Announcing.{IsAnnounced}
use Rattle.gaz_stored.specs.Serving.{AreSome}
use Rattle.gaz_stored.specs.declared.attending.Unserved.{Unserved}
use Rattle.gaz_stored.specs.declared.attending.Unserved.TheVariants.{NoPort, Unwritten}
use Rattle.gaz_words.specs.declared.command.Places.{Places}
use Rattle.gazhub.specs.Endings.{is_silent}
use Rattle.gazhub.specs.Serving.{More, NoMore, ServesRest, Untold, Whole, said_of_serving}
use Rattle.gazhub.specs.Sites.{Deed}
use Rattle.gazhub.specs.declared.ending.Ending.{Ending}

-- what is told of serving is of some of the connections
pub some_of : (connections : ℕ) (held : Result (Result ℕ Unserved) StoreRefusal) → IfOk held (λ served. IfOk served (AreSome connections)) → IfOk (said_of_serving held) (λ told. IfSome told (AreSome connections))
some_of connections (Ok (Ok served)) many = many
some_of connections (Ok (Err Unwritten)) many = tt
some_of connections (Ok (Err NoPort)) many = tt
some_of connections (Err refusal) many = tt

-- nothing is printed where there was no hub or no port
pub silent_of : (bound : Option ℕ) (had has : Option (List ℕ)) (held : Result (Result ℕ Unserved) StoreRefusal) → IsAnnounced bound had has held → IfErr (said_of_serving held) (λ _. Keeps had has)
silent_of bound had has (Ok (Ok served)) announced = tt
silent_of bound had has (Ok (Err Unwritten)) announced = tt
silent_of bound had has (Ok (Err NoPort)) announced = announced.1
silent_of bound had has (Err refusal) announced = announced

-- something may have been printed
pub speaks : {S D : Type 0} (done : S → Deed D → S → Type 0) (g : disk.Ghosts D) (places : Places) (port left : ℕ) (before after : S) (ending : Ending) → ServesRest done g places port left before after ending → is_silent ending ≡ false
speaks done g places port left before after ending (Whole site) = refl
speaks done g places port left before after ending (More some served first between last how once rest) = speaks done g places port (left - served) between after ending rest
speaks done g places port left before after ending (Untold some first last once) = refl
speaks done g places port left before after ending (NoMore some first last why once) = refl
