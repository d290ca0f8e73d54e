-- Where no conversation is held.
use Rattle.std.specs.Io.KnownBytes.{Keeps}
use Rattle.gaz_exchange.specs.Conversing.{Transfer}

-- nothing is read or written
abbrev pub IsUnheard : Transfer → Type 0
IsUnheard through = Keeps through.had through.left × Keeps through.held through.holds
