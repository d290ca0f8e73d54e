-- Whom a look-up asks next.
use Rattle.gaz_chains.specs.Finding.{Asked, Here, Next, Nobody}
use Rattle.gaz_steps.specs.declared.holding.Asked as told
use Rattle.gaz_steps.specs.declared.holding.Asked.TheVariants as answer

-- an answer, as it is told
abbrev pub as_asked : told.Asked → Asked
as_asked answer.Here = Here
as_asked answer.Nobody = Nobody
as_asked (answer.Next to) = Next to
