-- What a hub forgets over a reply that is told in other words.
use Rattle.std.specs.Prelude.{ℕ, Option, Result, Ok, Err, OnErr}
use Rattle.std.specs.Global.{Vec}
use Rattle.gaz_extract.specs.declared.closed.Closed.{Closed}
use Rattle.gaz_keeper.specs.declared.fault.ShelfFault.{ShelfFault}
use Rattle.gaz_steps.specs.Hubs.{or_not_received, told, told_all}
use Rattle.gaz_hub.specs.Seen.{ForgetsOver, RemembersNothing}
use Rattle.gaz_hub.specs.declared.hub.Hub.{Hub}
use Rattle.gaz_steps.specs.declared.question.Question.{Question}
use Rattle.gaz_steps.specs.declared.question.Question.TheVariants.{Settle}
use Rattle.gaz_steps.specs.declared.refusal.Refusal.{Refusal}

-- a fault of settling
pub forgets_settling : {K : Type 0} (hub : Hub K) (r : Result (Unit {0}) ShelfFault) → OnErr r (RemembersNothing hub) → ForgetsOver Settle (or_not_received r) hub
forgets_settling hub (Ok x) h = λ let_in. tt
forgets_settling hub (Err fault) h = λ let_in. h

-- the bytes of an extract
pub forgets_told : {K : Type 0} (q : Question) (hub : Hub K) (r : Result (Option (Vec ℕ)) Refusal) → ForgetsOver q r hub → ForgetsOver q (told r) hub
forgets_told q hub (Ok x) h = λ let_in. tt
forgets_told q hub (Err refusal) h = h

-- addresses
pub forgets_told_all : {K : Type 0} (q : Question) (hub : Hub K) (r : Result (Vec Closed) Refusal) → ForgetsOver q r hub → ForgetsOver q (told_all r) hub
forgets_told_all q hub (Ok x) h = λ let_in. tt
forgets_told_all q hub (Err refusal) h = h
