-- Worked examples on peers that come one after another.
use Rattle.std.specs.Prelude.{◌≡◌, ◌≤◌, codes, ℕ, true, false, List, [], ◌∷◌, length, Some, None}
use Rattle.gaz_keeper.specs.Keeper.{Seen}
use Rattle.gaz_hub.specs.declared.hub.Hub.{Hub}
use Rattle.gaz_stored.specs.Meetings.{AreMet, AreWhole, Meeting, Missed, Came, Left, came}
use Rattle.gaz_stored.specs.Serving.{Serves}

-- where peers are known that are yet to come, the next of them comes
abbrev pub comes_next : List Meeting → Meeting → List Meeting → Type 0
comes_next old met new = old ≡ met ∷ new

-- one who says GET and is told 404
abbrev pub one_peer : List Meeting
one_peer = Came (Some (codes "GET")) (Some []) ∷ Left (Some []) (Some (codes "404")) true ∷ []

-- Below, seen is how a keeper is seen.
pub record WorkedMeetings {K : Type 0} (seen : K → Seen) : Type 0 where
  pub comes : AreMet comes_next one_peer one_peer []
  pub nobody : AreMet comes_next one_peer [] one_peer
  -- who came isn't yet to come
  pub gone : ¬ AreMet comes_next one_peer one_peer one_peer
  pub there : came Some Some (Some (codes "GET", [])) ≡ Came (Some (codes "GET")) (Some [])
  pub missed : came {R = List ℕ} {W = List ℕ} Some Some None ≡ Missed
  pub whole : AreWhole one_peer
  pub broken : ¬ AreWhole (Missed ∷ Left (Some []) (Some []) false ∷ [])
  -- of each connection that was served something came
  pub fewest : (most served : ℕ) (old new : Hub K) (met : List Meeting)
      → Serves seen most served old new met → served ≤ length met
