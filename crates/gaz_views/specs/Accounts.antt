-- What is kept of a custodian.
use Rattle.std.specs.Prelude.{ℕ, nat_le, if◌then◌else◌, List, [], length}
use Rattle.gaz_views.specs.Judgements.{Judgement, view_behind}
use Rattle.gaz_views.specs.View.{View, empty_view}

-- a custodian's judgements, and the view that its next volume has made so far
pub record Account : Type 0 where
  pub judged : List Judgement
  pub working : View

-- nothing is judged
abbrev pub empty_account : Account
empty_account = record { judged = []; working = empty_view }

-- the view after the last judged volume
abbrev pub last_of : Account → View
last_of a = view_behind a.judged (length a.judged)

-- the view after a volume that is judged, and the working view after any later one
abbrev pub view_in : Account → ℕ → View
view_in account volume =
    if nat_le volume (length account.judged)
    then view_behind account.judged volume else account.working
