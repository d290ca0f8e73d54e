-- What a store has at hand of its custodians, as its tables say it.
use Rattle.std.specs.Prelude.{◌≡◌, ℕ, List, IfSome}
use Rattle.sqlite.specs.Order.{Row}
use Rattle.gaz_counts.specs.Counts.{noted}
use Rattle.gaz_counts.specs.declared.at_hand.AtHand.{AtHand}
use Rattle.gaz_counts.specs.declared.counts.Counts.{Counts}
use Rattle.gaz_keeper.specs.Received.{count_above}
use Rattle.gaz_kept.specs.Files.{files_in, reached_in}

-- how many files of a custodian wait above the judged ones
abbrev pub held_in : List Row → ℕ → ℕ
held_in files c = count_above (files_in files) c (reached_in files c)

-- what is at hand of a custodian is what the rows say: how many volumes are judged, and how many
-- files wait, where that was asked for
pub record IsSo (files : List Row) (c : ℕ) (h : AtHand) : Type 0 where
  pub reached : h.reached ≡ reached_in files c
  pub held : IfSome h.held (λ n. n ≡ held_in files c)

-- what is at hand says of each custodian what the rows say
abbrev pub AreSo : Counts → List Row → Type 0
AreSo at_hand files = (c : ℕ) → IfSome (noted at_hand c) (IsSo files c)
