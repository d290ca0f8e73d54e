-- Peers that come one after another.
use Rattle.std.proofs.Common.{◌++◌, List, [], ◌∷◌, refl, subst}
use Rattle.gaz_stored.specs.Meetings.{AreMet, AreWhole, Came, Left, Meeting, Missed, WithPeers}

whole_then : (met more : List Meeting) → AreWhole met → AreWhole more → AreWhole (met ++ more)
whole_then [] more first then = then
whole_then (Missed ∷ later) more first then = whole_then later more first then
whole_then (Came had held ∷ later) more first then = whole_then later more first then
whole_then (Left left holds is_whole ∷ later) more first then = (first.0, whole_then later more first.1 then)

module _ {P R W : Type 0} (meets : P → Meeting → P → Type 0) (read_failed : R → R → Type 0) (write_failed : W → W → Type 0) where
  met_then : (met more : List Meeting) (old mid new : P) → AreMet meets old met mid → AreMet meets mid more new → AreMet meets old (met ++ more) new
  met_then [] more old mid new first then = subst (λ p. AreMet meets p more new) first then
  met_then (next ∷ later) more old mid new first then = (first.0, first.1, met_then later more first.0 mid new first.2 then)

  -- nobody came
  pub nobody : (Then : List Meeting → Type 0) (old : P) → Then [] → WithPeers meets read_failed write_failed Then old old
  nobody Then old is = record { met = []; are_met = refl; whole = λ reads writes. tt; then = is }

  -- of the same peers something else is so
  pub with_same : (First Then : List Meeting → Type 0) (old new : P) → ((met : List Meeting) → First met → Then met) → WithPeers meets read_failed write_failed First old new
      → WithPeers meets read_failed write_failed Then old new
  with_same First Then old new follows first = record { met = first.met; are_met = first.are_met; whole = first.whole; then = follows first.met first.then }

  -- some came, and then others
  pub with_more : (First Then Both : List Meeting → Type 0) (old mid new : P) → ((met more : List Meeting) → First met → Then more → Both (met ++ more))
      → WithPeers meets read_failed write_failed First old mid → WithPeers meets read_failed write_failed Then mid new → WithPeers meets read_failed write_failed Both old new
  with_more First Then Both old mid new follows first then = record {
    met = first.met ++ then.met;
    are_met = met_then first.met then.met old mid new first.are_met then.are_met;
    whole = λ reads writes. whole_then first.met then.met (first.whole reads writes) (then.whole reads writes);
    then = follows first.met then.met first.then then.then;
  }
