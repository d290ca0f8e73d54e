-- Peers that come to a hub one after another, and what became of each.
use Rattle.std.specs.Prelude.{◌≡◌, ⊤, ℕ, Bool, true, List, [], ◌∷◌, Option, Some, None}
use Rattle.gaz_http.specs.Failing.{NeverFails}

-- what came of a connection: none could be had; or a peer came, of whom these bytes are still to be
-- read and to whom these are written, where that is known; or it was left, with these unread and
-- these written, and held to its end or not
pub data Meeting : Type 0 where
  Missed : Meeting
  Came : (had held : Option (List ℕ)) → Meeting
  Left : (left holds : Option (List ℕ)) (is_whole : Bool) → Meeting

-- what came of it, by whom there is to read from and to write to
abbrev pub came : {R W : Type 0} → (R → Option (List ℕ)) → (W → Option (List ℕ)) → Option (R × W)
    → Meeting
came remaining contents None = Missed
came remaining contents (Some peer) = Came (remaining peer.0) (contents peer.1)

-- these came one after another, from the one state of where peers come from to the other
abbrev pub AreMet : {P : Type 0} → (P → Meeting → P → Type 0) → P → List Meeting → P → Type 0
AreMet meets old [] new = new ≡ old
AreMet {P} meets old (next ∷ later) new =
    (between : P) × meets old next between × AreMet meets between later new

-- with each the conversation was held to its end
abbrev pub AreWhole : List Meeting → Type 0
AreWhole [] = ⊤
AreWhole (Missed ∷ later) = AreWhole later
AreWhole (Came had held ∷ later) = AreWhole later
AreWhole (Left left holds is_whole ∷ later) = (is_whole ≡ true) × AreWhole later

-- peers came so, and this is so of what came of them
pub record WithPeers {P R W : Type 0} (meets : P → Meeting → P → Type 0)
    (read_failed : R → R → Type 0) (write_failed : W → W → Type 0)
    (Then : List Meeting → Type 0) (old new : P) : Type 0 where
  pub met : List Meeting
  pub are_met : AreMet meets old met new
  -- where their readers and writers can't fail, to its end with each
  pub whole : NeverFails read_failed → NeverFails write_failed → AreWhole met
  pub then : Then met
