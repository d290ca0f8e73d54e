-- Which words ask for a conversation.
use Rattle.std.specs.Prelude.{ℕ, Bool, true, false, List, [], ◌∷◌, codes, bytes_eq}

-- the words behind the program's name ask for a conversation: there are none, or there is `play`
-- alone
abbrev pub asks_play : List (List ℕ) → Bool
asks_play [] = true
asks_play (word ∷ []) = bytes_eq word (codes "play")
asks_play (word ∷ (other ∷ words)) = false
