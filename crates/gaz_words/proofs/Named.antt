-- Words that are taken without a fault don't ask for the command `help`, which would be one.
use Rattle.std.proofs.Common.{◌≡◌, ◌≢◌, ◌&&◌, ℕ, Bool, true, false, not, codes, List, [], ◌∷◌, Option, Some, None, is_some, fold, bytes_eq}
use Rattle.std.specs.Prelude.{⊤, if◌then◌else◌}
use Rattle.clap.specs.Faults.{other_fault, step_fault, turn_fault, walk_fault, word_fault}
use Rattle.clap.specs.Kinds.{or_else}
use Rattle.clap.specs.Lexer.{long_of, short_of}
use Rattle.clap.specs.Simple.{Shape}
use Rattle.clap.specs.Walk as walk
use Rattle.clap.specs.Walk.{Held, Names, Outcome, Rule, Step, Text, Waiting, Walk}
use Rattle.clap.specs.declared.error.kind.ErrorKind.TheVariants.{DisplayHelp, InvalidSubcommand}
use Rattle.gaz_words.proofs.Lists.{neither}

-- no command `help` was met
abbrev pub IsOther : Option (Text × List Text) → Type 0
IsOther None = ⊤
IsOther (Some p) = p.0 ≢ codes "help"

abbrev IsFine : Step → Type 0
IsFine (walk.subcommand name) = name ≢ codes "help"
IsFine _ = ⊤

module _ (s : Shape) (names : Names) (helps : s.disable_help_subcommand ≡ false) where
  refuses_help : (name : Text) → (if bytes_eq name (codes "help") && not s.disable_help_subcommand then DisplayHelp ∷ InvalidSubcommand ∷ [] else []) ≡ [] → name ≢ codes "help"
  refuses_help name none e =
      let bad : DisplayHelp ∷ InvalidSubcommand ∷ [] ≡ [] = rw (e, helps) at none in
      absurd (cc)

  plain_fine : (waiting : Waiting) (word : Text) (h : Held) → IsFine (walk.plain_word s.rules waiting word h).1
  plain_fine walk.idle word h = tt
  plain_fine walk.positional word h = tt
  plain_fine (walk.option id) word h = tt

  after_fine : (o : Outcome) (waiting : Waiting) (word : Text) (h : Held) → IsFine (walk.after_flag s.rules waiting word h o).1
  after_fine walk.done waiting word h = tt
  after_fine (walk.waits id) waiting word h = tt
  after_fine walk.plain waiting word h = plain_fine waiting word h
  after_fine walk.refused waiting word h = plain_fine waiting word h

  flag_fine : (p : Option (Text × Option Text)) (waiting : Waiting) (word : Text) (h : Held) → IsFine (walk.long_or_other s.rules waiting word p h).1
  flag_fine (Some p) waiting word h = after_fine _ waiting word _
  flag_fine None waiting word h = go (short_of word)
    where
      go : (flags : Option Text) → IsFine (walk.short_or_plain s.rules waiting word flags h).1
      go None = plain_fine waiting word h
      go (Some flags) = after_fine _ waiting word _

  met_fine : (o : Option Text) (waiting : Waiting) (position : ℕ) (word : Text) (h : Held) → other_fault s o word h ≡ [] → IsFine (walk.subcommand_or_other s.rules o waiting position word h).1
  met_fine (Some name) waiting position word h none = refuses_help name none
  met_fine None waiting position word h none = go (bytes_eq word (45 ∷ 45 ∷ []))
    where
      go : (b : Bool) → IsFine (if b then (h, walk.trailing position) else walk.long_or_other s.rules waiting word (long_of word) h).1
      go true = tt
      go false = flag_fine (long_of word) waiting word h

  word_fine : (is_trailing : Bool) (waiting : Waiting) (position : ℕ) (word : Text) (h : Held) → word_fault s names is_trailing waiting word h ≡ [] → IsFine (walk.word_met s.rules names is_trailing waiting position word h).1
  word_fine true waiting position word h none = tt
  word_fine false waiting position word h none = met_fine (walk.subcommand_met names waiting word) waiting position word h none

  step_fine : (w : Walk) (word : Text) (h : Held) (step : Step) → IsFine step → IsOther w.stopped → IsOther (walk.after_step s.rules word w h step).stopped
  step_fine w word h (walk.next waiting) fine other = other
  step_fine w word h (walk.trailing position) fine other = other
  step_fine w word h (walk.subcommand name) fine other = fine
  step_fine w word h walk.value fine other = go (walk.arg_by_index s.rules w.position)
    where
      go : (found : Option Rule) → IsOther (walk.to_positional s.rules found word w h).stopped
      go None = other
      go (Some a) = tt

  turn_fine : (w : Walk) (word : Text) → turn_fault s names w word ≡ [] → IsOther w.stopped → IsOther (walk.walked s.rules names w word).stopped
  unfolding walk.walked
  turn_fine w word none other = go w.stopped none other
    where
      go : (stopped : Option (Text × List Text))
          → (let met = walk.word_met s.rules names w.is_trailing w.waiting w.position word w.held in
          if is_some stopped then [] else or_else (word_fault s names w.is_trailing w.waiting word w.held) (step_fault s w.position met.0 met.1)) ≡ []
          → IsOther stopped → IsOther (walk.walked_from s.rules names stopped w word).stopped
      go (Some p) none fine = fine
      go None none fine = step_fine w word _ _ (word_fine w.is_trailing w.waiting w.position word w.held (neither _ _ none).0) other

  pub walk_fine : (words : List Text) (w : Walk) → walk_fault s names w words ≡ [] → IsOther w.stopped → IsOther (fold (walk.walked s.rules names) w words).stopped
  unfolding walk_fault
  walk_fine [] w none other = other
  walk_fine (word ∷ words) w none other =
      let parts = neither _ _ none in
      walk_fine words (walk.walked s.rules names w word) parts.1 (turn_fine w word parts.0 other)
