-- Worked examples, computed from the definitions.
use Rattle.std.specs.Prelude.{◌≡◌, ℕ, List, [], ◌∷◌, Option, Some, None}
use Rattle.gaz_counts.specs.Counts.{Notes, OneJudged, OneMore, Recounts}
use Rattle.gaz_counts.specs.declared.at_hand.AtHand.{AtHand}
use Rattle.gaz_counts.specs.declared.counts.Counts.{Counts}

-- three volumes are judged, and so many files wait above them
abbrev pub three : Option ℕ → AtHand
three held = record { reached = 3; held = held }

abbrev pub four : Option ℕ → AtHand
four held = record { reached = 4; held = held }

-- it is so wherever this was at hand of custodians, and this is
abbrev pub Goes : (Counts → Counts → Type 0) → List (ℕ × AtHand) → List (ℕ × AtHand) → Type 0
Goes Becomes was now = (old new : Counts) → old.by_code.entries ≡ was
    → new.by_code.entries ≡ now → Becomes old new

-- it is so nowhere that this was at hand, and this is
abbrev pub NeverGoes : (Counts → Counts → Type 0) → List (ℕ × AtHand) → List (ℕ × AtHand) → Type 0
NeverGoes Becomes = Goes (λ old new. ¬ Becomes old new)

-- of custodian 1001 this is at hand, and of 1002 that
abbrev pub both : AtHand → AtHand → List (ℕ × AtHand)
both own other = (1001, own) ∷ (1002, other) ∷ []

-- three of 1001's volumes are judged, and two files wait, from now on
abbrev pub NotesTwo : Counts → Counts → Type 0
NotesTwo = Notes 1001 (three (Some 2))

-- one more file of 1001 waits
abbrev pub HasCome : Counts → Counts → Type 0
HasCome = Recounts 1001 OneMore

pub record WorkedNoting : Type 0 where
  pub noted : Goes NotesTwo (both (three None) (four None)) (both (three (Some 2)) (four None))
  pub new : Goes NotesTwo [] ((1001, three (Some 2)) ∷ [])
  pub forgotten : Goes NotesTwo (both (three None) (four None)) []
  pub stays : NeverGoes NotesTwo ((1001, three None) ∷ []) ((1001, three None) ∷ [])
  pub other : NeverGoes NotesTwo (both (three None) (four None)) (both (three (Some 2)) (four (Some 7)))
  pub made_up : NeverGoes NotesTwo [] (both (three (Some 2)) (four None))
  pub come : Goes HasCome ((1001, three (Some 1)) ∷ []) ((1001, three (Some 2)) ∷ [])
  pub unheard : NeverGoes HasCome ((1001, three (Some 1)) ∷ []) ((1001, three (Some 1)) ∷ [])
  pub of_nothing : NeverGoes HasCome [] ((1001, three (Some 1)) ∷ [])

pub record WorkedExamples : Type 0 where
  pub comes : OneMore (three (Some 1)) (three (Some 2))
  pub comes_uncounted : OneMore (three None) (three None)
  pub comes_forgotten : OneMore (three (Some 1)) (three None)
  pub comes_unheard : ¬ OneMore (three (Some 1)) (three (Some 1))
  pub comes_guessed : ¬ OneMore (three None) (three (Some 1))
  pub comes_judged : ¬ OneMore (three (Some 1)) (four (Some 2))
  pub judged : OneJudged (three (Some 2)) (four (Some 1))
  pub judged_forgotten : OneJudged (three (Some 2)) (four None)
  pub judged_unheard : ¬ OneJudged (three (Some 2)) (three (Some 1))
  pub judged_waits : ¬ OneJudged (three (Some 2)) (four (Some 2))
  pub noting : WorkedNoting
