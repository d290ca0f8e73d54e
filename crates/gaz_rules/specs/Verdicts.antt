-- What a judgement comes to, as sentences on the changes of a file.
use Rattle.std.specs.Prelude.{◌≡◌, ℕ, List, [], ◌∷◌, ◌++◌, map, fold, Some, None}
use Rattle.gaz_records.specs.Keys.{key_of}
use Rattle.gaz_records.specs.declared.item.Item.{Item}
use Rattle.gaz_records.specs.declared.key.Key.{Key}
use Rattle.gaz_changefile.specs.Contents.{Contents}
use Rattle.gaz_changefile.specs.Reading.{Good, Bad}
use Rattle.gaz_changefile.specs.declared.action.Action.{Action}
use Rattle.gaz_changefile.specs.declared.change.Change.{Change}
use Rattle.gaz_register.specs.Registers.{Blocks}
use Rattle.gaz_views.specs.View.{View}
use Rattle.gaz_views.specs.declared.verdict.Verdict.TheVariants.{Applied, Rejected}
use Rattle.gaz_rules.specs.Rules.{effect, record_rules}
use Rattle.gaz_changefile.specs.Rules.{first_broken}
use Rattle.gaz_end_rules.specs.EndRules.{end_rules}
use Rattle.gaz_rules.specs.Judging.{judge}

-- the changes of a list, with those before and after one of them
pub record IsAmong (changes : List Change) (c : Change) : Type 0 where
  pub before : List Change
  pub after : List Change
  pub in_turn : changes ≡ before ++ c ∷ after

-- each change of a custodian's file fits the view after the changes before it
abbrev pub AllFit : ℕ → Blocks → List (ℕ × View) → View → List Change → Type 0
AllFit code own others v changes =
    (c : Change) (at : IsAmong changes c)
    → first_broken (record_rules code own others (fold effect v at.before) c.action c.item)
    ≡ None

-- no key of the changes breaks an end rule in this view
abbrev pub NoneBreaks : View → List (ℕ × View) → List Change → Type 0
NoneBreaks w others changes =
    (c : Change) → IsAmong changes c → first_broken (end_rules w others (key_of c.item)) ≡ None

-- the first change that doesn't fit the view after the changes before it, and the least rule that
-- it breaks
pub record IsFirstMisfit (code : ℕ) (own : Blocks) (others : List (ℕ × View)) (v : View)
    (changes : List Change) (c : Change) (rule : ℕ) : Type 0 where
  pub at : IsAmong changes c
  pub before_fit : AllFit code own others v at.before
  pub breaks : first_broken
      (record_rules code own others (fold effect v at.before) c.action c.item) ≡ Some rule

-- the first change whose key breaks an end rule in this view, and the least rule that it breaks
pub record IsFirstBreach (w : View) (others : List (ℕ × View)) (changes : List Change) (c : Change)
    (rule : ℕ) : Type 0 where
  pub at : IsAmong changes c
  pub before_keep : NoneBreaks w others at.before
  pub breaks : first_broken (end_rules w others (key_of c.item)) ≡ Some rule

-- rejected at its fault of form, else at its first misfit, else at its first breach in the last
-- view, and the view stays; else applied
pub record JudgesSay : Type 0 where
  pub bad : (code : ℕ) (own : Blocks) (v : View) (others : List (ℕ × View)) (place rule : ℕ)
      → judge code own v others (Bad place rule)
      ≡ record { verdict = Rejected place rule; view = v }
  pub misfit : (code : ℕ) (own : Blocks) (v : View) (others : List (ℕ × View)) (file : Contents)
      (c : Change) (rule : ℕ)
      → IsFirstMisfit code own others v file.changes c rule → judge code own v others (Good file)
      ≡ record { verdict = Rejected c.place rule; view = v }
  pub breach : (code : ℕ) (own : Blocks) (v : View) (others : List (ℕ × View)) (file : Contents)
      (c : Change) (rule : ℕ)
      → AllFit code own others v file.changes
      → IsFirstBreach (fold effect v file.changes) others file.changes c rule
      → judge code own v others (Good file) ≡ record { verdict = Rejected c.place rule; view = v }
  pub applied : (code : ℕ) (own : Blocks) (v : View) (others : List (ℕ × View)) (file : Contents)
      → AllFit code own others v file.changes
      → NoneBreaks (fold effect v file.changes) others file.changes
      → judge code own v others (Good file)
      ≡ record { verdict = Applied; view = fold effect v file.changes }
  -- rules are asked by rising number
  pub record_numbers : (code : ℕ) (own : Blocks) (others : List (ℕ × View)) (v : View) (a : Action)
      (i : Item)
      → map (λ r. r.0) (record_rules code own others v a i)
      ≡ 20 ∷ 21 ∷ 22 ∷ 23 ∷ 24 ∷ 40 ∷ 41 ∷ 42 ∷ []
  pub end_numbers : (w : View) (others : List (ℕ × View)) (k : Key)
      → map (λ r. r.0) (end_rules w others k) ≡ 30 ∷ 31 ∷ 32 ∷ 33 ∷ 34 ∷ 35 ∷ 36 ∷ 37 ∷ 38 ∷ 39 ∷ []
