-- How much of what was received is at hand.
use Rattle.std.specs.Prelude.{◌≡◌, ◌≢◌, ◌≤◌, ◌+◌, ℕ, List, IsSome}
use Rattle.std.specs.FinMap as map
use Rattle.sqlite_rules.specs.Lists.{Has}
use Rattle.gaz_views.specs.View.{empty_view}
use Rattle.gaz_views.specs.declared.verdict.Verdict.{Verdict}
use Rattle.gaz_keeper.specs.Board.{last_view, reached, verdict_on, view_after}
use Rattle.gaz_keeper.specs.Keeper.{Content, Keeps, Seen, with_judgement}
use Rattle.gaz_keeper.specs.Received.{HasAllOf, Received}

-- calls that only read
pub record OnlyReads (old new : Seen) : Type 0 where
  pub keeps : Keeps old new
  pub failures : old.failures ≤ new.failures
  pub trust : new.trusted → old.trusted

-- files and verdicts are those that are kept, and no view holds anything yet
pub record IsPart (kept now : Content) : Type 0 where
  pub files : HasAllOf kept.files now.files
  pub verdicts : (c volume : ℕ) → volume ≤ reached now.board c
      → verdict_on now.board c volume ≡ verdict_on kept.board c volume
  pub bare : (c volume : ℕ) → view_after now.board c volume ≡ empty_view
  pub idle : now.working ≡ empty_view

-- what was there still is, and of other custodians nothing was judged
pub record Grows (c : ℕ) (old new : Content) : Type 0 where
  pub files : HasAllOf new.files old.files
  pub others : (d : ℕ) → d ≢ c → new.board d ≡ old.board d

-- a custodian's files, or verdicts, were brought to hand from a keeper
pub record Copies (c : ℕ) (lower_old lower_new : Seen) (old new : Content) : Type 0 where
  pub grows : Grows c old new
  pub part : lower_old.stands → lower_new.unharmed → IsPart lower_old.content old
      → IsPart lower_old.content new

-- a custodian's next volume is judged so, and its view is the last one
pub record IsEntered (c volume : ℕ) (verdict : Verdict) (old new : Content) : Type 0 where
  pub next : reached old.board c + 1 ≡ volume
  pub becomes : new
      ≡ with_judgement old c (record { verdict = verdict; view = last_view old.board c })

-- these are there
abbrev pub AreThere : ℕ → List ℕ → Received → Type 0
AreThere c volumes files = (v : ℕ) → Has volumes v → IsSome (map.get files (c, v))

-- each volume from 1 on that is kept of a custodian is at hand
abbrev pub HasAll : ℕ → Received → Received → Type 0
HasAll c kept now =
    (v : ℕ) → 1 ≤ v → IsSome (map.get kept (c, v)) → IsSome (map.get now (c, v))

-- as many volumes of a custodian are judged at hand as in the lower keeper
abbrev pub AsManyJudged : ℕ → Seen → Seen → Content → Type 0
AsManyJudged c lower_old lower_new now = lower_old.stands → lower_new.unharmed
    → reached now.board c ≡ reached lower_old.content.board c

-- all of a custodian was brought to hand from a keeper
pub record CopiesOf (c : ℕ) (lower_old lower_new : Seen) (old new : Content) : Type 0 where
  pub copies : Copies c lower_old lower_new old new
  pub all : lower_old.stands → lower_new.unharmed → HasAll c lower_old.content.files new.files
  pub judged : AsManyJudged c lower_old lower_new new

-- all of each of these custodians was brought to hand from a keeper
pub record CopiesAll (codes : List ℕ) (lower_old lower_new : Seen) (old new : Content)
    : Type 0 where
  pub part : lower_old.stands → lower_new.unharmed → IsPart lower_old.content old
      → IsPart lower_old.content new
  pub files : HasAllOf new.files old.files
  pub all : lower_old.stands → lower_new.unharmed → (c : ℕ) → Has codes c
      → HasAll c lower_old.content.files new.files
  pub judged : (c : ℕ) → Has codes c → AsManyJudged c lower_old lower_new new
  pub others : (c : ℕ) → ¬ Has codes c → new.board c ≡ old.board c
