-- What the calls of a keeper may tell, on worked examples, computed from the definitions.
use Rattle.std.specs.Prelude.{◌≡◌, ◌≤◌, ◌-◌, ◌^◌, ◌==◌, ⊤, ℕ, true, [], Result, Ok, Err}
use Rattle.std.proofs.Common.{eqb-true, le_of_eq, subst, sym}
use Rattle.gaz_views.specs.Examples.{one_street, street}
use Rattle.gaz_keeper.specs.Examples.{first_received}
use Rattle.gaz_keeper.specs.Keeper.{Broken, Content, Idle, IsLawful, Open, Progress, Refuses, Seen}
use Rattle.gaz_keeper.specs.Keeper.{after_stop, empty_content, with_working}
use Rattle.gaz_keeper.specs.Telling.{Abandons, Puts, Receives, TellsReached}
use Rattle.gaz_keeper.specs.declared.fault.ShelfFault.{ShelfFault}
use Rattle.gaz_keeper.specs.declared.fault.ShelfFault.TheVariants.{Memory, Store}

-- a small keeper: what it keeps, whether a judgement is in progress, and how often it failed
pub record Small : Type 0 where
  pub content : Content
  pub progress : Progress
  pub failures : ℕ

abbrev pub small : Content → Progress → ℕ → Small
small k progress failures = record { content = k; progress = progress; failures = failures }

pub full_small : (failures : ℕ) → (failures == 2 ^ 64 - 1) ≡ true → 2 ^ 64 - 1 ≤ failures
full_small failures full = le_of_eq (sym (eqb-true failures (2 ^ 64 - 1) full))

-- it stands for its content, nobody else writes on it, and a stop leaves all but the judgement
abbrev pub seen : Small → Seen
seen s = record {
  content = s.content;
  stands = IsLawful s.content;
  lawful = λ stands. stands;
  trusted = ⊤;
  unharmed = ⊤;
  progress = s.progress;
  failures = s.failures;
  is_full = s.failures == 2 ^ 64 - 1;
  full = full_small s.failures;
  leaves = λ left. left ≡ after_stop s.content;
  whole = IsLawful (after_stop s.content);
  left_lawful = λ lawful left is. subst IsLawful (sym is) lawful;
}

-- what a call answers that says just that it was done, and what one that says how many volumes are
-- judged
abbrev pub ok : Result ⊤ ShelfFault
ok = Ok tt

abbrev pub fault : ShelfFault → Result ⊤ ShelfFault
fault why = Err why

abbrev pub count : ℕ → Result ℕ ShelfFault
count n = Ok n

abbrev pub no_count : ShelfFault → Result ℕ ShelfFault
no_count why = Err why

-- 1001 is being judged, and nothing was put so far; or street 101 was
abbrev pub begun : Small
begun = small empty_content (Open 1001) 0

abbrev pub with_street : Content
with_street = with_working empty_content one_street

-- no judgement is in progress, or a call of one failed, and that was the failure of this number
abbrev pub resting : ℕ → Small
resting failures = small empty_content Idle failures

abbrev pub broken : ℕ → Small
broken failures = small empty_content Broken failures

-- a call of a judgement: an Ok says that the working view is as asked, and a fault breaks the
-- judgement, undoes it and is counted if it is the store's
pub record WorkedGoing : Type 0 where
  pub put : Puts seen begun (small with_street (Open 1001) 0) ok (street 101)
  pub put_nothing : ¬ Puts seen begun begun ok (street 101)
  pub put_another : ¬ Puts seen begun (small with_street (Open 1001) 0) ok (street 102)
  pub ended : ¬ Puts seen begun (small with_street Idle 0) ok (street 101)
  pub failed : Puts seen begun (broken 1) (fault Store) (street 101)
  pub no_memory : Puts seen begun (broken 0) (fault Memory) (street 101)
  pub not_counted : ¬ Puts seen begun (broken 0) (fault Store) (street 101)
  pub stays_open : ¬ Puts seen begun (small empty_content (Open 1001) 1) (fault Store) (street 101)
  pub put_yet : ¬ Puts seen begun (small with_street Broken 1) (fault Store) (street 101)
  pub forgotten : ¬ Puts seen (small empty_content (Open 1001) 1) (broken 0) (fault Memory)
      (street 101)
  pub given_up : Abandons seen (small with_street (Open 1001) 0) (resting 0) ok
  pub not_given_up : ¬ Abandons seen (small with_street (Open 1001) 0) (small with_street Idle 0)
      ok

-- a change of a broken judgement is refused by a failure of the store, as long as it can be counted
pub record WorkedRefusals : Type 0 where
  pub refused : Refuses (seen (broken 1)) (fault Store)
  pub as_memory : ¬ Refuses (seen (broken 1)) (fault Memory)
  pub done : ¬ Refuses (seen (broken 1)) ok
  pub at_last : Refuses (seen (broken (2 ^ 64 - 1))) (fault Memory)
  pub beyond : ¬ Refuses (seen (broken (2 ^ 64 - 1))) (fault Store)
  pub not_broken : Refuses (seen begun) ok

-- a call that reads: its answer is right, nothing else becomes of the content, and after an Ok no
-- judgement is broken
pub record WorkedReads : Type 0 where
  pub told : TellsReached seen begun begun (count 0) 1001
  pub one_more : ¬ TellsReached seen begun begun (count 1) 1001
  pub written : ¬ TellsReached seen begun (small with_street (Open 1001) 0) (count 0) 1001
  pub ended : ¬ TellsReached seen begun (resting 0) (count 0) 1001
  pub cleared : TellsReached seen (broken 1) (resting 1) (count 0) 1001
  pub stays_broken : ¬ TellsReached seen (broken 1) (broken 1) (count 0) 1001
  pub failed : TellsReached seen (broken 1) (broken 2) (no_count Store) 1001
  pub not_counted : ¬ TellsReached seen (broken 1) (broken 1) (no_count Store) 1001

-- a call outside a judgement: after an Ok the file is there, and after a fault it isn't
pub record WorkedEntries : Type 0 where
  pub received : Receives seen (resting 0) (small first_received Idle 0) ok 1001 1 []
  pub not_there : ¬ Receives seen (resting 0) (resting 0) ok 1001 1 []
  pub failed : Receives seen (resting 0) (resting 1) (fault Store) 1001 1 []
  pub there_yet : ¬ Receives seen (resting 0) (small first_received Idle 1) (fault Store) 1001 1 []
  pub stays_broken : ¬ Receives seen (broken 1) (small first_received Broken 1) ok 1001 1 []

pub record WorkedCalls : Type 0 where
  pub going : WorkedGoing
  pub refusals : WorkedRefusals
  pub reads : WorkedReads
  pub entries : WorkedEntries
