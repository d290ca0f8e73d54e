-- What the phases of a judgement tell.
use Rattle.std.specs.Prelude.{◌≡◌, ◌≢◌, ◌≤◌, ℕ, List, ◌++◌, IfNone, Option, Some, None}
use Rattle.std.specs.Prelude.{Result, IfOk, OnOk, OnErr}
use Rattle.std.specs.Option.{option_map}
use Rattle.std.specs.List.{fold}
use Rattle.gaz_changefile.specs.Contents.{Contents}
use Rattle.gaz_views.specs.View.{View}
use Rattle.gaz_keeper.specs.Board.{Judgement, last_view}
use Rattle.gaz_keeper.specs.Keeper.{Content, Counts, Idle, IsAtHand, IsNotOpen, IsSound}
use Rattle.gaz_keeper.specs.Keeper.{LeavesAtMost, LeavesJust, Seen, after_abandon, with_judgement}
use Rattle.gaz_keeper.specs.Keeper.{with_working}
use Rattle.gaz_keeper.specs.declared.fault.ShelfFault.{ShelfFault}
use Rattle.gaz_views.specs.declared.verdict.Verdict.{Verdict}
use Rattle.gaz_views.specs.declared.verdict.Verdict.TheVariants.{Applied, Rejected}
use Rattle.gaz_register.specs.Registers.{Blocks}
use Rattle.gaz_views.specs.Words.{first_of}
use Rattle.gaz_end_rules.specs.Bases.{basis_views}
use Rattle.gaz_rules.specs.Judging.{Fault, end_faults, record_faults}
use Rattle.gaz_rules.specs.Rules.{effect}
use Rattle.gaz_rules.specs.declared.judging.Fault as found

-- ---- what is found

-- the answer is the first of these faults
abbrev pub IsFirst : List Fault → Option found.Fault → Type 0
IsFirst fs r = first_of fs ≡ option_map (λ f. record { place = f.place; rule = f.rule }) r

-- the first of these faults, and with none the content has this working view
pub record Finds (old new : Content) (fs : List Fault) (w : View) (r : Option found.Fault)
    : Type 0 where
  pub first : IsFirst fs r
  pub view : IfNone r (new ≡ with_working old w)

-- the faults of the records, and those of their keys in the last view
abbrev pub faults_in : ℕ → Blocks → Content → Contents → List Fault
faults_in c own k file =
    let others = basis_views k.board file.bases in
    record_faults c own others k.working file.changes
    ++ end_faults (fold effect k.working file.changes) others file.changes

-- ---- what is done

-- what is done within a judgement in progress: a fault may break it, and files and board stay
pub record Works {T : Type 0} (old new : Seen) (result : Result T ShelfFault) (IsRight : T → Type 0)
    : Type 0 where
  pub harm : new.unharmed → old.unharmed
  pub stands : old.stands → new.unharmed → new.stands
  pub right : old.stands → new.unharmed → IfOk result IsRight
  pub stay : old.stands → new.unharmed → after_abandon new.content ≡ after_abandon old.content
  pub on : OnOk result (new.progress ≡ old.progress)
  pub going : new.progress ≢ Idle
  pub counts : Counts old new result
  pub leaves : IsSound old → LeavesAtMost None old new
  pub whole : IsSound old → old.whole → new.whole

-- what a judgement in progress comes to by what was found
abbrev pub conclusion : Content → ℕ → Option found.Fault → Judgement
conclusion k c None = record { verdict = Applied; view = k.working }
conclusion k c (Some f) = record { verdict = Rejected f.place f.rule; view = last_view k.board c }

-- a custodian's judgement in progress ends in this way; after a fault it is given up
pub record Ends (old new : Seen) (result : Result Verdict ShelfFault) (c : ℕ) (j : Judgement)
    : Type 0 where
  pub harm : new.unharmed → old.unharmed
  pub stands : old.stands → IsAtHand old.content c → new.unharmed → new.stands
  pub verdict : IfOk result (λ v. v ≡ j.verdict)
  pub done : old.stands → IsAtHand old.content c → new.unharmed
      → OnOk result (new.content ≡ with_judgement old.content c j)
  pub undone : old.stands → IsAtHand old.content c → new.unharmed
      → OnErr result (new.content ≡ after_abandon old.content)
  pub idle : IsNotOpen new.progress
  pub counts : Counts old new result
  pub leaves : IsSound old → (old.unharmed → IsAtHand old.content c)
      → LeavesAtMost (Some (with_judgement old.content c j)) old new
  pub committed : IsSound old → (old.unharmed → IsAtHand old.content c)
      → OnOk result (LeavesJust (Some (with_judgement old.content c j)) old new)
  pub whole : IsSound old → (old.unharmed → IsAtHand old.content c) → old.whole → new.whole

-- a judgement in progress ends by what was found
abbrev pub Concludes : {K : Type 0} → (K → Seen) → K → K → Result Verdict ShelfFault → ℕ
    → Option found.Fault → Type 0
Concludes seen old new result c r =
    Ends (seen old) (seen new) result c (conclusion (seen old).content c r)

-- no judgement is in progress any more, and files and board stay
pub record GivesUp (old new : Seen) : Type 0 where
  pub harm : new.unharmed → old.unharmed
  pub stands : old.stands → new.unharmed → new.stands
  pub content : old.stands → new.unharmed → new.content ≡ after_abandon old.content
  pub idle : IsNotOpen new.progress
  pub counted : old.failures ≤ new.failures
  pub trust : new.trusted → old.trusted
  pub leaves : IsSound old → LeavesAtMost None old new
  pub whole : IsSound old → old.whole → new.whole
