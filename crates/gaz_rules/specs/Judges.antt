-- What a judgement over a keeper tells.
use Rattle.std.specs.Prelude.{◌≡◌, ℕ, true, List, Result, Some, IfOk, OnOk, OnErr}
use Rattle.gaz_changefile.specs.declared.change.Basis.{Basis}
use Rattle.gaz_keeper.specs.Board.{Judgement}
use Rattle.gaz_keeper.specs.Keeper.{Content, Counts, IsAtHand, IsNotOpen, IsSound, LeavesAtMost}
use Rattle.gaz_keeper.specs.Keeper.{LeavesJust, Seen, after_abandon, with_judgement}
use Rattle.gaz_keeper.specs.declared.fault.ShelfFault.{ShelfFault}
use Rattle.gaz_views.specs.declared.verdict.Verdict.{Verdict}
use Rattle.gaz_changefile.specs.Contents.{Contents}
use Rattle.gaz_changefile.specs.Reading.{Good}
use Rattle.gaz_register.specs.Registers.{Blocks}
use Rattle.gaz_end_rules.specs.Bases.{are_reached}
use Rattle.gaz_rules.specs.Judging.{judged_on}

-- what is asked of the content: the next volume is at hand, and all that it rests on is reached
pub record IsReady (k : Content) (c : ℕ) (bases : List Basis) : Type 0 where
  pub at_hand : IsAtHand k c
  pub reached : are_reached k.board bases ≡ true

-- a custodian's next file is judged: the verdict is this one, and just it and its view are added; a
-- fault leaves files and board as they were; a stop leaves what it could before or the content with
-- the judgement, and after an Ok only that
pub record Judges (old new : Seen) (result : Result Verdict ShelfFault) (c : ℕ) (bases : List Basis)
    (j : Judgement) : Type 0 where
  pub harm : new.unharmed → old.unharmed
  pub stands : old.stands → IsReady old.content c bases → new.unharmed → new.stands
  pub verdict : old.stands → IsReady old.content c bases → new.unharmed
      → IfOk result (λ v. v ≡ j.verdict)
  pub done : old.stands → IsReady old.content c bases → new.unharmed
      → OnOk result (new.content ≡ with_judgement old.content c j)
  pub undone : old.stands → IsReady old.content c bases → new.unharmed
      → OnErr result (new.content ≡ after_abandon old.content)
  pub idle : IsNotOpen new.progress
  pub counts : Counts old new result
  pub leaves : IsSound old → (old.unharmed → IsReady old.content c bases)
      → LeavesAtMost (Some (with_judgement old.content c j)) old new
  pub committed : IsSound old → (old.unharmed → IsReady old.content c bases)
      → OnOk result (LeavesJust (Some (with_judgement old.content c j)) old new)
  pub whole : IsSound old → (old.unharmed → IsReady old.content c bases) → old.whole → new.whole

-- a good file is judged, under the rules of the custodian with these blocks; `seen` is how the
-- keeper is seen
abbrev pub JudgesFile : {K : Type 0} → (K → Seen) → K → K → Result Verdict ShelfFault → Blocks → ℕ
    → Contents → Type 0
JudgesFile seen old new result own c file =
    Judges (seen old) (seen new) result c file.bases
    (judged_on own (seen old).content.board c (Good file))
