-- What is written over any keeper, where `seen` is how it is seen.
use Rattle.std.specs.Prelude.{ℕ, List, Option, None, Some, Result, fold}
use Rattle.gaz_records.specs.declared.item.Item.{Item}
use Rattle.gaz_views.specs.View.{View, with_item}
use Rattle.gaz_views.specs.declared.verdict.Verdict.TheVariants.{Applied}
use Rattle.gaz_keeper.specs.Board.{last_view}
use Rattle.gaz_keeper.specs.Keeper.{Content, Goes, Idle, IsAtHand, Seen, Sets, after_abandon}
use Rattle.gaz_keeper.specs.Keeper.{with_judgement}
use Rattle.gaz_keeper.specs.declared.fault.ShelfFault.{ShelfFault}
use Rattle.gaz_samples.specs.declared.writing.Conclusion.{Conclusion}
use Rattle.gaz_samples.specs.declared.writing.Conclusion.TheVariants.{Keep, Abandon}

-- how a judgement is to end
abbrev pub ended : Conclusion → Content → ℕ → View → Content
ended Keep k c w = with_judgement k c (record { verdict = Applied; view = w })
ended Abandon k c w = after_abandon k

-- what ending a judgement so commits
abbrev pub committed_by : Conclusion → Content → Option Content
committed_by Keep becomes = Some becomes
committed_by Abandon becomes = None

-- items set one after another on a custodian's last view, and the judgement ended
abbrev pub written : Content → ℕ → List Item → Conclusion → Content
written k c items ending = ended ending k c (fold with_item (last_view k.board c) items)

abbrev pub PutsAll : {K T : Type 0} → (K → Seen) → K → K → Result T ShelfFault → List Item → Type 0
PutsAll seen old new result items =
    Sets (seen old) (seen new) result (fold with_item (seen old).content.working items)

abbrev pub Writes : {K T : Type 0} → (K → Seen) → K → K → Result T ShelfFault → ℕ → List Item
    → Conclusion → Type 0
Writes seen old new result c items ending =
    Goes (seen old) (seen new) result (IsAtHand (seen old).content c)
    (written (seen old).content c items ending)
    (committed_by ending (written (seen old).content c items ending)) Idle
