-- Worked examples of what becomes of a number in files, and of who is asked for it.
use Rattle.std.specs.Prelude.{◌≡◌, ◌==◌, [], ◌∷◌, ◌++◌, Some, None, if◌then◌else◌}
use Rattle.gaz_changefile.specs.Reading.{Bad}
use Rattle.gaz_changefile.specs.declared.change.Change.{Change}
use Rattle.gaz_changefile.specs.declared.action.Action.TheVariants.{Insert}
use Rattle.gaz_extract.specs.Examples.{property}
use Rattle.gaz_keeper.specs.Board.{Board, Judgement}
use Rattle.gaz_keeper.specs.Received.{Received}
use Rattle.gaz_records.specs.declared.item.Item.{Item}
use Rattle.gaz_records.specs.declared.item.Item.TheVariants as item
use Rattle.gaz_rules.specs.Examples.{file_of}
use Rattle.gaz_views.specs.View.{empty_view, with_adoption, with_release}
use Rattle.gaz_views.specs.declared.custody.Custody.TheVariants.{Adopted, Released}
use Rattle.gaz_views.specs.declared.verdict.Verdict.TheVariants.{Applied, Rejected}
use Rattle.gaz_rules.specs.Passing.{made_of}
use Rattle.gaz_steps.specs.Chains.{holder_from}
use Rattle.gaz_steps.specs.Became.{became, made_in, reading_at}

abbrev pub release : Item
release = item.Release (record { uprn = 42; to = 1002; hop = 1 })

abbrev pub adoption : Item
adoption = item.Adopt (record { blpu = property 42 None; from = 1001; hop = 1 })

abbrev change : Item → Change
change i = record { place = 2; action = Insert; item = i }

-- 1001 released the number, and 1002 adopted it or not
abbrev pub released : Judgement
released = record { verdict = Applied; view = with_release empty_view 42 1002 1 }

abbrev pub adopted : Judgement
adopted = record { verdict = Applied; view = with_adoption empty_view (property 42 None) 1001 1 }

abbrev pub offered : Board
offered = λ c. if c == 1001 then released ∷ [] else []

abbrev pub gone_over : Board
gone_over = λ c. if c == 1001 then released ∷ [] else (if c == 1002 then adopted ∷ [] else [])

-- 1001 has a rejected file, and behind it one that was applied
abbrev pub second_applied : Board
second_applied = λ c. if c == 1001
    then record { verdict = Rejected 2 20; view = empty_view } ∷ released ∷ [] else []

pub record WorkedChains : Type 0 where
  pub of_a_release : made_of 42 release ≡ Some (Released 1002 1)
  pub of_another_number : made_of 43 release ≡ None
  pub of_an_adoption : made_of 42 adoption ≡ Some (Adopted 1001 1)
  pub of_a_property : made_of 42 (item.Blpu (property 42 None)) ≡ None
  pub in_an_applied_file : made_in 42 (Some (file_of (change release ∷ []))) Applied
      ≡ Released 1002 1 ∷ []
  pub in_a_rejected_file : made_in 42 (Some (file_of (change release ∷ []))) (Rejected 2 20) ≡ []
  pub in_a_bad_file : made_in 42 (Some (Bad 2 6)) (Rejected 2 6) ≡ []
  pub in_no_file : made_in 42 None Applied ≡ []
  -- each judgement is of the file of its own volume, from 1 on
  pub volume_by_volume : (files : Received) → became files second_applied 42 1001
      ≡ made_in 42 (reading_at files 1001 1) (Rejected 2 20)
      ++ (made_in 42 (reading_at files 1001 2) Applied ++ [])
  pub of_another_custodian : (files : Received) → became files second_applied 42 1002 ≡ []
  pub nothing_became : holder_from (λ c. []) 42 1001 ≡ Some 1001
  pub while_offered : holder_from offered 42 1001 ≡ None
  pub once_adopted : holder_from gone_over 42 1001 ≡ Some 1002
