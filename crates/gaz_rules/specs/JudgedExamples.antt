-- Worked examples of judgements, computed from the definitions.
use Rattle.std.specs.Prelude.{◌≡◌, ℕ, ◌==◌, true, false, if◌then◌else◌, List, [], ◌∷◌, fold, None}
use Rattle.std.specs.Prelude.{Some, codes}
use Rattle.gaz_ids.specs.declared.lang.Lang.TheVariants.{Eng}
use Rattle.gaz_ids.specs.declared.status.Status.TheVariants.{Approved, Provisional}
use Rattle.gaz_records.specs.declared.item.Item.{Item}
use Rattle.gaz_records.specs.declared.key.Key.TheVariants as key
use Rattle.gaz_changefile.specs.Reading.{Reading, Good, Bad}
use Rattle.gaz_changefile.specs.declared.action.Action.{Action}
use Rattle.gaz_changefile.specs.declared.action.Action.TheVariants.{Insert, Update, Delete}
use Rattle.gaz_changefile.specs.declared.change.Change.{Change}
use Rattle.gaz_keeper.specs.Board.{Board, Judgement}
use Rattle.gaz_views.specs.Examples.{blpu, council_tax, lpi, name, one_street, street}
use Rattle.gaz_views.specs.CustodyExamples.{alone}
use Rattle.gaz_views.specs.View.{View, empty_view, with_adoption, with_item, with_release}
use Rattle.gaz_views.specs.View.{without_key}
use Rattle.gaz_views.specs.declared.verdict.Verdict.TheVariants.{Applied, Rejected}
use Rattle.gaz_rules.specs.Rules.{effect}
use Rattle.gaz_end_rules.specs.Bases.{are_reached}
use Rattle.gaz_rules.specs.Judging.{bases_of, judge, judged_on}
use Rattle.gaz_rules.specs.CustodyExamples.{WorkedPassing, adoption, gives, release, with_1001}
use Rattle.gaz_rules.specs.CustodyExamples.{with_500}
use Rattle.gaz_rules.specs.Examples.{WorkedKinds, WorkedRecordRules, WorkedTexts, again, file_of}
use Rattle.gaz_rules.specs.Examples.{insertion, own}
use Rattle.gaz_end_rules.specs.EndExamples.{WorkedEndRules, address, away, closed_street}
use Rattle.gaz_end_rules.specs.EndExamples.{closed_there, home, of_custodian, open_there, view_of}

abbrev pub change : ℕ → Action → Item → Change
change place action item = record { place = place; action = action; item = item }

-- the file with these changes leaves the view after them all
abbrev pub applies : View → List Change → Type 0
applies v changes =
    judge 1001 own v [] (file_of changes)
    ≡ record { verdict = Applied; view = fold effect v changes }

-- it is rejected at this record with this rule, and nothing of it stays
abbrev pub rejects : View → List Change → ℕ → ℕ → Type 0
rejects v changes place rule =
    judge 1001 own v [] (file_of changes) ≡ record { verdict = Rejected place rule; view = v }

abbrev pub one_name : View
one_name = with_item one_street (name 101 Eng)

-- what becomes of a file
pub record WorkedFiles : Type 0 where
  pub bad : judge 1001 own one_street [] (Bad 3 8)
      ≡ record { verdict = Rejected 3 8; view = one_street }
  pub empty : judge 1001 own one_street [] (file_of [])
      ≡ record { verdict = Applied; view = one_street }
  pub inserted : judge 1001 own empty_view [] (file_of (insertion ∷ []))
      ≡ record { verdict = Applied; view = one_street }
  pub updated : judge 1001 own one_street [] (file_of (change 2 Update (closed_street 101) ∷ []))
      ≡ record { verdict = Applied; view = with_item one_street (closed_street 101) }
  pub deleted : judge 1001 own one_name [] (file_of (change 2 Delete (name 101 Eng) ∷ []))
      ≡ record { verdict = Applied; view = without_key one_name (key.Descriptor 101 Eng) }

-- at a record that doesn't fit
pub record WorkedRecordFaults : Type 0 where
  pub at_second : rejects empty_view (insertion ∷ again ∷ []) 3 21
  pub at_first : rejects one_street (insertion ∷ again ∷ []) 2 21
  pub taken_and_back : rejects one_name
      (change 2 Delete (name 101 Eng) ∷ change 3 Insert (name 101 Eng) ∷ []) 3 21
  pub taken_and_changed : rejects one_name
      (change 2 Delete (name 101 Eng) ∷ change 3 Update (name 101 Eng) ∷ []) 3 22

-- a cross reference to property 1001, and a part of it
abbrev pub reference : Item
reference = council_tax (codes "X1") 1001

abbrev pub part : Item
part = blpu 1002 (Some 1001)

-- at a key that breaks an end rule
pub record WorkedEndFaults : Type 0 where
  pub at_second : rejects empty_view (insertion ∷ change 3 Insert reference ∷ []) 3 31
  pub mended_later : applies empty_view
      (change 2 Insert reference ∷ change 3 Insert (blpu 1001 None) ∷ [])
  pub least_rule : rejects empty_view (change 2 Insert (address (codes "L1") Approved) ∷ []) 2 31
  pub least_record : rejects empty_view (change 2 Insert part ∷ change 3 Insert reference ∷ []) 2 35
  pub records_first : rejects empty_view
      (change 2 Insert reference ∷ change 3 Insert (street 99) ∷ []) 3 20
  pub key_not_cause : rejects (view_of home)
      (change 2 Insert (address (codes "L2") Provisional)
      ∷ change 3 Update (address (codes "L2") Approved) ∷ []) 2 30
  pub replaced : applies (view_of home)
      (change 2 Update (address (codes "L1") Provisional)
      ∷ change 3 Insert (address (codes "L2") Approved) ∷ [])
  pub untouched_address : rejects (view_of home) (change 2 Update (closed_street 101) ∷ []) 2 39

-- a property that is given up
pub record WorkedGivingUp : Type 0 where
  pub alone : applies with_1001 (change 2 Insert (release 1001 1) ∷ [])
  pub with_its_address : rejects (view_of home) (change 2 Insert (release 1001 1) ∷ []) 2 31
  pub after_its_address : applies (view_of home)
      (change 2 Delete (address (codes "L1") Approved) ∷ change 3 Insert (release 1001 1) ∷ [])
  pub before_its_address : applies (view_of home)
      (change 2 Insert (release 1001 1) ∷ change 3 Delete (address (codes "L1") Approved) ∷ [])
  pub with_a_part : rejects (with_item with_1001 part) (change 2 Insert (release 1001 1) ∷ []) 2 35
  pub twice : rejects with_1001
      (change 2 Insert (release 1001 1) ∷ change 3 Insert (release 1001 2) ∷ []) 3 20
  pub and_changed : rejects with_1001
      (change 2 Insert (release 1001 1) ∷ change 3 Update (blpu 1001 None) ∷ []) 3 20

-- property 500 taken by a file that rests on its release at the first hop
abbrev pub judged_taking : List Change → Judgement
judged_taking changes = judge 1001 own empty_view (gives 1001 1 ∷ []) (file_of changes)

pub record WorkedTaking : Type 0 where
  pub alone : judged_taking (change 3 Insert (adoption 1) ∷ [])
      ≡ record { verdict = Applied; view = with_500 1 }
  pub twice : judged_taking (change 3 Insert (adoption 1) ∷ change 4 Insert (adoption 1) ∷ [])
      ≡ record { verdict = Rejected 4 42; view = empty_view }
  pub and_given_back : judged_taking
      (change 3 Insert (adoption 1) ∷ change 4 Insert (release 500 2) ∷ [])
      ≡ record { verdict = Applied; view = with_release (with_500 1) 500 1002 2 }
  pub and_changed : judged_taking
      (change 3 Insert (adoption 1) ∷ change 4 Update (blpu 500 None) ∷ [])
      ≡ record { verdict = Applied; view = with_item (with_500 1) (blpu 500 None) }

-- on an address whose street is another custodian's
abbrev pub judged_away : List (ℕ × View) → Judgement
judged_away others =
    judge 1001 own (view_of (blpu 1001 None ∷ [])) others
    (file_of (change 2 Insert (lpi (codes "L1") 1001 Eng Approved 201) ∷ []))

pub record WorkedForeign : Type 0 where
  pub no_basis : judged_away []
      ≡ record { verdict = Rejected 2 32; view = view_of (blpu 1001 None ∷ []) }
  pub open_at_it : judged_away (of_custodian 1002 open_there ∷ [])
      ≡ record { verdict = Applied; view = view_of away }
  pub closed_at_it : judged_away (of_custodian 1002 closed_there ∷ [])
      ≡ record { verdict = Rejected 2 33; view = view_of (blpu 1001 None ∷ []) }
  pub unnamed_at_it : judged_away (of_custodian 1002 (street 201 ∷ []) ∷ [])
      ≡ record { verdict = Rejected 2 34; view = view_of (blpu 1001 None ∷ []) }

-- street 201 of custodian 1002 is open after its volume 1, and closed after its volume 2
abbrev pub two_volumes : Board
two_volumes = λ c. if c == 1002
    then record { verdict = Applied; view = view_of open_there }
    ∷ record { verdict = Applied; view = view_of closed_there } ∷ []
    else []

-- a file with an address on it, which rests on one of them
abbrev pub resting_on : ℕ → Reading
resting_on volume = Good (record {
  date = record { year = 2024; month = 1; day = 2 };
  bases = record { custodian = 1002; volume = volume } ∷ [];
  changes = change 3 Insert (blpu 1001 None)
      ∷ change 4 Insert (lpi (codes "L1") 1001 Eng Approved 201) ∷ [];
})

-- on the views of a board, each after the named volume
pub record WorkedBoards : Type 0 where
  pub reached : are_reached two_volumes (bases_of (resting_on 2)) ≡ true
  pub not_reached : are_reached two_volumes (bases_of (resting_on 3)) ≡ false
  pub open_at_volume : judged_on own two_volumes 1001 (resting_on 1)
      ≡ record { verdict = Applied; view = view_of away }
  pub closed_at_volume : judged_on own two_volumes 1001 (resting_on 2)
      ≡ record { verdict = Rejected 4 33; view = empty_view }

-- property 500 is given up to 1001 after volume 1 of custodian 1002, and taken back after volume 2
abbrev pub given_and_taken_back : Board
given_and_taken_back = λ c. if c == 1002
    then record { verdict = Applied; view = (gives 1001 1).1 }
    ∷ record { verdict = Applied; view = with_adoption (gives 1001 1).1 alone 1001 2 } ∷ []
    else []

-- a file that takes it, and rests on one of them
abbrev pub taking_on : ℕ → Reading
taking_on volume = Good (record {
  date = record { year = 2025; month = 1; day = 3 };
  bases = record { custodian = 1002; volume = volume } ∷ [];
  changes = change 3 Insert (adoption 1) ∷ [];
})

-- a release is looked for in the view after the named volume, and not in the newest
pub record WorkedReleasedBoards : Type 0 where
  pub at_volume : judged_on own given_and_taken_back 1001 (taking_on 1)
      ≡ record { verdict = Applied; view = with_500 1 }
  pub at_later_volume : judged_on own given_and_taken_back 1001 (taking_on 2)
      ≡ record { verdict = Rejected 3 41; view = empty_view }

pub record WorkedExamples : Type 0 where
  pub on_record_rules : WorkedRecordRules
  pub on_kinds : WorkedKinds
  pub on_texts : WorkedTexts
  pub on_passing : WorkedPassing
  pub on_end_rules : WorkedEndRules
  pub on_files : WorkedFiles
  pub on_record_faults : WorkedRecordFaults
  pub on_end_faults : WorkedEndFaults
  pub on_giving_up : WorkedGivingUp
  pub on_taking : WorkedTaking
  pub on_foreign : WorkedForeign
  pub on_boards : WorkedBoards
  pub on_released_boards : WorkedReleasedBoards
