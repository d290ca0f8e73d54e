-- Worked examples, computed from the definitions.
use Rattle.std.specs.Prelude.{◌≡◌, ◌≤◌, ◌-◌, ◌^◌, ◌==◌, true, false, [], ◌∷◌, if◌then◌else◌}
use Rattle.std.specs.Prelude.{Some, None}
use Rattle.std.proofs.Common.{subst, sym}
use Rattle.std.specs.FinMap as map
use Rattle.gaz_records.specs.declared.item.Item.TheVariants as item
use Rattle.gaz_records.specs.declared.key.Key.TheVariants as key
use Rattle.gaz_views.specs.CustodyExamples.{alone}
use Rattle.gaz_views.specs.Examples.{no_more, one_street}
use Rattle.gaz_views.specs.View.{custody_at, empty_view, was_used, with_adoption, with_release}
use Rattle.gaz_views.specs.declared.custody.Custody.TheVariants.{Adopted, Released}
use Rattle.gaz_views.specs.declared.verdict.Verdict.TheVariants.{Applied, Rejected}
use Rattle.gaz_keeper.specs.Board.{Board, empty_board, last_view, reached, verdict_on, view_after}
use Rattle.gaz_keeper.specs.Keeper.{Broken, Content, Idle, IsLawful, LeavesAtMost, LeavesJust}
use Rattle.gaz_keeper.specs.Keeper.{LeavesOnly, Open}
use Rattle.gaz_keeper.specs.Keeper.{Seen, after_abandon, after_keep, after_skip, after_stop}
use Rattle.gaz_keeper.specs.Keeper.{empty_content, with_received, with_working}
use Rattle.gaz_keeper.specs.Received.{Received, count_above, with_file}

-- custodian 1001 has applied volume 1, and its volume 2 was rejected
abbrev pub two_judged : Board
two_judged = λ c. if c == 1001
    then record { verdict = Applied; view = one_street }
    ∷ record { verdict = Rejected 2 21; view = one_street } ∷ []
    else []

-- how far custodians are judged, and their verdicts and views there
pub record WorkedBoards : Type 0 where
  pub two_reached : reached two_judged 1001 ≡ 2
  pub none_reached : reached two_judged 1002 ≡ 0
  pub nowhere_reached : reached empty_board 1001 ≡ 0
  pub at_first : view_after two_judged 1001 0 ≡ empty_view
  pub after_1 : view_after two_judged 1001 1 ≡ one_street
  pub after_2 : view_after two_judged 1001 2 ≡ one_street
  pub of_another : view_after two_judged 1002 0 ≡ empty_view
  pub on_none : verdict_on two_judged 1001 0 ≡ None
  pub on_1 : verdict_on two_judged 1001 1 ≡ Some Applied
  pub on_2 : verdict_on two_judged 1001 2 ≡ Some (Rejected 2 21)
  pub on_3 : verdict_on two_judged 1001 3 ≡ None
  pub on_another : verdict_on two_judged 1002 1 ≡ None

-- 1001 is being judged, and street 101 was taken so far
abbrev pub third_judged : Content
third_judged = record { files = map.empty; board = two_judged; working = no_more }

-- it is applied
abbrev pub third_kept : Content
third_kept = after_keep (Open 1001) third_judged

-- or it is rejected at record 4 by rule 22
abbrev pub third_skipped : Content
third_skipped = after_skip third_judged 1001 4 22

-- the first volume of 1002 is rejected
abbrev pub first_skipped : Content
first_skipped = after_skip third_judged 1002 1 2

pub record WorkedContents : Type 0 where
  pub kept_verdict : verdict_on third_kept.board 1001 3 ≡ Some Applied
  pub kept_view : last_view third_kept.board 1001 ≡ no_more
  pub kept_earlier : view_after third_kept.board 1001 2 ≡ one_street
  pub kept_alone : reached third_kept.board 1002 ≡ 0
  pub kept_closed : third_kept.working ≡ empty_view
  pub kept_idle : after_keep Idle third_judged ≡ third_judged
  pub kept_broken : after_keep Broken third_judged ≡ third_judged
  pub skipped_verdict : verdict_on third_skipped.board 1001 3 ≡ Some (Rejected 4 22)
  pub skipped_view : last_view third_skipped.board 1001 ≡ one_street
  pub skipped_earlier : verdict_on third_skipped.board 1001 2 ≡ Some (Rejected 2 21)
  pub skipped_alone : reached third_skipped.board 1002 ≡ 0
  pub first_verdict : verdict_on first_skipped.board 1002 1 ≡ Some (Rejected 1 2)
  pub first_view : last_view first_skipped.board 1002 ≡ empty_view

-- 1001, which is being judged, has released number 500 to 1002, or adopted it from there
abbrev pub third_releases : Content
third_releases = with_working third_judged (with_release third_judged.working 500 1002 1)

abbrev pub third_adopts : Content
third_adopts = with_working third_judged (with_adoption third_judged.working alone 1002 2)

-- and the volume is applied
abbrev pub release_kept : Content
release_kept = after_keep (Open 1001) third_releases

abbrev pub adoption_kept : Content
adoption_kept = after_keep (Open 1001) third_adopts

pub record WorkedPassing : Type 0 where
  pub released : custody_at third_releases.working 500 ≡ Some (Released 1002 1)
  pub others_stay : custody_at third_releases.working 501 ≡ None
  pub used : was_used third_releases.working (key.Blpu 500) ≡ true
  pub not_kept_yet : custody_at (last_view third_releases.board 1001) 500 ≡ None
  pub kept : custody_at (last_view release_kept.board 1001) 500 ≡ Some (Released 1002 1)
  pub not_earlier : custody_at (view_after release_kept.board 1001 2) 500 ≡ None
  pub not_of_another : custody_at (last_view release_kept.board 1002) 500 ≡ None
  pub skipped : custody_at (last_view third_skipped.board 1001) 500 ≡ None
  pub adopted : custody_at third_adopts.working 500 ≡ Some (Adopted 1002 2)
  pub stands : map.get third_adopts.working.items (key.Blpu 500) ≡ Some (item.Blpu alone)
  pub adoption_stays : custody_at (last_view adoption_kept.board 1001) 500 ≡ Some (Adopted 1002 2)
  pub given_up : custody_at (after_abandon third_adopts).working 500 ≡ None

-- the volumes 1 and 3 of 1001 were received, and the volume 2 of 1002
abbrev pub three_files : Received
three_files = with_file (with_file (with_file map.empty 1001 3 []) 1002 2 []) 1001 1 []

pub record WorkedFiles : Type 0 where
  pub above_none : count_above three_files 1001 0 ≡ 2
  pub above_1 : count_above three_files 1001 1 ≡ 1
  pub above_3 : count_above three_files 1001 3 ≡ 0
  pub of_another : count_above three_files 1002 1 ≡ 1
  pub of_none : count_above three_files 1003 0 ≡ 0

pub not_full : false ≡ true → 2 ^ 64 - 1 ≤ 0
not_full is = absurd (cc)

-- a keeper of this content that a stop leaves as it is
abbrev pub kept_safe : Content → Seen
kept_safe k = record {
  content = k;
  stands = IsLawful k;
  lawful = λ stands. stands;
  trusted = Unit {0};
  unharmed = Unit {0};
  progress = Idle;
  failures = 0;
  is_full = false;
  full = not_full;
  leaves = λ left. left ≡ after_stop k;
  whole = IsLawful (after_stop k);
  left_lawful = λ lawful left is. subst IsLawful (sym is) lawful;
}

-- volume 1 of 1001 was received, and nothing else
abbrev pub first_received : Content
first_received = with_received empty_content 1001 1 []

-- what a stop may leave of a file that was received
pub record WorkedStops : Type 0 where
  pub read : LeavesAtMost None (kept_safe empty_content) (kept_safe empty_content)
  pub received : LeavesAtMost (Some first_received) (kept_safe empty_content)
      (kept_safe first_received)
  pub refused : LeavesAtMost (Some first_received) (kept_safe empty_content)
      (kept_safe empty_content)
  pub committed : LeavesJust (Some first_received) (kept_safe empty_content)
      (kept_safe first_received)
  pub lost : ¬ LeavesJust (Some first_received) (kept_safe empty_content) (kept_safe empty_content)
  pub alone : LeavesOnly first_received (kept_safe first_received)
  pub read_more : ¬ LeavesAtMost None (kept_safe empty_content) (kept_safe first_received)

pub record WorkedExamples : Type 0 where
  pub on_boards : WorkedBoards
  pub on_contents : WorkedContents
  pub on_passing : WorkedPassing
  pub on_files : WorkedFiles
  pub on_stops : WorkedStops
