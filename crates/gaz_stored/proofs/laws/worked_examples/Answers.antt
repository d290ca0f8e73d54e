-- What the definitions come to on worked examples.
use Rattle.std.proofs.Common.{◌≡◌, [], None, Some, codes, inl, inr, refl, sym, ap, subst}
use Rattle.std.specs.FinMap as map
use Rattle.std.specs.Fmt.{digits}
use Rattle.gaz_row_items.specs.Examples.{four_rows}
use Rattle.gaz_kept.proofs.Examples.{worked_examples_hold}
use Rattle.gaz_kept.specs.Contents.{board_in}
use Rattle.gaz_kept.specs.Examples.{six_files}
use Rattle.gaz_kept.specs.Files.{files_in}
use Rattle.gaz_keeper.proofs.Pairs.{pairs_total}
use Rattle.gaz_keeper.specs.Board.{Board, reached, verdict_on}
use Rattle.gaz_tables.proofs.Four.{received_tree, version2_tree}
use Rattle.gaz_tables.specs.Schema.{received, version2}
use Rattle.gaz_tables.specs.Tables.{rows_of}
use Rattle.gaz_views.specs.declared.verdict.Verdict.TheVariants.{Rejected}
use Rattle.gaz_stored.specs.Examples.{WorkedAnnouncing, worked_database, worked_hub}
use Rattle.gaz_stored.proofs.laws.worked_examples.Goals as goal

its_files : rows_of worked_database received ≡ six_files
its_files = ap worked_database.trees received_tree

its_rows : rows_of worked_database version2 ≡ four_rows
its_rows = ap worked_database.trees version2_tree

-- what is so of the board of these rows is so of its board
on_its_board : (P : Board → Type 0) → P (board_in six_files four_rows) → P worked_hub.board
on_its_board P h = subst (λ files. P (board_in files (rows_of worked_database version2))) (sym its_files) (subst (λ rows. P (board_in six_files rows)) (sym its_rows) h)

announced : WorkedAnnouncing
unfolding digits
announced = record {
  line = refl;
  says = refl;
  nowhere = λ it. it;
  no_port = (refl, refl);
  not_silent = λ e. absurd (cc);
  had_port = λ it. let e = it.0 in absurd (cc);
  no_hub = refl;
  told_too_soon = λ e. absurd (cc);
}

pub returns : goal.returns
returns c = record {
  on_hubs = record {
    nothing_yet = map.get-from_entries pairs_total [] (1001, 1);
    held = subst (λ files. map.get (files_in files) (1001, 6) ≡ Some (codes "sixth")) (sym its_files) worked_examples_hold.on_files.there;
    not_received = subst (λ files. map.get (files_in files) (1001, 5) ≡ None) (sym its_files) worked_examples_hold.on_files.not_there;
    reached = on_its_board (λ board. reached board 1001 ≡ 4) worked_examples_hold.on_boards.reached;
    rejected = on_its_board (λ board. verdict_on board 1001 3 ≡ Some (Rejected 5 21)) worked_examples_hold.on_boards.verdict;
  };
  on_openings = record {
    opens = inl refl;
    fails = inr refl;
    no_store = λ h. elim h [ inl is ↦ absurd (cc) | inr is ↦ absurd (cc) ];
    another = λ h. elim h [ inl is ↦ absurd (cc) | inr is ↦ absurd (cc) ];
  };
  on_ways = record {
    at_once = λ said. (refl, record { still = refl; unasked = refl; untold = refl });
    one_asked = λ said it. let e = it.1.unasked in absurd (cc);
    none_asked = λ said it. let e = it.asked in absurd (cc);
    nobody = (refl, record { still = refl; unasked = refl; untold = refl });
    somebody = λ it. let e = it.0 in absurd (cc);
  };
  on_announcing = announced;
}
