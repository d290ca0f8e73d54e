-- A custodian's numbers stay its own.
use Rattle.std.proofs.Common.{◌≡◌, ℕ, true, List, sym, ◌∙◌}
use Rattle.std.specs.Prelude.{Some, fold}
use Rattle.gaz_changefile.specs.Reading.{Reading, Good, Bad}
use Rattle.gaz_records.specs.declared.key.Key.TheVariants as key
use Rattle.gaz_register.proofs.Ownership.{one-owner}
use Rattle.gaz_register.specs.Registers.{Blocks, IsRegister, Owners, RegisterValue, blocks_of, within}
use Rattle.gaz_views.specs.View.{View, empty_view}
use Rattle.gaz_keeper.specs.Board.{Board, adds, last_view, reached}
use Rattle.gaz_rules.specs.Rules.{effect}
use Rattle.gaz_end_rules.specs.Bases.{basis_views}
use Rattle.gaz_rules.specs.Judging.{bases_of, end_faults, judge, judged_on, record_faults}
use Rattle.gaz_rules.specs.Sound.{AllHoldOwn, HoldsOwn}
use Rattle.gaz_rules.specs.Laws.{OwnNumbersStay}
use Rattle.gaz_rules.proofs.Judged.{all_kept, both_empty, stays_or_same}
use Rattle.gaz_rules.proofs.SoundBoards.{on_empty_board, on_more, unheld}
use Rattle.gaz_end_rules.proofs.Booleans.{no_false}

empty_own : (own : Blocks) → HoldsOwn own empty_view
empty_own own uprn h = no_false _ h (unheld (key.Blpu uprn))

own_after_file : (c : ℕ) (own : Blocks) (v : View) (out : List (ℕ × View)) (r : Reading) → HoldsOwn own v → HoldsOwn own (judge c own v out r).view
unfolding judge
own_after_file c own v out (Bad place rule) was = was
own_after_file c own v out (Good file) was =
    let cs = file.changes in
    let w = fold effect v cs in
    stays_or_same (HoldsOwn own) v w _ was (λ none.
    let parts = both_empty (record_faults c own out v cs) (end_faults w out cs) none in
    (all_kept c own out v cs parts.0).own_blpus was)

own_after_judgement : (own : Owners) (B : Board) (c : ℕ) (r : Reading) → AllHoldOwn own B → AllHoldOwn own (adds B c (judged_on (own c) B c r))
own_after_judgement own B c r all =
    on_more (λ d. HoldsOwn (own d)) (λ d. empty_own (own d)) B c (judged_on (own c) B c r) all
    (own_after_file c (own c) (last_view B c) (basis_views B (bases_of r)) r (all c (reached B c)))

one_allotted_holds : (register : RegisterValue) (c d uprn : ℕ) → IsRegister register
    → within (blocks_of register c).uprn uprn ≡ true → within (blocks_of register d).uprn uprn ≡ true → c ≡ d
one_allotted_holds register c d uprn is mine its =
    let a = (one-owner register is c uprn).0.0 mine in
    let b = (one-owner register is d uprn).0.0 its in
    let same : Some c ≡ Some d = sym a ∙ b in cc

pub own_numbers_stay_holds : OwnNumbersStay
own_numbers_stay_holds =
    record {
      empty = empty_own;
      after_file = own_after_file;
      of_no_file = λ own. on_empty_board (λ c. HoldsOwn (own c)) (λ c. empty_own (own c));
      after_judgement = own_after_judgement;
      one_allotted = one_allotted_holds;
    }
