-- The worked examples of boards with a file that is applied, and with one that rests on it.
use Rattle.std.proofs.Common.{◌≡◌, ℕ, true, false, cond, List, [], ◌∷◌, refl, sym, ap, ◌∙◌, subst, eqb, eqb-true}
use Rattle.std.proofs.Math.Path.{fun_ext}
use Rattle.std.specs.Prelude.{Some, None}
use Rattle.std.specs.FinMap as map
use Rattle.std.specs.Str.{chars, is_utf8}
use Rattle.csv.proofs.OnLiterals.{csv_on_literals}
use Rattle.csv.specs.Records.{field_at}
use Rattle.gaz_changefile.specs.Contents.{contents_of}
use Rattle.gaz_changefile.specs.Reading.{reading}
use Rattle.gaz_changefile.specs.Rules.{basis_rules, change_rules, header_rules, later_rules, rules_at, trailer_rules}
use Rattle.gaz_ids.specs.Numbers.{read_id}
use Rattle.gaz_fields.specs.Days.{date_of}
use Rattle.gaz_fields.specs.Forms.{says}
use Rattle.gaz_records.specs.Streets.{read_street}
use Rattle.gaz_end_rules.proofs.Worked.{views}
use Rattle.gaz_rules.specs.Examples.{file_of, insertion}
use Rattle.gaz_rules.specs.Judging.{judge, judged_on}
use Rattle.gaz_keeper.proofs.Pairs.{pairs_total}
use Rattle.gaz_keeper.specs.Board.{Board, empty_board}
use Rattle.gaz_keeper.specs.Received.{Received, pair_cmp, with_file}
use Rattle.gaz_steps.specs.Sample.{sample_register}
use Rattle.gaz_steps.specs.Standing.{IsPartial, NothingReady, judge_one, ready, with_next}
use Rattle.gaz_steps.specs.WorkedBases.{WorkedBases, both_board, both_sent, resting_file, resting_judged, resting_sent, resting_text, street_board, street_judged, street_text}
use Rattle.gaz_steps.proofs.Examples.{no_files, not_of}
use Rattle.gaz_steps.proofs.Leading.{follows_itself, partial_one}
use Rattle.gaz_steps.proofs.Orders.{any_order_holds}

-- ---- what was sent, and how it reads

street_reads : reading street_text 1001 1 ≡ file_of (insertion ∷ [])
unfolding street_text reading is_utf8 chars csv_on_literals field_at read_id date_of says read_street contents_of basis_rules change_rules header_rules later_rules rules_at trailer_rules lib.Utf8.encode
street_reads = refl

resting_reads : reading resting_text 1002 1 ≡ resting_file
unfolding resting_text reading is_utf8 chars csv_on_literals field_at read_id date_of says contents_of basis_rules change_rules header_rules later_rules rules_at trailer_rules lib.Utf8.encode
resting_reads = refl

entries_alone : map.entries resting_sent ≡ ((1002, 1), resting_text) ∷ []
entries_alone = map.entries-insert pairs_total map.empty (1002, 1) resting_text ∙ rw no_files refl

entries_both : map.entries both_sent ≡ ((1001, 1), street_text) ∷ ((1002, 1), resting_text) ∷ []
entries_both = map.entries-insert pairs_total resting_sent (1001, 1) street_text ∙ rw entries_alone refl

get_alone : (p : ℕ × ℕ) → map.get resting_sent p ≡ map.find pair_cmp p (((1002, 1), resting_text) ∷ [])
get_alone p = map.get-entries resting_sent p ∙ rw entries_alone refl

get_both : (p : ℕ × ℕ) → map.get both_sent p ≡ map.find pair_cmp p (((1001, 1), street_text) ∷ ((1002, 1), resting_text) ∷ [])
get_both p = map.get-entries both_sent p ∙ rw entries_both refl

-- a file of another custodian changes nothing here
others_with : (F : Received) (d w : ℕ) (bytes : List ℕ) (c v : ℕ) → eqb c d ≡ false → map.get F (c, v) ≡ None → map.get (with_file F d w bytes) (c, v) ≡ None
others_with F d w bytes c v other none =
    map.get-insert pairs_total F (d, w) bytes (c, v) ∙ ap (λ b. cond b (Some bytes) (map.get F (c, v))) (not_of c v d w other) ∙ none

others_alone : (c v : ℕ) → eqb c 1002 ≡ false → map.get resting_sent (c, v) ≡ None
others_alone c v other = others_with map.empty 1002 1 resting_text c v other (map.get-empty pair_cmp (c, v))

others_both : (c v : ℕ) → eqb c 1001 ≡ false → eqb c 1002 ≡ false → map.get both_sent (c, v) ≡ None
others_both c v upper lower = others_with resting_sent 1001 1 street_text c v upper (others_alone c v lower)

-- ---- judging

judged_street : judged_on (sample_register 1001) empty_board 1001 (file_of (insertion ∷ [])) ≡ street_judged
unfolding judge
judged_street = simp views

judged_resting : judged_on (sample_register 1002) street_board 1002 resting_file ≡ resting_judged
unfolding judge
judged_resting = refl

next_street : with_next sample_register both_sent empty_board 1001 ≡ street_judged ∷ []
next_street = rw (get_both (1001, 1), street_reads) (ap (λ j. j ∷ []) judged_street)

next_resting : with_next sample_register both_sent street_board 1002 ≡ resting_judged ∷ []
next_resting = rw (get_both (1002, 1), resting_reads) (ap (λ j. j ∷ []) judged_resting)

-- the board that a judgement leads to
judge_as : (F : Received) (B C : Board) (c : ℕ) → with_next sample_register F B c ≡ C c → ((d : ℕ) → eqb d c ≡ false → B d ≡ C d) → judge_one sample_register F B c ≡ C
judge_as F B C c at others =
    fun_ext (λ d. elim (eqb d c) as (λ b. eqb d c ≡ b → cond b (with_next sample_register F B d) (B d) ≡ C d) [
      | true ↦ λ e. subst (λ k. with_next sample_register F B k ≡ C k) (sym (eqb-true d c e)) at
      | false ↦ λ e. others d e
    ] refl)

street_is_judged : judge_one sample_register both_sent empty_board 1001 ≡ street_board
street_is_judged = judge_as both_sent empty_board street_board 1001 next_street (λ d other. sym (ap (λ b. cond b (street_judged ∷ []) []) other))

then_the_other : judge_one sample_register both_sent street_board 1002 ≡ both_board
then_the_other =
    judge_as both_sent street_board both_board 1002 next_resting
    (λ d other. sym (ap (λ b. cond (eqb d 1001) (street_judged ∷ []) (cond b (resting_judged ∷ []) [])) other))

-- ---- who is ready

street_ready : ready both_sent empty_board 1001 ≡ true
street_ready = rw (get_both (1001, 1), street_reads) refl

resting_ready : ready both_sent street_board 1002 ≡ true
resting_ready = rw (get_both (1002, 1), resting_reads) refl

closed_alone : NothingReady resting_sent empty_board
closed_alone c =
    elim (eqb c 1002) as (λ b. eqb c 1002 ≡ b → ready resting_sent empty_board c ≡ false) [
      | true ↦ λ e. subst (λ k. ready resting_sent empty_board k ≡ false) (sym (eqb-true c 1002 e)) (rw (get_alone (1002, 1), resting_reads) refl)
      | false ↦ λ other. rw (others_alone c 1 other) refl
    ] refl

closed_others : (c : ℕ) → eqb c 1001 ≡ false → ready both_sent both_board c ≡ false
closed_others c upper =
    elim (eqb c 1002) as (λ b. eqb c 1002 ≡ b → ready both_sent both_board c ≡ false) [
      | true ↦ λ e. subst (λ k. ready both_sent both_board k ≡ false) (sym (eqb-true c 1002 e)) (rw (get_both (1002, 2)) refl)
      | false ↦ λ lower. rw (upper, lower, others_both c 1 upper lower) refl
    ] refl

closed_both : NothingReady both_sent both_board
closed_both c =
    elim (eqb c 1001) as (λ b. eqb c 1001 ≡ b → ready both_sent both_board c ≡ false) [
      | true ↦ λ e. subst (λ k. ready both_sent both_board k ≡ false) (sym (eqb-true c 1001 e)) (rw (get_both (1001, 2)) refl)
      | false ↦ λ upper. closed_others c upper
    ] refl

-- ---- the standing boards

begins : (F : Received) → IsPartial sample_register F empty_board
begins F = follows_itself sample_register F empty_board empty_board refl

partial_both : IsPartial sample_register both_sent both_board
partial_both =
    let first = subst (IsPartial sample_register both_sent) street_is_judged (partial_one sample_register both_sent empty_board 1001 street_ready (begins both_sent)) in
    subst (IsPartial sample_register both_sent) then_the_other (partial_one sample_register both_sent street_board 1002 resting_ready first)

pub worked_bases_hold : WorkedBases
worked_bases_hold = record {
  street_reads = street_reads;
  resting_reads = resting_reads;
  waits_for_its_basis = rw (get_both (1002, 1), resting_reads) refl;
  names_its_basis = rw (get_both (1002, 1), resting_reads) refl;
  is_ready_then = resting_ready;
  waits_for_nothing_then = rw (get_both (1002, 1), resting_reads) refl;
  street_is_judged = street_is_judged;
  then_the_other = then_the_other;
  both_stand = sym (any_order_holds sample_register both_sent both_board partial_both closed_both);
  alone_it_is_held = sym (any_order_holds sample_register resting_sent empty_board (begins resting_sent) closed_alone);
  told_held = rw (get_alone (1002, 1), resting_reads) refl;
  told_applied = refl;
}
