-- Worked examples on what was received, on who is ready, and on boards.
use Rattle.std.specs.Prelude.{◌≡◌, ℕ, true, false, [], ◌∷◌, Some, None}
use Rattle.std.specs.declared.cmp.Ordering.TheVariants.{Less, Equal, Greater}
use Rattle.std.specs.FinMap as map
use Rattle.gaz_chains.specs.Chains.{IsPrefixOf}
use Rattle.gaz_changefile.specs.declared.change.Basis.{Basis}
use Rattle.gaz_changefile.specs.Reading.{Bad}
use Rattle.gaz_keeper.specs.Board.{Board, empty_board, reached}
use Rattle.gaz_views.specs.Examples.{one_street}
use Rattle.gaz_keeper.specs.Examples.{two_judged}
use Rattle.gaz_views.specs.View.{empty_view}
use Rattle.gaz_views.specs.declared.verdict.Verdict.TheVariants.{Applied, Rejected}
use Rattle.gaz_rules.specs.Examples.{file_of, insertion}
use Rattle.gaz_steps.specs.Standing.{Follows, IsPartial, Leads, NothingReady}
use Rattle.gaz_steps.specs.Standing.{StandsSettled, judge_one, next_reading, ready}
use Rattle.gaz_steps.specs.Standing.{round, rounds, standing, with_next}
use Rattle.gaz_keeper.specs.Received.{HasAllOf, pair_cmp, with_file}
use Rattle.gaz_end_rules.specs.Bases.{are_reached, basis_views}
use Rattle.gaz_rules.specs.Judging.{judged_on}
use Rattle.gaz_steps.specs.Sample.{sample_register}
use Rattle.gaz_steps.specs.Examples.{all_sent, first_sent, no_text, no_text_judged, of_1003}
use Rattle.gaz_steps.specs.Examples.{one_judged, sent, sent_by_two, three_judged}

pub record WorkedReceived : Type 0 where
  pub by_custodian : pair_cmp (1001, 9) (1002, 1) ≡ Less
  pub then_by_volume : pair_cmp (1001, 10) (1001, 9) ≡ Greater
  pub alike : pair_cmp (1001, 9) (1001, 9) ≡ Equal
  pub there : map.get sent (1003, 3) ≡ Some no_text
  pub missing : map.get sent (1003, 2) ≡ None
  pub two_files : map.len sent ≡ 2
  pub has_more : HasAllOf sent first_sent
  pub has_fewer : HasAllOf first_sent sent → ⊥
  pub has_other_bytes : HasAllOf (with_file map.empty 1003 1 []) first_sent → ⊥

-- a volume of a custodian on which a file rests
abbrev pub basis : ℕ → ℕ → Basis
basis c volume = record { custodian = c; volume = volume }

pub record WorkedReadiness : Type 0 where
  pub without_basis : are_reached empty_board [] ≡ true
  pub is_reached : are_reached one_judged (basis 1003 1 ∷ []) ≡ true
  pub is_not_reached : are_reached one_judged (basis 1003 1 ∷ basis 1003 2 ∷ []) ≡ false
  pub next_reads : next_reading sent empty_board 1003 ≡ Some (Bad 1 1)
  pub next_is_missing : next_reading sent one_judged 1003 ≡ None
  pub first_is_ready : ready sent empty_board 1003 ≡ true
  pub gap_is_not : ready sent one_judged 1003 ≡ false
  pub others_are_not : ready sent empty_board 1002 ≡ false
  pub none_after_the_last : (board : Board) → reached board 1003 ≡ 999_999
      → ready sent board 1003 ≡ false
  pub nothing_is : NothingReady sent one_judged
  pub something_is : NothingReady sent empty_board → ⊥

-- one file and one round
pub record WorkedJudging : Type 0 where
  pub bases_seen : basis_views two_judged (basis 1001 0 ∷ basis 1001 1 ∷ basis 1002 0 ∷ [])
      ≡ (1001, empty_view) ∷ (1001, one_street) ∷ (1002, empty_view) ∷ []
  pub judged_first : judged_on (sample_register 1001) empty_board 1001 (file_of (insertion ∷ []))
      ≡ record { verdict = Applied; view = one_street }
  pub judged_later : judged_on (sample_register 1001) two_judged 1001 (file_of (insertion ∷ []))
      ≡ record { verdict = Rejected 2 21; view = one_street }
  pub next_added : with_next sample_register sent empty_board 1003 ≡ no_text_judged ∷ []
  pub none_added : with_next sample_register sent one_judged 1003 ≡ no_text_judged ∷ []
  pub one_at_a_time : judge_one sample_register sent_by_two empty_board 1003 ≡ one_judged
  pub both_in_a_round : round sample_register sent_by_two empty_board 1002
      ≡ round sample_register sent_by_two empty_board 1003
  pub in_a_round : round sample_register sent_by_two empty_board 1003 ≡ no_text_judged ∷ []

-- the board after all rounds
pub record WorkedStanding : Type 0 where
  pub no_round : rounds sample_register all_sent 0 empty_board ≡ empty_board
  pub one_round : rounds sample_register all_sent 1 empty_board ≡ one_judged
  pub three_rounds : rounds sample_register all_sent 3 empty_board ≡ three_judged
  pub without_files : standing sample_register map.empty ≡ empty_board
  pub up_to_the_gap : standing sample_register sent ≡ one_judged
  pub without_gap : standing sample_register all_sent ≡ three_judged
  pub goes_on_with_more : IsPrefixOf (standing sample_register sent 1003)
      (standing sample_register all_sent 1003)
  pub is_settled : StandsSettled sample_register sent

-- which boards lead to which
pub record WorkedOrders : Type 0 where
  pub one_leads : Leads sample_register sent empty_board (1003 ∷ []) one_judged
  pub none_leads : Leads sample_register sent one_judged [] one_judged
  pub never_over_a_gap : (board : Board)
      → Leads sample_register sent empty_board (1003 ∷ 1003 ∷ []) board → ⊥
  pub never_of_another : (board : Board) → Leads sample_register sent empty_board (1002 ∷ []) board
      → ⊥
  pub never_by_itself : Leads sample_register sent empty_board [] one_judged → ⊥
  pub goes_on : Follows sample_register all_sent one_judged three_judged
  pub never_back : Follows sample_register all_sent three_judged one_judged → ⊥
  pub partial : IsPartial sample_register all_sent one_judged
  pub never_unreceived : IsPartial sample_register sent three_judged → ⊥
  pub never_otherwise : IsPartial sample_register sent
      (of_1003 (record { verdict = Applied; view = empty_view } ∷ [])) → ⊥
  pub begins : IsPrefixOf {X = ℕ} (1 ∷ []) (1 ∷ 2 ∷ [])
  pub begins_with_another : IsPrefixOf {X = ℕ} (2 ∷ []) (1 ∷ 2 ∷ []) → ⊥
  pub is_longer : IsPrefixOf {X = ℕ} (1 ∷ 2 ∷ []) (1 ∷ []) → ⊥

pub record WorkedBoards : Type 0 where
  pub on_received : WorkedReceived
  pub on_readiness : WorkedReadiness
  pub on_judging : WorkedJudging
  pub on_standing : WorkedStanding
  pub on_orders : WorkedOrders
