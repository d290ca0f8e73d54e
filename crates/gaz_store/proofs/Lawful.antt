-- What is lawful stays so when a file comes and when a volume is rejected.
use Rattle.std.proofs.Common.{◌++◌, ◌==◌, ℕ, zero, suc, Bool, true, false, cond, List, [], ◌∷◌, map, slice_get}
use Rattle.std.specs.Prelude.{unwrap_or}
use Rattle.gaz_views.proofs.Lawful.{lawful_empty}
use Rattle.gaz_views.specs.Judgements.{Judgement, views}
use Rattle.gaz_views.specs.Lawful.{IsLawfulView}
use Rattle.gaz_views.specs.View.{empty_view}
use Rattle.gaz_views.specs.declared.verdict.Verdict.TheVariants.{Rejected}
use Rattle.gaz_keeper.specs.Board.{Board, adds, last_view, reached, view_after}
use Rattle.gaz_keeper.specs.Keeper.{Content, IsLawful, after_skip, with_received}

abbrev AreLawful : List Judgement → Type 0
AreLawful js = (n : ℕ) → IsLawfulView (unwrap_or (slice_get (map (λ (j : Judgement). j.view) js) n) empty_view)

one_more : (js : List Judgement) (j : Judgement) → AreLawful js → IsLawfulView j.view → AreLawful (js ++ j ∷ [])
one_more [] j all is zero = is
one_more [] j all is (suc n) = lawful_empty
one_more (k ∷ js) j all is zero = all zero
one_more (k ∷ js) j all is (suc n) = one_more js j (λ m. all (suc m)) is n

pub added_lawful : (board : Board) (c : ℕ) (j : Judgement) → ((d t : ℕ) → IsLawfulView (view_after board d t)) → IsLawfulView j.view → (d t : ℕ) → IsLawfulView (view_after (adds board c j) d t)
added_lawful board c j all is d zero = lawful_empty
added_lawful board c j all is d (suc t) = by_custodian (d == c)
  where
    by_custodian : (b : Bool) → IsLawfulView (unwrap_or (slice_get (views (cond b (board d ++ j ∷ []) (board d))) (suc t)) empty_view)
    by_custodian true = one_more (board d) j (λ n. all d (suc n)) is t
    by_custodian false = all d (suc t)

pub received_lawful : (k : Content) (c v : ℕ) (bytes : List ℕ) → IsLawful k → IsLawful (with_received k c v bytes)
received_lawful k c v bytes l = record { views = l.views; working = l.working }

pub skipped_lawful : (k : Content) (c place rule : ℕ) → IsLawful k → IsLawful (after_skip k c place rule)
skipped_lawful k c place rule l = record {
  views = added_lawful k.board c (record { verdict = Rejected place rule; view = last_view k.board c }) l.views (l.views c (reached k.board c));
  working = lawful_empty;
}
