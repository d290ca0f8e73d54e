-- What comes of peers, on worked examples.
use Rattle.std.proofs.Common.{◌≤◌, ℕ, List, length, length-append, arith, refl, subst, sym, true≢false}
use Rattle.gaz_keeper.specs.Keeper.{Seen}
use Rattle.gaz_steps.specs.Step.{Command, Response}
use Rattle.gaz_hub.specs.declared.hub.Hub.{Hub}
use Rattle.gaz_stored.specs.Meetings.{Meeting}
use Rattle.gaz_stored.specs.Serving.{InTurn, Next, Nobody, Rested, Talked, TalksOrRests}
use Rattle.gaz_stored.proofs.laws.worked_meetings.Goals as goal

module _ {K : Type 0} (seen : K → Seen) (most : ℕ) where
  one_at : (mid new : Hub K) (more : List Meeting) → TalksOrRests seen most mid new more → 1 ≤ length more
  one_at mid new more (Talked talk) = subst (λ ms. 1 ≤ length ms) (sym talk.met_is) (omega arith)
  one_at mid new more (Rested still missed) = subst (λ ms. 1 ≤ length ms) (sym missed) (omega arith)

  fewest : (old : Hub K) (served : ℕ) (hub : Hub K) (met : List Meeting) (commands : List Command) (responses : List Response) → InTurn seen most old served hub met commands responses → served ≤ length met
  fewest old served hub met commands responses Nobody = omega arith
  fewest old served hub met commands responses (Next before mid new first more asked told behind turn) =
      let below = fewest old before mid first asked told behind in
      let one = one_at mid new more turn in
      let all = length-append first more in
      omega (arith, below, one, all)

pub returns : goal.returns
returns g c = record {
  comes = (_, refl, (_, refl, refl));
  nobody = refl;
  gone = λ it. absurd (let first = it.1 in let second = it.2.1 in let last = it.2.2 in cc);
  there = refl;
  missed = refl;
  whole = (refl, tt);
  broken = λ it. absurd (true≢false (sym it.0));
  fewest = λ most served old new met serves. fewest g.K.Shelf.seen most old served new met serves.commands serves.responses serves.in_turn;
}
