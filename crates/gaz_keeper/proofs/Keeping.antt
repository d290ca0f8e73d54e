-- What two calls after each other tell.
use Rattle.std.proofs.Common.{◌≡◌, ℕ, refl, ap, ◌∙◌, subst, cond, eq-eqb}
use Rattle.gaz_keeper.specs.Board.{last_view}
use Rattle.gaz_keeper.specs.Keeper.{Idle, IsLeft, Keeps, Open, Broken, Progress, Seen, view_of, viewed}

left_then : (p q r : Progress) → IsLeft p q → IsLeft q r → IsLeft p r
left_then Idle q r a b = subst (λ x. IsLeft x r) a b
left_then (Open c) q r a b = subst (λ x. IsLeft x r) a b
left_then Broken Idle r a b = λ d e. cc
left_then Broken (Open c) r a b = absurd (a c refl)
left_then Broken Broken r a b = b

pub keeps_then : (a b c : Seen) → Keeps a b → Keeps b c → Keeps a c
keeps_then a b c first second =
    record {
      harm = λ fine. first.harm (second.harm fine);
      stands = λ stood fine. second.stands (first.stands stood (second.harm fine)) fine;
      content = λ stood fine. second.content (first.stands stood (second.harm fine)) fine ∙ first.content stood (second.harm fine);
      progress = left_then a.progress b.progress c.progress first.progress second.progress;
      leaves = λ sound k left. first.leaves sound k (second.leaves (λ fine. first.stands (sound (first.harm fine)) fine) k left);
      whole = λ sound whole. second.whole (λ fine. first.stands (sound (first.harm fine)) fine) (first.whole sound whole);
    }

left_itself : (p : Progress) → IsLeft p p
left_itself Idle = refl
left_itself (Open c) = refl
left_itself Broken = λ c e. cc

-- where the keeper isn't called
pub keeps_itself : (a : Seen) → Keeps a a
keeps_itself a = record { harm = λ fine. fine; stands = λ stood _. stood; content = λ _ _. refl; progress = left_itself a.progress; leaves = λ _ k left. left; whole = λ _ whole. whole }

pub still_open : (a b : Seen) (c : ℕ) → Keeps a b → a.progress ≡ Open c → b.progress ≡ Open c
still_open a b c k e = subst (λ p. IsLeft p b.progress) e k.progress

pub view_open : (s : Seen) (c : ℕ) → s.progress ≡ Open c → view_of s c ≡ s.content.working
view_open s c e = ap (λ p. viewed p s.content c) e ∙ ap (λ b. cond b s.content.working (last_view s.content.board c)) (eq-eqb c c refl)
