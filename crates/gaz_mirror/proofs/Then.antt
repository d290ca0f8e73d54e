-- What two calls tell, one after the other.
use Rattle.std.proofs.Common.{◌≡◌, ◌≤◌, ◌<◌, ◌∙◌, ℕ, ap, arith, le_trans}
use Rattle.std.specs.Prelude.{⊤, None, Result, Ok, Err, IfErr}
use Rattle.gaz_views.proofs.Outcomes.{on_err, on_ok}
use Rattle.gaz_keeper.specs.Keeper.{Content, Goes, IsSound, Progress, Seen, after_abandon}
use Rattle.gaz_keeper.specs.declared.fault.ShelfFault.{ShelfFault}
use Rattle.gaz_keeper.specs.declared.fault.ShelfFault.TheVariants.{Store}

pub further : {T : Type 0} (r : Result T ShelfFault) (m n k : ℕ) → m ≤ n → IfErr r (λ e. e ≡ Store → n < k) → IfErr r (λ e. e ≡ Store → m < k)
further (Ok x) m n k le f = tt
further (Err e) m n k le f = λ is. let lt : n < k = f is in omega arith

-- a call after one that went well; what the second makes of a content and a progress it makes of those that the first led to
module _ {T : Type 0} (a b d : Seen) (r : Result T ShelfFault) (asked : Type 0) (w : Content) (p : Progress) (f : Progress → Content → Content) (after : Progress → Progress)
    (first : Goes {T = Unit {0}} a b (Ok tt) asked w None p) (undoes : after_abandon w ≡ after_abandon a.content) where
  went : a.stands → asked → b.unharmed → f b.progress b.content ≡ f p w
  went stood met fine = ap (λ q. f q b.content) first.on ∙ ap (f p) (first.done stood met fine)

  sound : IsSound a → (a.unharmed → asked) → IsSound b
  sound whole met fine = first.stands (whole (first.harm fine)) (met (first.harm fine)) fine

  -- that leaves nothing more
  pub goes_then : Goes b d r ⊤ (f b.progress b.content) None (after b.progress) → Goes a d r asked (f p w) None (after p)
  goes_then second = record {
    harm = λ fine. first.harm (second.harm fine);
    stands = λ stood met fine. second.stands (first.stands stood met (second.harm fine)) tt fine;
    done = λ stood met fine. on_ok r (λ e. e ∙ went stood met (second.harm fine)) (second.done (first.stands stood met (second.harm fine)) tt fine);
    undone = λ stood met fine. on_err r (λ e. e ∙ ap after_abandon (first.done stood met (second.harm fine)) ∙ undoes) (second.undone (first.stands stood met (second.harm fine)) tt fine);
    on = on_ok r (λ e. e ∙ ap after first.on) second.on;
    broken = second.broken;
    counts = record {
      kept = le_trans first.counts.kept second.counts.kept;
      store = further r a.failures b.failures d.failures first.counts.kept second.counts.store;
      trust = λ t. first.counts.trust (second.counts.trust t);
    };
    leaves = λ whole met k l. first.leaves whole met k (second.leaves (sound whole met) (λ _. tt) k l);
    whole = λ whole met all. second.whole (sound whole met) (λ _. tt) (first.whole whole met all);
    committed = λ whole met. on_ok r (λ _. tt) (second.committed (sound whole met) (λ _. tt));
  }
