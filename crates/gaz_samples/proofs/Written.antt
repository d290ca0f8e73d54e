-- A judgement that begins, sets items and is kept.
use Rattle.std.proofs.Common.{◌≡◌, ◌≤◌, ◌<◌, ℕ, ap, ◌∙◌, arith, inl, inr, le_trans}
use Rattle.std.specs.Prelude.{◌⊎◌, ⊤, List, None, Some, Result, Ok, Err, IfErr, fold}
use Rattle.gaz_records.specs.declared.item.Item.{Item}
use Rattle.gaz_views.specs.View.{with_item}
use Rattle.gaz_views.proofs.Outcomes.{on_err, on_ok}
use Rattle.gaz_keeper.specs.Keeper.{Content, Goes, Idle, IsAtHand, IsSound, Open, Seen, after_abandon, after_begin, after_keep, after_stop, with_working}
use Rattle.gaz_samples.specs.Writing.{written}
use Rattle.gaz_keeper.specs.declared.fault.ShelfFault.{ShelfFault}
use Rattle.gaz_keeper.specs.declared.fault.ShelfFault.TheVariants.{Store}
use Rattle.gaz_samples.specs.declared.writing.Conclusion.TheVariants.{Keep}

further : {T : Type 0} (r : Result T ShelfFault) (m n k : ℕ) → m ≤ n → IfErr r (λ e. e ≡ Store → n < k) → IfErr r (λ e. e ≡ Store → m < k)
further (Ok x) m n k le f = tt
further (Err e) m n k le f = λ is. let lt : n < k = f is in omega arith

module _ (a b c d : Seen) (code : ℕ) (items : List Item) (r : Result (Unit {0}) ShelfFault)
    (begins : Goes {T = Unit {0}} a b (Ok tt) (IsAtHand a.content code) (after_begin a.content code) None (Open code))
    (puts : Goes {T = Unit {0}} b c (Ok tt) ⊤ (with_working b.content (fold with_item b.content.working items)) None b.progress)
    (keeps : Goes c d r ⊤ (after_keep c.progress c.content) (Some (after_keep c.progress c.content)) Idle) where
  put_stands : a.stands → IsAtHand a.content code → c.unharmed → c.stands
  put_stands stood met fine = puts.stands (begins.stands stood met (puts.harm fine)) tt fine

  put_content : a.stands → IsAtHand a.content code → c.unharmed → c.content ≡ with_working (after_begin a.content code) (fold with_item (after_begin a.content code).working items)
  put_content stood met fine =
      puts.done (begins.stands stood met (puts.harm fine)) tt fine
      ∙ ap (λ k. with_working k (fold with_item k.working items)) (begins.done stood met (puts.harm fine))

  same : a.stands → IsAtHand a.content code → c.unharmed → after_keep c.progress c.content ≡ written a.content code items Keep
  same stood met fine =
      ap (λ p. after_keep p c.content) (puts.on ∙ begins.on) ∙ ap (after_keep (Open code)) (put_content stood met fine)

  begun : IsSound a → (a.unharmed → IsAtHand a.content code) → IsSound b
  begun sound met fine = begins.stands (sound (begins.harm fine)) (met (begins.harm fine)) fine

  set : IsSound a → (a.unharmed → IsAtHand a.content code) → IsSound c
  set sound met fine = puts.stands (begun sound met (puts.harm fine)) tt fine

  -- what is kept
  is_written : IsSound a → (a.unharmed → IsAtHand a.content code) → (k : Content) → c.unharmed × (k ≡ after_stop (after_keep c.progress c.content))
      → a.unharmed × (k ≡ after_stop (written a.content code items Keep))
  is_written sound met k new =
      let fine = begins.harm (puts.harm new.0) in
      (fine, new.1 ∙ ap after_stop (same (sound fine) (met fine) new.0))

  left : IsSound a → (a.unharmed → IsAtHand a.content code) → (k : Content) → d.leaves k → a.leaves k ⊎ (a.unharmed × (k ≡ after_stop (written a.content code items Keep)))
  left sound met k l = by_cases (keeps.leaves (set sound met) (λ _. tt) k l)
    where
      by_cases : c.leaves k ⊎ (c.unharmed × (k ≡ after_stop (after_keep c.progress c.content))) → a.leaves k ⊎ (a.unharmed × (k ≡ after_stop (written a.content code items Keep)))
      by_cases (inl old) = inl (begins.leaves sound met k (puts.leaves (begun sound met) (λ _. tt) k old))
      by_cases (inr new) = inr (is_written sound met k new)

  pub writes : Goes a d r (IsAtHand a.content code) (written a.content code items Keep) (Some (written a.content code items Keep)) Idle
  writes = record {
    harm = λ fine. begins.harm (puts.harm (keeps.harm fine));
    stands = λ stood met fine. keeps.stands (put_stands stood met (keeps.harm fine)) tt fine;
    done = λ stood met fine. on_ok r (λ e. e ∙ same stood met (keeps.harm fine)) (keeps.done (put_stands stood met (keeps.harm fine)) tt fine);
    undone = λ stood met fine. on_err r (λ e. e ∙ ap after_abandon (put_content stood met (keeps.harm fine))) (keeps.undone (put_stands stood met (keeps.harm fine)) tt fine);
    on = keeps.on;
    broken = keeps.broken;
    counts = record {
      kept = le_trans (le_trans begins.counts.kept puts.counts.kept) keeps.counts.kept;
      store = further r a.failures c.failures d.failures (le_trans begins.counts.kept puts.counts.kept) keeps.counts.store;
      trust = λ t. begins.counts.trust (puts.counts.trust (keeps.counts.trust t));
    };
    leaves = left;
    whole = λ sound met all. keeps.whole (set sound met) (λ _. tt) (puts.whole (begun sound met) (λ _. tt) (begins.whole sound met all));
    committed = λ sound met. on_ok r (λ just k l. is_written sound met k (just k l)) (keeps.committed (set sound met) (λ _. tt));
  }
