-- What the calls of a keeper may tell, on the worked examples.
use Rattle.std.proofs.Common.{◌≡◌, ◌∙◌, inl, inr, ℕ, zero, suc, Bool, [], arith, refl, sym, ap, is_some, le_refl, lt_irrefl}
use Rattle.std.specs.Prelude.{false, true, None}
use Rattle.std.specs.FinMap as finite
use Rattle.gaz_records.proofs.KeyOrder.{keys_total}
use Rattle.gaz_records.specs.declared.key.Key.TheVariants as key
use Rattle.gaz_views.proofs.Emptiness.{get_none}
use Rattle.gaz_views.proofs.Examples.{get_one}
use Rattle.gaz_views.proofs.Lawful.{lawful_empty, lawful_put}
use Rattle.gaz_views.specs.Examples.{one_street, street}
use Rattle.gaz_views.specs.View.{View, empty_view, with_item}
use Rattle.gaz_keeper.proofs.Pairs.{pairs_total}
use Rattle.gaz_keeper.specs.Examples.{first_received}
use Rattle.gaz_keeper.specs.Keeper.{Content, IsLawful, empty_content}
use Rattle.gaz_keeper.specs.Received.{pair_cmp}
use Rattle.gaz_keeper.specs.WorkedCalls.{WorkedCalls, WorkedEntries, WorkedGoing, WorkedReads, WorkedRefusals, with_street}

lawful : IsLawful empty_content
lawful = record { views = λ c. elim [ zero ↦ lawful_empty | suc n ↦ lawful_empty ]; working = lawful_empty }

lawful_street : IsLawful with_street
lawful_street = record { views = lawful.views; working = lawful_put empty_view (street 101) refl lawful_empty }

no_file : finite.get empty_content.files (1001, 1) ≡ None
no_file = finite.get-empty pair_cmp (1001, 1)

-- a file tells contents apart
not_received : ¬ (empty_content ≡ first_received)
not_received same =
    let none : is_some (finite.get empty_content.files (1001, 1)) ≡ false = ap is_some no_file in
    let there : is_some (finite.get first_received.files (1001, 1)) ≡ true = ap is_some (finite.get-insert pairs_total empty_content.files (1001, 1) [] (1001, 1)) in
    let clash : false ≡ true = sym none ∙ ap (λ (k : Content). is_some (finite.get k.files (1001, 1))) same ∙ there in
    absurd (cc)

-- and so does a street in the working view
abbrev has : ℕ → View → Bool
has usrn v = is_some (finite.get v.items (key.Street usrn))

not_put : ¬ (empty_view ≡ one_street)
not_put same = let clash : false ≡ true = sym (ap is_some (get_none (key.Street 101))) ∙ ap (has 101) same ∙ ap is_some (get_one (key.Street 101)) in absurd (cc)

not_another : ¬ (one_street ≡ with_item empty_view (street 102))
not_another same = let clash : false ≡ true = sym (ap is_some (get_one (key.Street 102))) ∙ ap (has 102) same ∙ ap is_some (finite.get-insert keys_total empty_view.items (key.Street 102) (street 102) (key.Street 102)) in absurd (cc)

working : {k l : Content} → k ≡ l → k.working ≡ l.working
working same = ap (λ (k : Content). k.working) same

pub worked_calls_hold : WorkedCalls
worked_calls_hold = record { going = going; refusals = refusals; reads = reads; entries = entries }
  where
    going : WorkedGoing
    going = record {
      put = record {
        harm = λ u. u;
        stands = λ l _ _. record { views = l.views; working = lawful_put empty_view (street 101) refl lawful_empty };
        done = λ _ _ _. refl;
        undone = λ _ _ _. tt;
        on = refl;
        broken = tt;
        counts = record { kept = le_refl 0; store = tt; trust = λ t. t };
        leaves = λ _ _ k left. left;
        whole = λ _ _ w. w;
        committed = λ _ _. tt;
      };
      put_nothing = λ p. not_put (working (p.done lawful tt tt));
      put_another = λ p. not_another (working (p.done lawful tt tt));
      ended = λ p. cc (p.on);
      failed = record {
        harm = λ u. u;
        stands = λ l _ _. l;
        done = λ _ _ _. tt;
        undone = λ _ _ _. refl;
        on = tt;
        broken = refl;
        counts = record { kept = omega arith; store = λ _. omega arith; trust = λ t. t };
        leaves = λ _ _ k left. left;
        whole = λ _ _ w. w;
        committed = λ _ _. tt;
      };
      no_memory = record {
        harm = λ u. u;
        stands = λ l _ _. l;
        done = λ _ _ _. tt;
        undone = λ _ _ _. refl;
        on = tt;
        broken = refl;
        counts = record { kept = le_refl 0; store = λ is. absurd (cc is); trust = λ t. t };
        leaves = λ _ _ k left. left;
        whole = λ _ _ w. w;
        committed = λ _ _. tt;
      };
      not_counted = λ p. lt_irrefl 0 (p.counts.store refl);
      stays_open = λ p. cc (p.broken);
      put_yet = λ p. not_put (sym (working (p.undone lawful tt tt)));
      forgotten = λ p. omega (arith, p.counts.kept);
      given_up = record {
        harm = λ u. u;
        stands = λ l _ _. record { views = l.views; working = lawful_empty };
        done = λ _ _ _. refl;
        undone = λ _ _ _. tt;
        on = refl;
        broken = tt;
        counts = record { kept = le_refl 0; store = tt; trust = λ t. t };
        leaves = λ _ _ k left. left;
        whole = λ _ _ w. w;
        committed = λ _ _. tt;
      };
      not_given_up = λ p. not_put (sym (working (p.done lawful_street tt tt)));
    }

    refusals : WorkedRefusals
    refusals = record {
      refused = λ _. refl;
      as_memory = λ p. cc (p refl);
      done = λ p. cc (p refl);
      at_last = λ _. refl;
      beyond = λ p. cc (p refl);
      not_broken = λ is. absurd (cc is);
    }

    reads : WorkedReads
    reads = record {
      told = record {
        keeps = record { harm = λ u. u; stands = λ l _. l; content = λ _ _. refl; progress = refl; leaves = λ _ k left. left; whole = λ _ w. w };
        right = λ _ _. refl;
        cleared = λ is. absurd (cc is);
        counts = record { kept = le_refl 0; store = tt; trust = λ t. t };
      };
      one_more = λ p. omega (arith, p.right lawful tt);
      written = λ p. not_put (sym (working (p.keeps.content lawful tt)));
      ended = λ p. cc (p.keeps.progress);
      cleared = record {
        keeps = record { harm = λ u. u; stands = λ l _. l; content = λ _ _. refl; progress = λ c is. absurd (cc is); leaves = λ _ k left. left; whole = λ _ w. w };
        right = λ _ _. refl;
        cleared = λ is. absurd (cc is);
        counts = record { kept = le_refl 1; store = tt; trust = λ t. t };
      };
      stays_broken = λ p. p.cleared refl;
      failed = record {
        keeps = record { harm = λ u. u; stands = λ l _. l; content = λ _ _. refl; progress = λ c is. absurd (cc is); leaves = λ _ k left. left; whole = λ _ w. w };
        right = λ _ _. tt;
        cleared = tt;
        counts = record { kept = omega arith; store = λ _. omega arith; trust = λ t. t };
      };
      not_counted = λ p. lt_irrefl 1 (p.counts.store refl);
    }

    entries : WorkedEntries
    entries = record {
      received = record {
        harm = λ u. u;
        stands = λ l _ _. record { views = l.views; working = l.working };
        done = λ _ _ _. refl;
        undone = λ _ _ _. tt;
        progress = refl;
        cleared = λ is. absurd (cc is);
        counts = record { kept = le_refl 0; store = tt; trust = λ t. t };
        leaves = λ _ _ k left. inr (tt, left);
        whole = λ _ _ w. record { views = w.views; working = w.working };
        committed = λ _ _ k left. (tt, left);
      };
      not_there = λ p. not_received (p.done lawful no_file tt);
      failed = record {
        harm = λ u. u;
        stands = λ l _ _. l;
        done = λ _ _ _. tt;
        undone = λ _ _ _. refl;
        progress = refl;
        cleared = tt;
        counts = record { kept = omega arith; store = λ _. omega arith; trust = λ t. t };
        leaves = λ _ _ k left. inl left;
        whole = λ _ _ w. w;
        committed = λ _ _. tt;
      };
      there_yet = λ p. not_received (sym (p.undone lawful no_file tt));
      stays_broken = λ p. p.cleared refl;
    }
