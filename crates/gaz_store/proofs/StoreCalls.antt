-- What a store's calls tell of it as a keeper that begin, change and end a judgement, and that write without one.
use Rattle.std.proofs.Common.{◌≡◌, ◌≤◌, inl, ℕ, List, Result, Ok, Err, refl, sym, subst}
use Rattle.std.specs.Prelude.{⊤, Option, None, Some}
use Rattle.sqlite.specs.Effect.{Database}
use Rattle.sqlite.specs.Held.{state}
use Rattle.sqlite.specs.State.{State}
use Rattle.sqlite_trees.specs.declared.store.Store.{Ghosts}
use Rattle.gaz_views.specs.Lawful.{IsLawfulView}
use Rattle.gaz_views.specs.View.{View, empty_view}
use Rattle.gaz_overlay.specs.Changes.{no_changes}
use Rattle.gaz_keeper.specs.Keeper as keeper
use Rattle.gaz_keeper.specs.Keeper.{Content, Enters, Goes, IsAtHand, IsNew, IsNotOpen, after_abandon, after_begin, after_keep, after_skip, with_received, with_working}
use Rattle.gaz_keeper.specs.declared.fault.ShelfFault.{ShelfFault}
use Rattle.gaz_kept.specs.Contents.{content_in}
use Rattle.gaz_calls.specs.Altering.{Writes}
use Rattle.gaz_calls.specs.Asking.{Asks, AsksTables, Fails, IsAnyway, Tallies}
use Rattle.gaz_counts.specs.declared.counts.Counts.{Counts}
use Rattle.gaz_calls.specs.Writing.{AppliesNext, Comes, IsNewIn, IsNextIn, RejectsNext, WhereSo}
use Rattle.gaz_calls.specs.declared.tables.Tables.{Tables}
use Rattle.gaz_calls.proofs.Seeing.{asks_nothing}
use Rattle.gaz_store.specs.Beside.{Turns}
use Rattle.gaz_store.specs.Store.{cleared, progress_of, seen_beside, seen_in, working_of}
use Rattle.gaz_store.specs.declared.judgement.Judgement.{Judgement}
use Rattle.gaz_store.specs.declared.progress.Judging.{Judging}
use Rattle.gaz_store.specs.declared.progress.Judging.TheVariants.{Idle, Open, Broken}
use Rattle.gaz_store.specs.declared.store.Store.{Store}
use Rattle.gaz_store.proofs.Entering.{receive_enters, seen_of, skip_enters}
use Rattle.gaz_store.proofs.StoreReads.{left_cleared, not_broken, on_ok_all}
use Rattle.gaz_store.proofs.StoreGoes.{goes_idle, goes_kept, goes_not_kept, goes_on, goes_open, goes_wrong}

-- ---- without a judgement

-- what is told of the tables, of the store
pub enters_beside : {T : Type 0} (register : List ℕ) (old new : State) (a b : Counts) (j : Judging) (f g : ℕ) (r : Result T ShelfFault) (Asked : View → Type 0) (makes : View → Content)
    → IsNotOpen (progress_of j)
    → Enters (seen_of register old a (progress_of j) empty_view f) (seen_of register new b (progress_of (cleared j)) empty_view g) r (Asked empty_view) (makes empty_view)
    → Enters (seen_beside register old a j f) (seen_beside register new b (cleared j) g) r (Asked (working_of old.now j)) (makes (working_of old.now j))
enters_beside register old new a b (Open m) f g r Asked makes not e = absurd (not m.code refl)
enters_beside register old new a b Idle f g r Asked makes not e = record {
  harm = e.harm;
  stands = λ stood ask h. record { tables = e.stands stood.tables ask h; beside = tt };
  done = λ stood ask h. e.done stood.tables ask h;
  undone = λ stood ask h. e.undone stood.tables ask h;
  progress = e.progress;
  cleared = e.cleared;
  counts = record { kept = e.counts.kept; store = e.counts.store; trust = e.counts.trust };
  leaves = λ sound ask. e.leaves (λ h. (sound h).tables) ask;
  committed = λ sound ask. e.committed (λ h. (sound h).tables) ask;
  whole = λ sound ask. e.whole (λ h. (sound h).tables) ask;
}
enters_beside register old new a b Broken f g r Asked makes not e = record {
  harm = e.harm;
  stands = λ stood ask h. record { tables = e.stands stood.tables ask h; beside = tt };
  done = λ stood ask h. e.done stood.tables ask h;
  undone = λ stood ask h. e.undone stood.tables ask h;
  progress = e.progress;
  cleared = e.cleared;
  counts = record { kept = e.counts.kept; store = e.counts.store; trust = e.counts.trust };
  leaves = λ sound ask. e.leaves (λ h. (sound h).tables) ask;
  committed = λ sound ask. e.committed (λ h. (sound h).tables) ask;
  whole = λ sound ask. e.whole (λ h. (sound h).tables) ask;
}

-- ---- the calls of a store

module _ {S R : Type 0} {store : Ghosts S} (register : List ℕ) (old : Store S R store) where
  abbrev s : State
  s = state store old.tables.conn

  pub abandons : Goes (seen_in register old) (seen_in register (record old { judging = Idle })) (Ok (tt {0})) ⊤ (after_abandon (seen_in register old).content) None keeper.Idle
  abandons = goes_idle register s old.tables.at_hand old.judging old.tables.failures

  pub begins : (c : ℕ) (j : Judgement) → j.code ≡ c → j.changes ≡ no_changes → j.any_passed ≡ None
      → Goes (seen_in register old) (seen_in register (record old { judging = Open j })) (Ok (tt {0})) (IsAtHand (seen_in register old).content c) (after_begin (seen_in register old).content c) None (keeper.Open c)
  begins c j code none known =
      let same : record { code = c; changes = no_changes; any_passed = None } ≡ j = λ i. record { code = sym code i; changes = sym none i; any_passed = sym known i } in
      subst (λ k. Goes (seen_in register old) (seen_in register (record old { judging = Open k })) (Ok (tt {0})) (IsAtHand (seen_in register old).content c) (after_begin (seen_in register old).content c) None (keeper.Open c)) same
      (goes_open register s old.tables.at_hand old.judging old.tables.failures c)

  -- the changes turn
  pub turns : (m n : Judgement) (t : Tables S store) (r : Result (Unit {0}) ShelfFault) (becomes : View → View) → old.judging ≡ Open m → n.code ≡ m.code
      → ((w : View) → IsLawfulView w → IsLawfulView (becomes w))
      → AsksTables old.tables t r (λ db x. Turns db m n becomes) → r ≡ Ok (tt {0})
      → Goes (seen_in register old) (seen_in register (record old { tables = t; judging = Open n })) (Ok (tt {0})) ⊤ (with_working (seen_in register old).content (becomes (seen_in register old).content.working)) None (seen_in register old).progress
  turns m n t r becomes is code lawful asks ok =
      let a = subst (λ q. AsksTables old.tables t q (λ db x. Turns db m n becomes)) ok asks in
      subst (λ k. Goes (seen_beside register s old.tables.at_hand k old.tables.failures) (seen_in register (record old { tables = t; judging = Open n })) (Ok (tt {0})) ⊤
      (with_working (content_in s.now (working_of s.now k)) (becomes (working_of s.now k))) None (progress_of k)) (sym is)
      (goes_on register s (state store t.conn) old.tables.at_hand t.at_hand m n old.tables.failures t.failures becomes lawful code a.asks a.tallies a.at_hand)

  -- a fault of the tables breaks the judgement
  pub breaks : {A T : Type 0} (t : Tables S store) (k : Judging) → k ≡ Broken → (r : Result A ShelfFault) (e : ShelfFault) (q : Result T ShelfFault) (P : Database → A → Type 0) (becomes : Content) (after : keeper.Progress)
      → AsksTables old.tables t r P → r ≡ Err e → q ≡ Err e
      → Goes (seen_in register old) (seen_in register (record old { tables = t; judging = k })) q ⊤ becomes None after
  breaks {A} {T} t k broken r e q P becomes after asks is passed =
      let tallies = subst (λ x. Tallies old.tables.failures t.failures x) is asks.tallies in
      subst (λ x. Goes (seen_in register old) (seen_in register (record old { tables = t; judging = k })) x ⊤ becomes None after) (sym passed)
      (subst (λ j. Goes {T = T} (seen_in register old) (seen_in register (record old { tables = t; judging = j })) (Err e) ⊤ becomes None after) (sym broken)
      (goes_wrong {T = T} register s (state store t.conn) old.tables.at_hand t.at_hand old.judging old.tables.failures t.failures e r P becomes after asks.asks
      (record { kept = tallies.kept; store = tallies.store }) asks.at_hand))

  -- there is none to go on with
  pub refused : {T : Type 0} (t : Tables S store) (k : Judging) → k ≡ Broken → (e : ShelfFault) → Fails old.tables t e → (becomes : Content) (commits : Option Content) (after : keeper.Progress)
      → Goes {T = T} (seen_in register old) (seen_in register (record old { tables = t; judging = k })) (Err e) ⊤ becomes commits after
  refused {T} t k broken e fails becomes commits after = by_commits commits
    where
      none : Result T ShelfFault
      none = Err e

      goes : Goes {T = T} (seen_in register old) (seen_in register (record old { tables = t; judging = k })) (Err e) ⊤ becomes None after
      goes = subst (λ j. Goes {T = T} (seen_in register old) (seen_in register (record old { tables = t; judging = j })) (Err e) ⊤ becomes None after) (sym broken)
          (goes_wrong {T = T} register s (state store t.conn) old.tables.at_hand t.at_hand old.judging old.tables.failures t.failures e none IsAnyway becomes after
          (subst (λ h. Asks s (state store h) none IsAnyway) (sym fails.conn) (asks_nothing s none IsAnyway (λ h kept. tt)))
          (record { kept = fails.kept; store = fails.counted }) fails.at_hand)

      by_commits : (commits : Option Content) → Goes {T = T} (seen_in register old) (seen_in register (record old { tables = t; judging = k })) (Err e) ⊤ becomes commits after
      by_commits None = goes
      by_commits (Some made) = record {
        harm = goes.harm;
        stands = goes.stands;
        done = goes.done;
        undone = goes.undone;
        on = goes.on;
        broken = goes.broken;
        counts = record { kept = goes.counts.kept; store = goes.counts.store; trust = goes.counts.trust };
        leaves = λ sound ask left may. inl (goes.leaves sound ask left may);
        whole = goes.whole;
        committed = λ sound ask. tt;
      }

  -- the judgement is kept
  pub keeps : (m : Judgement) (t : Tables S store) (r : Result (Unit {0}) ShelfFault) → old.judging ≡ Open m
      → Writes old.tables t r (IsNextIn m.code) (WhereSo old.tables.at_hand (AppliesNext m.code m.changes)) → r ≡ Ok (tt {0})
      → Goes (seen_in register old) (seen_in register (record old { tables = t; judging = Idle })) (Ok (tt {0})) ⊤ (after_keep (seen_in register old).progress (seen_in register old).content)
      (Some (after_keep (seen_in register old).progress (seen_in register old).content)) keeper.Idle
  keeps m t r is writes ok =
      subst (λ k. Goes (seen_beside register s old.tables.at_hand k old.tables.failures) (seen_in register (record old { tables = t; judging = Idle })) (Ok (tt {0})) ⊤
      (after_keep (progress_of k) (content_in s.now (working_of s.now k))) (Some (after_keep (progress_of k) (content_in s.now (working_of s.now k)))) keeper.Idle) (sym is)
      (goes_kept register s (state store t.conn) old.tables.at_hand t.at_hand m old.tables.failures t.failures r writes.alters writes.tallies writes.at_hand ok)

  pub keeps_not : (m : Judgement) (t : Tables S store) (k : Judging) → k ≡ Broken → (r : Result (Unit {0}) ShelfFault) (e : ShelfFault) (q : Result (Unit {0}) ShelfFault) → old.judging ≡ Open m
      → Writes old.tables t r (IsNextIn m.code) (WhereSo old.tables.at_hand (AppliesNext m.code m.changes)) → r ≡ Err e → q ≡ Err e
      → Goes (seen_in register old) (seen_in register (record old { tables = t; judging = k })) q ⊤ (after_keep (seen_in register old).progress (seen_in register old).content)
      (Some (after_keep (seen_in register old).progress (seen_in register old).content)) keeper.Idle
  keeps_not m t k broken r e q is writes err passed =
      subst (λ x. Goes (seen_in register old) (seen_in register (record old { tables = t; judging = k })) x ⊤ (after_keep (seen_in register old).progress (seen_in register old).content)
      (Some (after_keep (seen_in register old).progress (seen_in register old).content)) keeper.Idle) (sym passed)
      (subst (λ j. Goes {T = Unit {0}} (seen_in register old) (seen_in register (record old { tables = t; judging = j })) (Err e) ⊤ (after_keep (seen_in register old).progress (seen_in register old).content)
      (Some (after_keep (seen_in register old).progress (seen_in register old).content)) keeper.Idle) (sym broken)
      (subst (λ k. Goes {T = Unit {0}} (seen_beside register s old.tables.at_hand k old.tables.failures) (seen_in register (record old { tables = t; judging = Broken })) (Err e) ⊤
      (after_keep (progress_of k) (content_in s.now (working_of s.now k))) (Some (after_keep (progress_of k) (content_in s.now (working_of s.now k)))) keeper.Idle) (sym is)
      (goes_not_kept register s (state store t.conn) old.tables.at_hand t.at_hand m old.tables.failures t.failures r writes.alters writes.tallies writes.at_hand e err)))

  -- a file comes
  pub received : {T : Type 0} (t : Tables S store) (k : Judging) → k ≡ cleared old.judging → (r : Result T ShelfFault) (c v : ℕ) (bytes : List ℕ) → (1 ≤ v) × (v ≤ 999_999) → IsNotOpen (seen_in register old).progress
      → Writes old.tables t r (IsNewIn c v) (Comes c v bytes)
      → Enters (seen_in register old) (seen_in register (record old { tables = t; judging = k })) r (IsNew (seen_in register old).content c v) (with_received (seen_in register old).content c v bytes)
  received t k same r c v bytes range not writes =
      subst (λ j. Enters (seen_in register old) (seen_in register (record old { tables = t; judging = j })) r (IsNew (seen_in register old).content c v) (with_received (seen_in register old).content c v bytes)) (sym same)
      (enters_beside register s (state store t.conn) old.tables.at_hand t.at_hand old.judging old.tables.failures t.failures r
      (λ w. IsNew (content_in s.now w) c v) (λ w. with_received (content_in s.now w) c v bytes) not
      (receive_enters register old.tables t (progress_of old.judging) (progress_of (cleared old.judging)) empty_view r c v bytes range.0 range.1 writes (left_cleared old.judging) (on_ok_all r (not_broken old.judging))))

  -- a volume is rejected
  pub skipped : {T : Type 0} (t : Tables S store) (k : Judging) → k ≡ cleared old.judging → (r : Result T ShelfFault) (c place rule : ℕ) → rule ≤ 255 → IsNotOpen (seen_in register old).progress
      → Writes old.tables t r (IsNextIn c) (WhereSo old.tables.at_hand (RejectsNext c place rule))
      → Enters (seen_in register old) (seen_in register (record old { tables = t; judging = k })) r (IsAtHand (seen_in register old).content c) (after_skip (seen_in register old).content c place rule)
  skipped t k same r c place rule small not writes =
      subst (λ j. Enters (seen_in register old) (seen_in register (record old { tables = t; judging = j })) r (IsAtHand (seen_in register old).content c) (after_skip (seen_in register old).content c place rule)) (sym same)
      (enters_beside register s (state store t.conn) old.tables.at_hand t.at_hand old.judging old.tables.failures t.failures r
      (λ w. IsAtHand (content_in s.now w) c) (λ w. after_skip (content_in s.now w) c place rule) not
      (skip_enters register old.tables t (progress_of old.judging) (progress_of (cleared old.judging)) r c place rule small writes (left_cleared old.judging) (on_ok_all r (not_broken old.judging))))
