-- What a call tells that answers from what is at hand, or has an answer at hand then.
use Rattle.std.proofs.Common.{◌≡◌, ◌≢◌, ◌∙◌, inl, inr, ℕ, List, Result, Ok, Err, IfOk, arith, refl, sym, subst}
use Rattle.std.proofs.lemmas.Bool.{cases_eq}
use Rattle.std.proofs.lemmas.Result.{IfErr-at_err}
use Rattle.std.specs.Prelude.{Option, Some, None, IfSome}
use Rattle.sqlite.specs.Effect.{Database}
use Rattle.sqlite.specs.Held.{state}
use Rattle.sqlite.specs.Order.{Row}
use Rattle.sqlite.specs.State.{State}
use Rattle.sqlite_trees.specs.declared.store.Store.{Ghosts}
use Rattle.gaz_keeper.specs.Board.{reached}
use Rattle.gaz_keeper.specs.declared.fault.ShelfFault.{ShelfFault}
use Rattle.gaz_keeper.specs.declared.fault.ShelfFault.TheVariants.{Store}
use Rattle.gaz_tables.specs.Schema.{received, version2}
use Rattle.gaz_tables.specs.Tables.{rows_of}
use Rattle.gaz_kept.specs.Contents.{board_of}
use Rattle.gaz_kept.specs.Kept.{IsKept}
use Rattle.gaz_kept.proofs.Boards.{board_reads}
use Rattle.gaz_calls.specs.Asking.{Asks, AsksTables, Recalls, Tallies}
use Rattle.gaz_calls.specs.Remembered.{AreSo, IsSo}
use Rattle.gaz_counts.specs.declared.counts.Counts.{Counts}
use Rattle.gaz_calls.specs.Seen.{IsUnharmed}
use Rattle.gaz_counts.specs.Counts.{Notes, noted}
use Rattle.gaz_counts.specs.declared.at_hand.AtHand.{AtHand}
use Rattle.gaz_calls.specs.declared.tables.Tables.{Tables}
use Rattle.gaz_calls.proofs.Seeing.{asks_as, asks_nothing, asks_then, quiet_later, tallies_then}

pub if_some_at : {X : Type 0} (o : Option X) (x : X) (P : X → Type 0) → o ≡ Some x → IfSome o P → P x
if_some_at o x P is h = subst (λ p. IfSome p P) is h

pub if_some : {X : Type 0} (o : Option X) (P Q : X → Type 0) → ((x : X) → o ≡ Some x → P x → Q x) → IfSome o P → IfSome o Q
if_some (Some x) P Q f h = f x refl h
if_some None P Q f h = tt

-- counts that are so are at hand with the others
noted_so : (before after : Counts) (c : ℕ) (h : AtHand) (files : List Row) → Notes c h before after → IsSo files c h → AreSo before files → AreSo after files
noted_so before after c h files notes is so d = elim (cases_eq d c) [
  | inl here ↦ subst (λ e. IfSome (noted after e) (IsSo files e)) (sym here)
      (if_some (noted after c) (λ x. x ≡ h) (IsSo files c) (λ x there same. subst (IsSo files c) (sym same) is) notes.own)
  | inr other ↦ if_some (noted after d) (λ x. noted before d ≡ Some x) (IsSo files d) (λ x there was. if_some_at (noted before d) x (IsSo files d) was (so d)) (notes.others d other)
]

module _ {S : Type 0} {store : Ghosts S} where
  abbrev at : Tables S store → State
  at t = state store t.conn

  -- an answer that is at hand
  pub at_hand_already : (t : Tables S store) (c : ℕ) (h : AtHand) → Some h ≡ noted t.at_hand c → Recalls t t (Ok h) (λ db x. IsSo (rows_of db received) c x)
  at_hand_already t c h is = record {
    asks = asks_nothing (at t) (Ok h) (λ db x. AreSo t.at_hand (rows_of db received) → IsSo (rows_of db received) c x)
        (λ u kept so. if_some_at (noted t.at_hand c) h (IsSo (rows_of (at t).now received) c) (sym is) (so c));
    served = λ quiet kept. tt;
    tallies = record { kept = omega arith; store = tt };
    at_hand = λ u kept so. so;
  }

  -- an answer for which the tables were asked
  pub recalls_asked : {T : Type 0} (old new : Tables S store) (r : Result T ShelfFault) (R : Database → T → Type 0) → AsksTables old new r R → Recalls old new r R
  recalls_asked {T} old new r R asks = record {
    asks = asks_as (at old) (at new) r r R (λ db x. AreSo old.at_hand (rows_of db received) → R db x) asks.asks (λ db kept. anyway db r);
    served = asks.served;
    tallies = asks.tallies;
    at_hand = λ u kept so. subst (λ (m : Counts). AreSo m (rows_of (at old).now received)) (sym asks.at_hand) so;
  }
    where
      anyway : (db : Database) (r : Result T ShelfFault) → IfOk r (R db) → IfOk r (λ x. AreSo old.at_hand (rows_of db received) → R db x)
      anyway db (Ok x) is = λ so. is
      anyway db (Err e) is = tt

  -- an answer for which the tables were asked after what was recalled
  pub recalls_more : {A B : Type 0} (old mid new : Tables S store) (one : Result A ShelfFault) (two : Result B ShelfFault) (a : A) (P : Database → A → Type 0) (Q R : Database → B → Type 0)
      → Recalls old mid one P → one ≡ Ok a → AsksTables mid new two Q → ((db : Database) → IsKept db → P db a → (x : B) → Q db x → R db x) → Recalls old new two R
  recalls_more {A} {B} old mid new one two a P Q R before is after goes = record {
    asks = asks_then (at old) (at mid) (at new) one two two (λ db y. AreSo old.at_hand (rows_of db received) → P db y) Q (λ db y. AreSo old.at_hand (rows_of db received) → R db y) before.asks after.asks
        (λ db kept was now. by_result db kept (subst (λ (r : Result A ShelfFault). IfOk r (λ y. AreSo old.at_hand (rows_of db received) → P db y)) is was) two now);
    served = λ quiet kept. after.served (quiet_later (at old) (at mid) (at new) (before.asks.leaves (λ h. kept.tables)) quiet) (subst IsKept (sym (before.asks.rests (after.asks.harm quiet.unharmed) kept.tables)) kept);
    tallies = tallies_then old.failures mid.failures new.failures one two before.tallies after.tallies;
    at_hand = λ u kept so. subst (λ (m : Counts). AreSo m (rows_of (at old).now received)) (sym after.at_hand) (before.at_hand (after.asks.harm u) kept so);
  }
    where
      by_result : (db : Database) → IsKept db → (AreSo old.at_hand (rows_of db received) → P db a) → (r : Result B ShelfFault) → IfOk r (Q db) → IfOk r (λ y. AreSo old.at_hand (rows_of db received) → R db y)
      by_result db kept was (Ok x) now = λ so. goes db kept (was so) x now
      by_result db kept was (Err e) now = tt

  -- a fault after what was recalled
  pub recalls_fault : {B T : Type 0} (old new : Tables S store) (two : Result B ShelfFault) (e : ShelfFault) (Q : Database → B → Type 0) (R : Database → T → Type 0)
      → Recalls old new two Q → two ≡ Err e → Recalls old new (Err e) R
  recalls_fault {B} {T} old new two e Q R recalls is = record {
    asks = asks_as (at old) (at new) two (Err e) (λ db y. AreSo old.at_hand (rows_of db received) → Q db y) (λ db (y : T). AreSo old.at_hand (rows_of db received) → R db y) recalls.asks (λ db kept was. tt);
    served = λ quiet kept. IfErr-at_err (λ f. f ≢ Store) is (recalls.served quiet kept);
    tallies = record { kept = recalls.tallies.kept; store = (subst (λ (r : Result B ShelfFault). Tallies old.failures new.failures r) is recalls.tallies).store };
    at_hand = recalls.at_hand;
  }

  -- what is made of an answer, and counts that are at hand then if there is memory to keep them
  pub recalls_noting : {A T : Type 0} (old mid new : Tables S store) (one : Result A ShelfFault) (a : A) (c : ℕ) (h : AtHand) (x : T) (P : Database → A → Type 0) (R : Database → T → Type 0)
      → Recalls old mid one P → one ≡ Ok a → ((db : Database) → IsKept db → P db a → IsSo (rows_of db received) c h × R db x)
      → new.conn ≡ mid.conn → new.failures ≡ mid.failures
      → Notes c h mid.at_hand new.at_hand
      → Recalls old new (Ok x) R
  recalls_noting {A} {T} old mid new one a c h x P R before is goes conn failures notes = record {
    asks = subst (λ t. Asks (at old) (state store t) (Ok x) (λ db y. AreSo old.at_hand (rows_of db received) → R db y)) (sym conn)
        (asks_as (at old) (at mid) one (Ok x) (λ db y. AreSo old.at_hand (rows_of db received) → P db y) (λ db y. AreSo old.at_hand (rows_of db received) → R db y) before.asks
        (λ db kept was so. (goes db kept (told db was so)).1));
    served = λ quiet kept. tt;
    tallies = subst (λ (n : ℕ). Tallies old.failures n (Ok x)) (sym failures) (record { kept = before.tallies.kept; store = tt });
    at_hand = λ u kept so.
        let v = subst (λ t. IsUnharmed (state store t)) conn u in
        noted_so mid.at_hand new.at_hand c h (rows_of (at old).now received) notes (goes (at old).now kept (told (at old).now (before.asks.right v kept) so)).0 (before.at_hand v kept so);
  }
    where
      told : (db : Database) → IfOk one (λ y. AreSo old.at_hand (rows_of db received) → P db y) → AreSo old.at_hand (rows_of db received) → P db a
      told db was so = subst (λ (r : Result A ShelfFault). IfOk r (λ y. AreSo old.at_hand (rows_of db received) → P db y)) is was so

  -- what is made of an answer that was recalled
  pub recalled : {A T : Type 0} (old new : Tables S store) (one : Result A ShelfFault) (a : A) (x : T) (P : Database → A → Type 0) (R : Database → T → Type 0)
      → Recalls old new one P → one ≡ Ok a → ((db : Database) → IsKept db → P db a → R db x) → Recalls old new (Ok x) R
  recalled {A} {T} old new one a x P R recalls is goes = record {
    asks = asks_as (at old) (at new) one (Ok x) (λ db y. AreSo old.at_hand (rows_of db received) → P db y) (λ db y. AreSo old.at_hand (rows_of db received) → R db y) recalls.asks
        (λ db kept was so. goes db kept (subst (λ (r : Result A ShelfFault). IfOk r (λ y. AreSo old.at_hand (rows_of db received) → P db y)) is was so));
    served = λ quiet kept. tt;
    tallies = record { kept = recalls.tallies.kept; store = tt };
    at_hand = recalls.at_hand;
  }

-- what is counted as judged is what is reached
pub reached_told : (db : Database) (c : ℕ) (h : AtHand) → IsSo (rows_of db received) c h → h.reached ≡ reached (board_of db) c
reached_told db c h so = so.reached ∙ sym (board_reads (rows_of db received) (rows_of db version2) c).reached
