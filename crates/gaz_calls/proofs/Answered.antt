-- What else is made of the answers of calls that ask.
use Rattle.std.proofs.Common.{◌≡◌, ◌≢◌, ◌∙◌, Result, Ok, Err, IfOk, subst, sym}
use Rattle.std.specs.Prelude.{IfErr}
use Rattle.std.proofs.lemmas.Result.{IfErr-at_err}
use Rattle.sqlite.specs.Effect.{Database}
use Rattle.sqlite.specs.Held.{state}
use Rattle.sqlite_trees.specs.declared.store.Store.{Ghosts}
use Rattle.gaz_keeper.specs.declared.fault.ShelfFault.{ShelfFault}
use Rattle.gaz_keeper.specs.declared.fault.ShelfFault.TheVariants.{Memory, Store}
use Rattle.gaz_calls.specs.Asking.{Asks, AsksTables, Tallies, Tells}
use Rattle.gaz_kept.specs.Kept.{IsKept}
use Rattle.gaz_calls.specs.Seen.{IsUnharmed}
use Rattle.gaz_calls.specs.declared.tables.Tables.{Tables}
use Rattle.gaz_calls.proofs.Composing.{answered, asked_then, at}
use Rattle.gaz_calls.proofs.Seeing.{asks_as, tallies_then, wants}

module _ {S : Type 0} {store : Ghosts S} where
  -- what is told of something is so where it was told
  pub told_so : {E T : Type 0} (IsWant : E → Type 0) (old new : Tables S store) (said : Result T E) (r : Result T ShelfFault) (Q : T → Type 0) → Tells IsWant old new said r → IfOk said Q → IfOk r Q
  told_so {E} {T} IsWant old new said r Q tells right = by_result r tells.same
    where
      by_result : (r : Result T ShelfFault) → IfOk r (λ x. said ≡ Ok x) → IfOk r Q
      by_result (Ok x) is = subst (λ (s : Result T E). IfOk s Q) is right
      by_result (Err e) is = tt

module _ {S : Type 0} {store : Ghosts S} where
  -- an answer that is right in one way is right in another
  pub asked_as : {T : Type 0} (old new : Tables S store) (r : Result T ShelfFault) (P R : Database → T → Type 0) → AsksTables old new r P
      → ((db : Database) → IsKept db → (x : T) → P db x → R db x) → AsksTables old new r R
  asked_as {T} old new r P R asks goes = record {
    asks = asks_as _ _ r r P R asks.asks (λ db kept. by_result db kept r);
    served = asks.served;
    tallies = asks.tallies;
    at_hand = asks.at_hand;
  }
    where
      by_result : (db : Database) → IsKept db → (r : Result T ShelfFault) → IfOk r (P db) → IfOk r (R db)
      by_result db kept (Ok x) is = goes db kept x is
      by_result db kept (Err e) is = tt

  -- what is made of an answer that came
  pub answered_ok : {A T : Type 0} (old new : Tables S store) (one : Result A ShelfFault) (a : A) (x : T) (P : Database → A → Type 0) (R : Database → T → Type 0)
      → AsksTables old new one P → one ≡ Ok a → ((db : Database) → IsKept db → P db a → R db x) → AsksTables old new (Ok x) R
  answered_ok {A} old new one a x P R asks is goes =
      answered old new one x P R asks (λ db kept was. goes db kept (subst (λ (r : Result A ShelfFault). IfOk r (P db)) is was))

  -- a step after others, of which this is known
  pub asked_step : {A B T : Type 0} (old mid new : Tables S store) (one : Result A ShelfFault) (two : Result B ShelfFault) (b : B) (x : T)
      (P : Database → A → Type 0) (Q : Database → B → Type 0) (R : Database → T → Type 0)
      → AsksTables old mid one P → AsksTables mid new two Q → two ≡ Ok b
      → ((db : Database) → IsKept db → IfOk one (P db) → Q db b → R db x) → AsksTables old new (Ok x) R
  asked_step {A} {B} old mid new one two b x P Q R before after is goes =
      asked_then old mid new one two (Ok x) P Q R before after (record { kept = after.tallies.kept; store = tt }) (λ fine. tt)
      (λ db kept was now. goes db kept was (subst (λ (r : Result B ShelfFault). IfOk r (Q db)) is now))

  -- a step that fails
  pub asked_fault : {A B T : Type 0} (old mid new : Tables S store) (one : Result A ShelfFault) (two : Result B ShelfFault) (e : ShelfFault)
      (P : Database → A → Type 0) (Q : Database → B → Type 0) (R : Database → T → Type 0)
      → AsksTables old mid one P → AsksTables mid new two Q → two ≡ Err e → AsksTables old new (Err e) R
  asked_fault {A} {B} old mid new one two e P Q R before after is =
      asked_then old mid new one two (Err e) P Q R before after
      (record { kept = after.tallies.kept; store = (subst (λ (r : Result B ShelfFault). Tallies mid.failures new.failures r) is after.tallies).store })
      (λ fine. IfErr-at_err (λ f. f ≢ Store) is fine)
      (λ db kept was now. tt)

  -- a step after which memory runs out
  pub asked_want : {A B T : Type 0} (old mid new : Tables S store) (one : Result A ShelfFault) (two : Result B ShelfFault)
      (P : Database → A → Type 0) (Q : Database → B → Type 0) (R : Database → T → Type 0)
      → AsksTables old mid one P → AsksTables mid new two Q → AsksTables old new (Err Memory) R
  asked_want old mid new one two P Q R before after =
      asked_then old mid new one two (Err Memory) P Q R before after (record { kept = after.tallies.kept; store = λ e. cc }) (λ fine same. cc) (λ db kept was now. tt)

  -- what is told of a later answer, by what came before
  pub asked_more : {A T : Type 0} (old mid new : Tables S store) (one : Result A ShelfFault) (two : Result T ShelfFault) (a : A)
      (P : Database → A → Type 0) (Q R : Database → T → Type 0)
      → AsksTables old mid one P → AsksTables mid new two Q → one ≡ Ok a
      → ((db : Database) → IsKept db → P db a → (x : T) → Q db x → R db x) → AsksTables old new two R
  asked_more {A} {T} old mid new one two a P Q R before after is goes =
      asked_then old mid new one two two P Q R before after after.tallies (λ fine. fine) (λ db kept was now. by_result db kept (subst (λ (r : Result A ShelfFault). IfOk r (P db)) is was) two now)
    where
      by_result : (db : Database) → IsKept db → P db a → (r : Result T ShelfFault) → IfOk r (Q db) → IfOk r (R db)
      by_result db kept was (Ok x) now = goes db kept was x now
      by_result db kept was (Err e) now = tt

  -- what is read off an answer, whose rows are as a store writes them
  pub asked_read : {A E T : Type 0} {IsWant : E → Type 0} (old mid new : Tables S store) (one : Result A ShelfFault) (a : A) (said : Result T E) (r : Result T ShelfFault)
      (P : Database → A → Type 0) (Q : T → Type 0) (R : Database → T → Type 0) (so : Type 0)
      → AsksTables old mid one P → one ≡ Ok a → IfOk said Q → (so → IfErr said IsWant) → Tells IsWant mid new said r
      → ((db : Database) → IsKept db → P db a → so)
      → ((db : Database) → IsKept db → P db a → (x : T) → Q x → R db x) → AsksTables old new r R
  asked_read {A} {E} {T} {IsWant} old mid new one a said r P Q R so asks is right told tells shown goes = record {
    asks = subst (λ h. Asks (at old) (state store h) r R) (sym tells.conn) (asks_as (at old) (at mid) one r P R asks.asks (λ db kept was. by_result db kept (here db was) r tells.same));
    served = λ quiet kept.
        let unharmed = subst (λ h. IsUnharmed (state store h)) tells.conn quiet.unharmed in
        wants said IsWant r tells.fault tells.memory (told (shown (at old).now kept (here (at old).now (asks.asks.right unharmed kept))));
    tallies = tallies_then old.failures mid.failures new.failures one r asks.tallies tells.tallies;
    at_hand = tells.at_hand ∙ asks.at_hand;
  }
    where
      here : (db : Database) → IfOk one (P db) → P db a
      here db was = subst (λ (r : Result A ShelfFault). IfOk r (P db)) is was

      by_result : (db : Database) → IsKept db → P db a → (r : Result T ShelfFault) → IfOk r (λ x. said ≡ Ok x) → IfOk r (R db)
      by_result db kept was (Ok x) same = goes db kept was x (subst (λ (s : Result T E). IfOk s Q) same right)
      by_result db kept was (Err e) same = tt
