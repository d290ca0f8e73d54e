-- What the calls tell that receive a file and that reject a volume.
use Rattle.std.proofs.Common.{◌≡◌, ◌≤◌, ◌+◌, ◌<◌, ◌∙◌, ℕ, pos, List, Result, Ok, Err, IfErr, OnErr, OnOk, sym, ap, subst, arith}
use Rattle.sqlite.specs.Effect.{Database}
use Rattle.sqlite.specs.Held.{state}
use Rattle.sqlite.specs.State.{State}
use Rattle.sqlite_trees.specs.declared.store.Store.{Ghosts}
use Rattle.gaz_views.specs.declared.verdict.Verdict.{Verdict}
use Rattle.gaz_views.specs.declared.verdict.Verdict.TheVariants.{Rejected}
use Rattle.gaz_kept.specs.Judging.{IsJudged}
use Rattle.gaz_keeper.specs.Board.{reached}
use Rattle.gaz_keeper.specs.declared.fault.ShelfFault.{ShelfFault}
use Rattle.gaz_keeper.specs.declared.fault.ShelfFault.TheVariants.{Store}
use Rattle.gaz_tables.specs.Receiveds.{Rejects}
use Rattle.gaz_tables.specs.Schema.{received, version2}
use Rattle.gaz_tables.specs.Tables.{rows_of}
use Rattle.gaz_tables.specs.Stores.{ChangesTable}
use Rattle.gaz_kept.specs.Contents.{board_of}
use Rattle.gaz_kept.specs.Files.{reached_in}
use Rattle.gaz_kept.specs.Kept.{IsKept}
use Rattle.gaz_kept.specs.Stands.{next_in}
use Rattle.gaz_kept.proofs.Boards.{board_reads}
use Rattle.gaz_kept.proofs.Stands.{judges}
use Rattle.gaz_calls.specs.Altering.{Alters, AltersTables, Writes}
use Rattle.gaz_calls.specs.Asking.{Asks, Fails, IsServed, Recalls, Tallies}
use Rattle.gaz_calls.specs.Remembered.{AreSo}
use Rattle.gaz_counts.specs.Counts.{OneJudged, OneMore, Recounts}
use Rattle.gaz_counts.specs.declared.counts.Counts.{Counts}
use Rattle.gaz_calls.specs.Seen.{IsUnharmed}
use Rattle.gaz_calls.specs.Writing.{Comes, IsNewIn, IsNextIn, WhereSo}
use Rattle.gaz_calls.specs.declared.tables.Tables.{Tables}
use Rattle.gaz_calls.proofs.Altering.{alters_not, alters_then}
use Rattle.gaz_calls.proofs.Recounting.{come_so, judged_so}
use Rattle.gaz_calls.proofs.Seeing.{tallies_then}

on_result : {T : Type 0} (r : Result T ShelfFault) (P Q P' Q' X : Type 0) → OnOk r P → OnErr r Q → OnOk r P' → OnErr r Q' → (P → P' → X) → (Q → Q' → X) → X
on_result (Ok x) P Q P' Q' X a b a' b' f g = f a a'
on_result (Err e) P Q P' Q' X a b a' b' f g = g b b'

-- a custodian's next volume makes another database
abbrev pub MakesNext : (ℕ → Database → Database → Type 0) → ℕ → Database → Database → Type 0
MakesNext Makes c db after = Makes (next_in db c) db after

-- how many volumes are judged
abbrev pub Recalled : ℕ → Database → ℕ → Type 0
Recalled c db n = n ≡ reached (board_of db) c

-- a volume is rejected
abbrev pub RejectsAt : ℕ → ℕ → ℕ → ℕ → Database → Database → Type 0
RejectsAt c volume place rule = ChangesTable received (Rejects c volume (pos place) rule)

-- as rejected
pub skip_judges : (c place rule : ℕ) → rule ≤ 255 → (db after : Database) → IsKept db → IsNextIn c db → RejectsAt c (next_in db c) place rule db after
    → IsJudged c (reached_in (rows_of db received) c + 1) (Rejected place rule) (rows_of db received) (rows_of after received)
skip_judges c place rule small db after kept there rejects = judges c place rule db after small kept there rejects

module _ {S : Type 0} {store : Ghosts S} where
  abbrev at : Tables S store → State
  at t = state store t.conn

  -- ---- a file comes

  comes : {T : Type 0} (old new : Tables S store) (r : Result T ShelfFault) (c v : ℕ) (bytes : List ℕ) → (1 ≤ v) × (v ≤ 999_999)
      → Alters (at old) (at new) r (Comes c v bytes) → Tallies old.failures new.failures r
      → OnOk r (Recounts c OneMore old.at_hand new.at_hand) → OnErr r (new.at_hand ≡ old.at_hand) → Writes old new r (IsNewIn c v) (Comes c v bytes)
  comes old new r c v bytes range alters tallies noted same = record {
    alters = alters;
    tallies = tallies;
    at_hand = λ h kept so fresh. on_result r _ _ _ _ (AreSo new.at_hand (rows_of (at new).now received)) (alters.done h kept.tables) (alters.undone h kept.tables) noted same
        (λ changes counts. come_so c v bytes (at old).now (at new).now old.at_hand new.at_hand range.0 range.1 kept fresh changes counts so)
        (λ still stays. subst (λ (m : Counts). AreSo m (rows_of (at new).now received)) (sym stays) (subst (λ (db : Database). AreSo old.at_hand (rows_of db received)) (sym still) so));
  }

  pub received_ok : {T : Type 0} (old mid new : Tables S store) (r : Result T ShelfFault) (x : T) (c v : ℕ) (bytes : List ℕ) → (1 ≤ v) × (v ≤ 999_999)
      → AltersTables old mid r (Comes c v bytes) → r ≡ Ok x
      → new.conn ≡ mid.conn → new.failures ≡ mid.failures → Recounts c OneMore mid.at_hand new.at_hand → Writes old new (Ok x) (IsNewIn c v) (Comes c v bytes)
  received_ok {T} old mid new r x c v bytes range alters is conn failures counts =
      let done : Result T ShelfFault = Ok x in
      let here = subst (λ r. AltersTables old mid r (Comes c v bytes)) is alters in
      comes old new done c v bytes range (subst (λ h. Alters (at old) (state store h) done (Comes c v bytes)) (sym conn) here.alters) (subst (λ (n : ℕ). Tallies old.failures n done) (sym failures) here.tallies)
      (subst (λ (m : Counts). Recounts c OneMore m new.at_hand) here.at_hand counts) tt

  -- ---- a volume is judged

  -- the next volume of a custodian is judged so: where it was recalled which is next
  module _ {T : Type 0} (c : ℕ) (verdict : Verdict) (Makes : ℕ → Database → Database → Type 0)
      (judged : (db after : Database) → IsKept db → IsNextIn c db → Makes (next_in db c) db after → IsJudged c (reached_in (rows_of db received) c + 1) verdict (rows_of db received) (rows_of after received)) where
    judges_next : (old mid new : Tables S store) (r : Result T ShelfFault) (n next : ℕ) → next ≡ n + 1
        → Recalls old mid (Ok n) (Recalled c)
        → Alters (at mid) (at new) r (Makes next) → Tallies mid.failures new.failures r
        → OnOk r (Recounts c OneJudged mid.at_hand new.at_hand) → OnErr r (new.at_hand ≡ mid.at_hand)
        → Writes old new r (IsNextIn c) (WhereSo old.at_hand (MakesNext Makes c))
    judges_next old mid new r n next is_next recalls alters tallies noted same = record {
      alters = both;
      tallies = tallies_then old.failures mid.failures new.failures (Ok n) r recalls.tallies tallies;
      at_hand = λ h kept so there. on_result r _ _ _ _ (AreSo new.at_hand (rows_of (at new).now received)) (both.done h kept.tables) (both.undone h kept.tables) noted same
          (λ changes counts.
          judged_so c verdict (rows_of (at old).now received) (rows_of (at new).now received) mid.at_hand new.at_hand
          (judged (at old).now (at new).now kept there (changes kept so)) there counts (recalls.at_hand (alters.harm h) kept so))
          (λ still stays. subst (λ (m : Counts). AreSo m (rows_of (at new).now received)) (sym stays)
          (subst (λ (db : Database). AreSo mid.at_hand (rows_of db received)) (sym still) (recalls.at_hand (alters.harm h) kept so)));
    }
      where
        reads : (db : Database) → reached (board_of db) c ≡ reached_in (rows_of db received) c
        reads db = (board_reads (rows_of db received) (rows_of db version2) c).reached

        which : IsUnharmed (at mid) → IsKept (at old).now → AreSo old.at_hand (rows_of (at old).now received) → next ≡ next_in (at old).now c
        which h kept so = is_next ∙ ap (λ m. m + 1) (recalls.asks.right h kept so ∙ reads (at old).now)

        both : Alters (at old) (at new) r (WhereSo old.at_hand (MakesNext Makes c))
        both = alters_then (at old) (at mid) (at new) (Ok n) r (λ db m. AreSo old.at_hand (rows_of db received) → Recalled c db m) (Makes next) (WhereSo old.at_hand (MakesNext Makes c)) recalls.asks alters
            (λ h db makes kept so. subst (λ m. Makes m (at old).now db) (which h kept so) makes)

    pub judged_ok : (old mid noted new : Tables S store) (first : Result ℕ ShelfFault) (r : Result T ShelfFault) (x : T) (n next : ℕ) → next ≡ n + 1
        → Recalls old mid first (Recalled c) → first ≡ Ok n → AltersTables mid noted r (Makes next) → r ≡ Ok x
        → new.conn ≡ noted.conn → new.failures ≡ noted.failures → Recounts c OneJudged noted.at_hand new.at_hand → Writes old new (Ok x) (IsNextIn c) (WhereSo old.at_hand (MakesNext Makes c))
    judged_ok old mid noted new first r x n next is_next recalls was alters is conn failures counts =
        let done : Result T ShelfFault = Ok x in
        let before = subst (λ r. Recalls old mid r (Recalled c)) was recalls in
        let here = subst (λ r. AltersTables mid noted r (Makes next)) is alters in
        judges_next old mid new done n next is_next before
        (subst (λ h. Alters (at mid) (state store h) done (Makes next)) (sym conn) here.alters) (subst (λ (n : ℕ). Tallies mid.failures n done) (sym failures) here.tallies)
        (subst (λ (m : Counts). Recounts c OneJudged m new.at_hand) here.at_hand counts) tt

    pub judged_err : (old mid new : Tables S store) (first : Result ℕ ShelfFault) (r : Result T ShelfFault) (e : ShelfFault) (n next : ℕ) → next ≡ n + 1
        → Recalls old mid first (Recalled c) → first ≡ Ok n → AltersTables mid new r (Makes next) → r ≡ Err e
        → Writes {T = T} old new (Err e) (IsNextIn c) (WhereSo old.at_hand (MakesNext Makes c))
    judged_err old mid new first r e n next is_next recalls was alters is =
        let before = subst (λ r. Recalls old mid r (Recalled c)) was recalls in
        let here = subst (λ r. AltersTables mid new r (Makes next)) is alters in
        judges_next old mid new (Err e) n next is_next before here.alters here.tallies tt here.at_hand

  -- ---- a fault before anything is written

  pub writes_not : {A T : Type 0} (old new : Tables S store) (one : Result A ShelfFault) (e : ShelfFault) (P : Database → A → Type 0) (IsAsked : Database → Type 0) (Becomes : Database → Database → Type 0)
      → Recalls old new one P → Tallies {T = T} old.failures new.failures (Err e) → Writes {T = T} old new (Err e) IsAsked Becomes
  writes_not old new one e P IsAsked Becomes recalls tallies = record {
    alters = alters_not (at old) (at new) one e (λ db x. AreSo old.at_hand (rows_of db received) → P db x) Becomes recalls.asks;
    tallies = tallies;
    at_hand = λ h kept so ask. subst (λ (db : Database). AreSo new.at_hand (rows_of db received)) (sym (recalls.asks.rests h kept.tables)) (recalls.at_hand h kept so);
  }

  -- of what was recalled
  pub writes_never : {A T : Type 0} (old new : Tables S store) (one : Result A ShelfFault) (e : ShelfFault) (P : Database → A → Type 0) (IsAsked : Database → Type 0) (Becomes : Database → Database → Type 0)
      → Recalls old new one P → one ≡ Err e → Writes {T = T} old new (Err e) IsAsked Becomes
  writes_never {A} {T} old new one e P IsAsked Becomes recalls is =
      let tallies = subst (λ r. Tallies old.failures new.failures r) is recalls.tallies in
      writes_not {T = T} old new one e P IsAsked Becomes recalls (record { kept = tallies.kept; store = tallies.store })

  -- of its own
  pub writes_failing : {A T : Type 0} (old mid new : Tables S store) (one : Result A ShelfFault) (e : ShelfFault) (P : Database → A → Type 0) (IsAsked : Database → Type 0) (Becomes : Database → Database → Type 0)
      → Recalls old mid one P → Fails mid new e → Writes {T = T} old new (Err e) IsAsked Becomes
  writes_failing {A} {T} old mid new one e P IsAsked Becomes recalls fails =
      writes_not {T = T} old new one e P IsAsked Becomes
      (record {
        asks = subst (λ h. Asks (at old) (state store h) one (λ db x. AreSo old.at_hand (rows_of db received) → P db x)) (sym fails.conn) recalls.asks;
        served = subst (λ h. IsServed (at old) (state store h) one) (sym fails.conn) recalls.served;
        tallies = record { kept = omega (arith, recalls.tallies.kept, fails.kept); store = later one recalls.tallies.store };
        at_hand = λ h kept so. subst (λ (m : Counts). AreSo m (rows_of (at old).now received)) (sym fails.at_hand) (recalls.at_hand (subst (λ h. IsUnharmed (state store h)) fails.conn h) kept so);
      })
      (record { kept = omega (arith, recalls.tallies.kept, fails.kept); store = λ is. let more = fails.counted is in omega (arith, recalls.tallies.kept, more) })
    where
      later : (r : Result A ShelfFault) → IfErr r (λ e. e ≡ Store → old.failures < mid.failures) → IfErr r (λ e. e ≡ Store → old.failures < new.failures)
      later (Ok x) s = tt
      later (Err x) s = λ is. let more = s is in omega (arith, more, fails.kept)
