-- What a store's call tells of it as a keeper, where it asks the tables.
use Rattle.std.proofs.Common.{◌≡◌, ◌≢◌, ◌∙◌, ◌==◌, inl, inr, ℕ, Bool, true, false, List, cond, Result, Ok, Err, IfOk, OnOk, arith, refl, sym, ap, subst, eq-eqb, eqb-true, true≢false}
use Rattle.std.specs.Prelude.{◌≤◌, Option}
use Rattle.std.specs.FinMap as map
use Rattle.std.proofs.lemmas.Bool.{ne_eqb}
use Rattle.sqlite.specs.Effect.{Database}
use Rattle.sqlite.specs.Held.{state}
use Rattle.sqlite.specs.State.{State}
use Rattle.sqlite_trees.specs.declared.store.Store.{Ghosts}
use Rattle.gaz_records.specs.declared.item.Item.{Item}
use Rattle.gaz_records.specs.declared.key.Key.{Key}
use Rattle.gaz_views.specs.View.{View, custody_at}
use Rattle.gaz_views.specs.declared.custody.Custody.{Custody}
use Rattle.gaz_keeper.specs.Board.{reached}
use Rattle.gaz_keeper.specs.Received.{count_above}
use Rattle.gaz_keeper.specs.Telling.{IsCustodyAt, IsItemAt}
use Rattle.gaz_row_items.specs.Versions.{view_in}
use Rattle.gaz_kept.proofs.Boards.{board_reads}
use Rattle.gaz_keeper.specs.Keeper as keeper
use Rattle.gaz_keeper.specs.Keeper.{IsLawful, IsLeft, Reads, view_of, viewed}
use Rattle.gaz_keeper.specs.declared.fault.ShelfFault.{ShelfFault}
use Rattle.gaz_tables.specs.Schema.{meta, received, version2}
use Rattle.gaz_tables.specs.Tables.{rows_of}
use Rattle.gaz_kept.specs.Contents.{board_of, content_in}
use Rattle.gaz_kept.specs.Files.{files_in, reached_in}
use Rattle.gaz_kept.specs.Kept.{IsKept}
use Rattle.gaz_kept.specs.Opening.{IsOf}
use Rattle.gaz_kept.specs.LastViews.{last_in}
use Rattle.gaz_calls.specs.Asking.{Asks, AsksTables, Recalls, Tallies}
use Rattle.gaz_calls.specs.Remembered.{AreSo, held_in}
use Rattle.gaz_counts.specs.declared.counts.Counts.{Counts}
use Rattle.gaz_calls.specs.Seen.{IsUnharmed}
use Rattle.gaz_calls.specs.declared.tables.Tables.{Tables}
use Rattle.gaz_calls.proofs.Answered.{asked_more}
use Rattle.gaz_calls.proofs.Composing.{faulted}
use Rattle.gaz_store.specs.Beside.{Beside}
use Rattle.gaz_store.specs.Store.{IsElsewhere, IsOfView, StandsBeside, StoreStands, cleared, progress_of, seen_beside, seen_in, view_made, working_of}
use Rattle.gaz_store.specs.declared.judgement.Judgement.{Judgement}
use Rattle.gaz_store.specs.declared.progress.Judging.{Judging}
use Rattle.gaz_store.specs.declared.progress.Judging.TheVariants.{Idle, Open, Broken}
use Rattle.gaz_store.specs.declared.store.Store.{Store}
use Rattle.gaz_store.proofs.Whole.{whole_still}
use Rattle.gaz_kept.proofs.LawfulViews.{board_view, last_is}

-- ---- a cleared judgement

pub left_cleared : (j : Judging) → IsLeft (progress_of j) (progress_of (cleared j))
left_cleared Idle = refl
left_cleared (Open m) = refl
left_cleared Broken = λ c e. cc

pub not_broken : (j : Judging) → progress_of (cleared j) ≢ keeper.Broken
not_broken Idle e = cc
not_broken (Open m) e = cc
not_broken Broken e = cc

pub working_cleared : (db : Database) (j : Judging) → working_of db (cleared j) ≡ working_of db j
working_cleared db Idle = refl
working_cleared db (Open m) = refl
working_cleared db Broken = refl

pub beside_cleared : (db : Database) (j : Judging) → StandsBeside db j → StandsBeside db (cleared j)
beside_cleared db Idle stands = stands
beside_cleared db (Open m) stands = stands
beside_cleared db Broken stands = tt

open_still : (j : Judging) (m : Judgement) → cleared j ≡ Open m → j ≡ Open m
open_still Idle m is = cc
open_still (Open n) m is = is
open_still Broken m is = cc

elsewhere_still : (j : Judging) (c : ℕ) → IsElsewhere (cleared j) c → IsElsewhere j c
elsewhere_still Idle c is = tt
elsewhere_still (Open n) c is = is
elsewhere_still Broken c is = tt

if_ok : {T E : Type 0} (r : Result T E) (P Q : T → Type 0) → ((x : T) → P x → Q x) → IfOk r P → IfOk r Q
if_ok (Ok x) P Q f h = f x h
if_ok (Err e) P Q f h = tt

pub on_ok_all : {T E : Type 0} {P : Type 0} (r : Result T E) → P → OnOk r P
on_ok_all (Ok x) h = h
on_ok_all (Err e) h = tt

-- a judgement goes on as another: of the same custodian, with the same view
pub record GoesOnAs (old new : Judging) : Type 0 where
  pub progress : progress_of new ≡ progress_of old
  pub working : (db : Database) → working_of db new ≡ working_of db old

pub goes_on_alone : (j : Judging) → GoesOnAs j j
goes_on_alone j = record { progress = refl; working = λ db. refl }

-- ---- a call that asks is one that reads

module _ {T : Type 0} (register : List ℕ) (old new : State) (before after : Counts) (j k : Judging) (f g : ℕ) (r : Result T ShelfFault)
    (IsRight : Database → T → Type 0) (Q : T → Type 0) (goes_on : GoesOnAs (cleared j) k)
    (beside : IsUnharmed new → IsKept old.now → StandsBeside old.now (cleared j) → StandsBeside old.now k)
    (asks : Asks old new r IsRight) (tallies : Tallies f g r)
    (at_hand : IsUnharmed new → IsKept old.now → AreSo before (rows_of old.now received) → AreSo after (rows_of old.now received))
    (goes : (x : T) → StoreStands register old before j → StandsBeside old.now k → IsRight old.now x → Q x) where
  still : StoreStands register old before j → IsUnharmed new → new.now ≡ old.now
  still stood h = asks.rests h stood.tables.kept.tables

  working_then : (db : Database) → working_of db k ≡ working_of db j
  working_then db = goes_on.working db ∙ working_cleared db j

  beside_then : StoreStands register old before j → IsUnharmed new → StandsBeside old.now k
  beside_then stood h = beside h stood.tables.kept (beside_cleared old.now j stood.beside)

  abbrev StandsNow : Database → Type 0
  StandsNow db = (IsKept db) × (IsOf register (rows_of db meta)) × (AreSo after (rows_of db received)) × (IsLawful (content_in db (working_of db k))) × (StandsBeside db k)

  stands_then : StoreStands register old before j → IsUnharmed new → (db : Database) → old.now ≡ db → StandsNow db
  stands_then stood h db same = subst StandsNow same
      (stood.tables.kept, stood.tables.whose, at_hand h stood.tables.kept stood.tables.so, subst (λ w. IsLawful (content_in old.now w)) (sym (working_then old.now)) stood.tables.lawful, beside_then stood h)

  pub noted_reads : Reads (seen_beside register old before j f) (seen_beside register new after k g) r Q
  noted_reads = record {
    keeps = record {
      harm = asks.harm;
      stands = λ stood h.
          let s = stands_then stood h new.now (sym (still stood h)) in
          record { tables = record { kept = s.0; whose = s.1; so = s.2; lawful = s.3 }; beside = s.4 };
      content = λ stood h.
          ap (λ w. content_in new.now w) (working_then new.now)
          ∙ ap (λ (db : Database). content_in db (working_of db j)) (still stood h);
      progress = subst (IsLeft (progress_of j)) (sym goes_on.progress) (left_cleared j);
      leaves = λ sound k l.
          let s = asks.leaves (λ h. (sound h).tables.kept.tables) in
          record {
            clean = omega (arith, s.clean, l.clean);
            db = l.db;
            sound = l.sound;
            left = elim (s.crash l.clean l.db.trees l.left) [ inl was ↦ was | inr never ↦ absurd never ];
            content = l.content;
          };
      whole = λ sound. whole_still register old new (asks.leaves (λ h. (sound h).tables.kept.tables));
    };
    right = λ stood h. if_ok r (IsRight old.now) Q (λ x is. goes x stood (beside_then stood h) is) (asks.right h stood.tables.kept);
    cleared = on_ok_all r (λ e. not_broken j (sym goes_on.progress ∙ e));
    counts = record { kept = tallies.kept; store = tallies.store; trust = asks.trust };
  }

-- and one that leaves the judgement as it is
module _ {T : Type 0} (register : List ℕ) (old new : State) (before after : Counts) (j : Judging) (f g : ℕ) (r : Result T ShelfFault)
    (IsRight : Database → T → Type 0) (Q : T → Type 0) (asks : Asks old new r IsRight) (tallies : Tallies f g r)
    (at_hand : IsUnharmed new → IsKept old.now → AreSo before (rows_of old.now received) → AreSo after (rows_of old.now received))
    (goes : (x : T) → StoreStands register old before j → IsRight old.now x → Q x) where
  pub store_reads : Reads (seen_beside register old before j f) (seen_beside register new after (cleared j) g) r Q
  store_reads = noted_reads register old new before after j (cleared j) f g r IsRight Q (goes_on_alone (cleared j)) (λ h kept stands. stands) asks tallies at_hand (λ x stood beside is. goes x stood is)

-- ---- what is seen of a custodian

-- elsewhere, its last view
viewed_last : (db : Database) → IsKept db → (j : Judging) (c : ℕ) → IsElsewhere j c → viewed (progress_of j) (content_in db (working_of db j)) c ≡ last_in db c
viewed_last db kept Idle c other = last_is db kept c
viewed_last db kept (Open m) c other =
    ap (λ b. cond b (view_made db m) (keeper.viewed keeper.Idle (content_in db (view_made db m)) c)) (ne_eqb c m.code (λ e. other (sym e)))
    ∙ last_is db kept c
viewed_last db kept Broken c other = last_is db kept c

-- where its volume is judged, the view that the changes make
viewed_here : (db : Database) (m : Judgement) (c : ℕ) → m.code ≡ c → viewed (keeper.Open m.code) (content_in db (view_made db m)) c ≡ view_made db m
viewed_here db m c is = ap (λ b. cond b (view_made db m) (keeper.viewed keeper.Idle (content_in db (view_made db m)) c)) (eq-eqb c m.code (sym is))

-- ---- calls of a store

module _ {S R : Type 0} {store : Ghosts S} {T : Type 0} (register : List ℕ) (old : Store S R store) (tables : Tables S store) (k : Judging) (is_cleared : k ≡ cleared old.judging) (r : Result T ShelfFault) where
  abbrev db : Database
  db = (state store old.tables.conn).now

  abbrev Tells : (T → Type 0) → Judging → Type 0
  Tells Q j = Reads (seen_in register old) (seen_in register (record old { tables = tables; judging = j })) r Q

  -- what is asked of the board
  pub tells : (P : Database → T → Type 0) (Q : T → Type 0) → AsksTables old.tables tables r P → ((x : T) → IsKept db → P db x → Q x) → Tells Q k
  tells P Q asks goes =
      subst (Tells Q) (sym is_cleared)
      (store_reads register _ _ _ _ old.judging _ _ r P Q asks.asks asks.tallies (λ h kept so. subst (λ m. AreSo m (rows_of db received)) (sym asks.at_hand) so)
      (λ x stood is. goes x stood.tables.kept is))

  -- what is at hand, or asked
  pub tells_recalled : (P : Database → T → Type 0) (Q : T → Type 0) → Recalls old.tables tables r P → ((x : T) → IsKept db → P db x → Q x) → Tells Q k
  tells_recalled P Q recalls goes =
      subst (Tells Q) (sym is_cleared)
      (store_reads register _ _ _ _ old.judging _ _ r (λ d x. AreSo old.tables.at_hand (rows_of d received) → P d x) Q recalls.asks recalls.tallies recalls.at_hand
      (λ x stood is. goes x stood.tables.kept (is stood.tables.so)))

  -- what is asked of a custodian's last view, while its volume isn't judged
  pub tells_last : (P : View → T → Type 0) (c : ℕ) → IsElsewhere k c → AsksTables old.tables tables r (λ d x. P (last_in d c) x) → Tells (λ x. P (view_of (seen_in register old) c) x) k
  tells_last P c other asks =
      tells (λ d x. P (last_in d c) x) (λ x. P (view_of (seen_in register old) c) x) asks
      (λ x kept is. subst (λ v. P v x) (sym (viewed_last db kept old.judging c (elsewhere_still old.judging c (subst (λ j. IsElsewhere j c) is_cleared other)))) is)

  -- and of its working view, while it is
  pub tells_beside : (P : View → T → Type 0) (c : ℕ) (m : Judgement) → k ≡ Open m → m.code ≡ c → AsksTables old.tables tables r (λ d x. Beside d m (λ w. P w x))
      → Tells (λ x. P (view_of (seen_in register old) c) x) k
  tells_beside P c m is own asks =
      subst (Tells (λ x. P (view_of (seen_in register old) c) x)) (sym is_cleared)
      (store_reads register _ _ _ _ old.judging _ _ r (λ d x. Beside d m (λ w. P w x)) (λ x. P (view_of (seen_in register old) c) x) asks.asks asks.tallies
      (λ h kept so. subst (λ a. AreSo a (rows_of db received)) (sym asks.at_hand) so)
      (λ x stood right. by_judging old.judging (open_still old.judging m (sym is_cleared ∙ is)) stood.beside x right))
    where
      by_judging : (j : Judging) → j ≡ Open m → StandsBeside db j → (x : T) → Beside db m (λ w. P w x) → P (viewed (progress_of j) (content_in db (working_of db j)) c) x
      by_judging j same beside x right =
          subst (λ k. P (viewed (progress_of k) (content_in db (working_of db k)) c) x) (sym same)
          (subst (λ v. P v x) (sym (viewed_here db m c own)) (right (view_made db m) (subst (StandsBeside db) same beside).makes))

  -- what is asked of its view, whichever it is, once more is known of the judgement
  pub tells_noted : (P : View → T → Type 0) (c : ℕ) (next : Judging) → GoesOnAs (cleared old.judging) next
      → (IsUnharmed (state store tables.conn) → IsKept db → StandsBeside db (cleared old.judging) → StandsBeside db next)
      → AsksTables old.tables tables r (λ d x. IsOfView d next c (λ v. P v x))
      → Tells (λ x. P (view_of (seen_in register old) c) x) next
  tells_noted P c next goes_on beside asks =
      noted_reads register _ _ _ _ old.judging next _ _ r (λ d x. IsOfView d next c (λ v. P v x)) (λ x. P (view_of (seen_in register old) c) x) goes_on beside asks.asks asks.tallies
      (λ h kept so. subst (λ a. AreSo a (rows_of db received)) (sym asks.at_hand) so)
      (λ x stood stands right. subst (λ v. P v x) viewed_next (by_judging next stood.tables.kept stands x right))
    where
      cleared_view : (j : Judging) → viewed (progress_of (cleared j)) (content_in db (working_of db (cleared j))) c ≡ viewed (progress_of j) (content_in db (working_of db j)) c
      cleared_view Idle = refl
      cleared_view (Open m) = refl
      cleared_view Broken = refl

      viewed_next : viewed (progress_of next) (content_in db (working_of db next)) c ≡ viewed (progress_of old.judging) (content_in db (working_of db old.judging)) c
      viewed_next = (λ i. viewed (goes_on.progress i) (content_in db (goes_on.working db i)) c) ∙ cleared_view old.judging

      by_judging : (j : Judging) → IsKept db → StandsBeside db j → (x : T) → IsOfView db j c (λ v. P v x) → P (viewed (progress_of j) (content_in db (working_of db j)) c) x
      by_judging Idle kept beside x right = subst (λ v. P v x) (sym (viewed_last db kept Idle c tt)) right
      by_judging Broken kept beside x right = subst (λ v. P v x) (sym (viewed_last db kept Broken c tt)) right
      by_judging (Open m) kept beside x right = by_test (m.code == c) refl
        where
          by_test : (b : Bool) → (m.code == c) ≡ b → P (viewed (keeper.Open m.code) (content_in db (view_made db m)) c) x
          by_test true is =
              let own = eqb-true m.code c is in
              subst (λ v. P v x) (sym (viewed_here db m c own)) (right.0 own (view_made db m) beside.makes)
          by_test false is =
              let other : m.code ≢ c = λ e. absurd (true≢false (sym (eq-eqb m.code c e) ∙ is)) in
              subst (λ v. P v x) (sym (viewed_last db kept (Open m) c other)) (right.1 other)

  -- behind a call that told more of the judgement
  pub tells_after : (P : View → T → Type 0) (c : ℕ) (asked : Tables S store) (first : Result (Unit {0}) ShelfFault) (x : Unit {0}) (next : Judging)
      → progress_of next ≡ progress_of k → ((d : Database) → working_of d next ≡ working_of d k)
      → AsksTables old.tables asked first (λ d y. StandsBeside d k → StandsBeside d next) → first ≡ Ok x
      → AsksTables asked tables r (λ d y. IsOfView d next c (λ v. P v y))
      → Tells (λ y. P (view_of (seen_in register old) c) y) next
  tells_after P c asked first x next progress working before is after =
      tells_noted P c next (record { progress = progress ∙ ap progress_of is_cleared; working = λ d. working d ∙ ap (working_of d) is_cleared })
      (λ h kept stands. subst (λ q. IfOk q (λ y. StandsBeside db k → StandsBeside db next)) is (before.asks.right (after.asks.harm h) kept) (subst (StandsBeside db) (sym is_cleared) stands))
      (asked_more _ _ _ first r x _ _ _ before after is (λ d kept was y right. right))

  -- or as it was
  pub tells_of_view : (P : View → T → Type 0) (c : ℕ) (asked : Judging) → asked ≡ cleared old.judging → AsksTables old.tables tables r (λ d x. IsOfView d asked c (λ v. P v x))
      → Tells (λ x. P (view_of (seen_in register old) c) x) k
  tells_of_view P c asked same asks =
      subst (Tells (λ x. P (view_of (seen_in register old) c) x)) (sym is_cleared)
      (tells_noted P c (cleared old.judging) (goes_on_alone (cleared old.judging)) (λ h kept stands. stands)
      (subst (λ j. AsksTables old.tables tables r (λ d x. IsOfView d j c (λ v. P v x))) same asks))

  -- of a fault nothing more is told
  pub tells_fault : {A : Type 0} (first : Result A ShelfFault) (e : ShelfFault) (P : Database → A → Type 0) (Q : T → Type 0) → AsksTables old.tables tables first P → first ≡ Err e → r ≡ Err e → Tells Q k
  tells_fault first e P Q asks is ends =
      tells (λ d x. ⊥) Q (subst (λ q. AsksTables old.tables tables q (λ d x. ⊥)) (sym ends) (faulted _ _ first e P _ asks is)) (λ x kept never. absurd never)

-- how many files wait above the judged ones
pub tells_held : {S R : Type 0} {store : Ghosts S} (register : List ℕ) (old : Store S R store) (tables : Tables S store) (k : Judging) → k ≡ cleared old.judging → (r : Result ℕ ShelfFault) (c : ℕ)
    → Recalls old.tables tables r (λ d n. n ≡ held_in (rows_of d received) c)
    → Reads (seen_in register old) (seen_in register (record old { tables = tables; judging = k })) r (λ n. n ≡ count_above (seen_in register old).content.files c (reached (seen_in register old).content.board c))
tells_held {S} {R} {store} register old tables k is_cleared r c recalls =
    let db = (state store old.tables.conn).now in
    tells_recalled register old tables k is_cleared r (λ d n. n ≡ held_in (rows_of d received) c) _ recalls
    (λ n kept is. is ∙ ap (count_above (files_in (rows_of db received)) c) (sym (board_reads (rows_of db received) (rows_of db version2) c).reached))

-- ---- what is read of the board

-- the item at a key after a volume that is reached
pub at_so : (db : Database) → IsKept db → (c volume : ℕ) (k : Key) (i : Option Item)
    → (volume ≤ reached_in (rows_of db received) c → i ≡ map.get (view_in (rows_of db version2) c volume).items k) → IsItemAt (board_of db) c volume k i
at_so db kept c volume k i is le =
    let within = subst (λ n. volume ≤ n) (board_reads (rows_of db received) (rows_of db version2) c).reached le in
    is within ∙ ap (λ v. map.get v.items k) (sym (board_view db kept c volume within))

-- and what last became of a number
pub custody_at_so : (db : Database) → IsKept db → (c volume uprn : ℕ) (x : Option Custody)
    → (volume ≤ reached_in (rows_of db received) c → x ≡ custody_at (view_in (rows_of db version2) c volume) uprn) → IsCustodyAt (board_of db) c volume uprn x
custody_at_so db kept c volume uprn x is le =
    let within = subst (λ n. volume ≤ n) (board_reads (rows_of db received) (rows_of db version2) c).reached le in
    is within ∙ ap (λ v. custody_at v uprn) (sym (board_view db kept c volume within))
