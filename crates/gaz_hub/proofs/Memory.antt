-- A hub's calls, with what it remembers.
use Rattle.std.proofs.Common.{◌≡◌, ◌≤◌, ◌+◌, ℕ, true, false, cond, ◌||◌, eqb, eqb-true, ◌<◌, List, [], ◌∷◌, ◌++◌, take, length, get_or, refl, sym, ap, ◌∙◌, subst, true≢false, append_assoc, inl, inr, arith, le_trans}
use Rattle.std.proofs.lemmas.List.{take_all, take_more}
use Rattle.std.specs.Prelude.{⊤, Option, Some, None, Result, Ok, Err, OnOk}
use Rattle.std.specs.Option.{option_map, unwrap_or}
use Rattle.std.specs.FinMap as finmap
use Rattle.gaz_changefile.specs.Reading.{Reading}
use Rattle.gaz_register.specs.Registers.{RegisterValue, blocks_of, knows}
use Rattle.gaz_rules.specs.Judging.{judged_on}
use Rattle.gaz_keeper.specs.Board.{Board, reached}
use Rattle.gaz_keeper.specs.Keeper.{Content, Enters, IsNew, Seen, with_judgement, with_received}
use Rattle.gaz_keeper.specs.Received.{Received}
use Rattle.gaz_keeper.specs.declared.fault.ShelfFault.{ShelfFault}
use Rattle.gaz_extract.proofs.Readings.{if_ok}
use Rattle.gaz_extract.specs.Readings.{Looks}
use Rattle.gaz_keeper.proofs.Keeping.{keeps_then}
use Rattle.gaz_waiters.specs.Remembered.{Remembered, all_ahead, is_among, known_in, nobody_ahead, wanted_by, with_coming, with_judged, with_nothing_wanted, with_waiter}
use Rattle.gaz_steps.specs.Hubs.{StandsFor, door_of}
use Rattle.gaz_steps.specs.Outcomes.{wants}
use Rattle.gaz_hub.specs.Seen.{CallsKeeper, IsAfterComing, IsKeptOrLost, kept_seen, sured}
use Rattle.gaz_hub.specs.Settling.{Advances, IsNext, Tells}
use Rattle.gaz_steps.specs.Step.{Door}
use Rattle.gaz_hub.specs.Waiting.{IsRight, IsSo, RestAfter, RestBut, Rests, remembering}
use Rattle.gaz_hub.specs.declared.looking.Next.TheVariants as next
use Rattle.gaz_hub.proofs.Advancing.{Adds, IsNow}
use Rattle.gaz_steps.proofs.Added.{added_is}
use Rattle.gaz_hub.proofs.Rounds.{stops_of_remembering}
use Rattle.gaz_hub.proofs.Waiting.{in_neither, known_among, nothing_wanted, now_waits, now_wanted, others_wanted, rests_on, rests_with, still_waits, still_wanted, unwoken}

-- ---- one custodian

-- where the content stays, who rested rests
rests_in : (m : Remembered) (k l : Content) (c : ℕ) → l ≡ k → Rests m k.files k.board c → Rests m l.files l.board c
rests_in m k l c e = subst (λ (x : Content). Rests m x.files x.board c) (sym e)

-- a custodian was judged
pub rest_judged : {T : Type 0} (register : RegisterValue) (a c : Seen) (x : T) (code volume : ℕ) (rd : Reading) (m k : Remembered)
    → Adds a c (Ok x) code (IsNow a.content code rd) (judged_on (blocks_of register code) a.content.board code rd)
    → (a.stands → c.unharmed → (volume ≡ reached a.content.board code + 1) × IsNow a.content code rd)
    → k ≡ with_judged m (code, volume) → RestAfter (code ∷ []) (door_of register) m a k c
rest_judged register a c x code volume rd m k adds met woke stood fine others rest d known ahead among =
    let now = met stood.0 fine in
    let w = with_judged m (code, reached a.content.board code + 1) in
    let same : k ≡ w = woke ∙ ap (λ v. with_judged m (code, v)) now.0 in
    let un = unwoken m (code, reached a.content.board code + 1) d (ap (λ (y : Remembered). is_among y.ahead d) (sym same) ∙ ahead) in
    let was = rest d known un.before (ap (λ b. b || is_among others d) un.another ∙ among) in
    let is = rests_on (blocks_of register) a.content.files a.content.board code now.1.0 m d un was in
    let e : c.content ≡ with_judgement a.content code (judged_on (blocks_of register code) a.content.board code rd) = adds.done stood.0 now.1 fine in
    let board : c.content.board ≡ _ = ap (λ (y : Content). y.board) e ∙ added_is (blocks_of register) a.content.files a.content.board code rd now.1.1 in
    let files : c.content.files ≡ a.content.files = ap (λ (y : Content). y.files) e in
    subst (λ (y : Remembered). Rests y c.content.files c.content.board d) (sym same)
    (subst (λ (y : Received × Board). Rests w y.0 y.1 d) (λ i. (sym files i, sym board i)) is)

-- a custodian waits
pub rest_waiting : (register : RegisterValue) (a b : Seen) (code whom volume : ℕ) (m k : Remembered)
    → Looks a b (Ok (next.Waits whom volume)) (IsNext a.content.files a.content.board code)
    → k ≡ with_waiter m (whom, volume) code → RestAfter (code ∷ []) (door_of register) m a k b
rest_waiting register a b code whom volume m k looked noted stood fine others rest d known ahead among =
    let found = looked.right stood.0 fine in
    let same = looked.keeps.content stood.0 fine in
    let w = with_waiter m (whom, volume) code in
    let unahead = ap (λ (y : Remembered). is_among y.ahead d) (sym noted) ∙ ahead in
    subst (λ (y : Remembered). Rests y b.content.files b.content.board d) (sym noted)
    (rests_in w a.content b.content d same
    (elim (eqb code d) as (λ t. eqb code d ≡ t → Rests w a.content.files a.content.board d) [
      | true ↦ λ t. itself (eqb-true code d t) found
      | false ↦ λ t.
          let was = rest d known unahead (ap (λ y. y || is_among others d) t ∙ among) in
          record {
            unready = was.unready;
            waits = λ p want. still_waits m (whom, volume) p code d (was.waits p want);
            wanted = still_wanted m (whom, volume) code d t ∙ was.wanted;
          }
    ] refl))
  where
    waiting_at : Option (ℕ × ℕ) → List ℕ
    waiting_at None = []
    waiting_at (Some q) = unwrap_or (finmap.get (with_waiter m (whom, volume) code).waiting q) []

    itself : code ≡ d → IsNext a.content.files a.content.board code (next.Waits whom volume) → Rests (with_waiter m (whom, volume) code) a.content.files a.content.board d
    itself is found =
        subst (λ e. Rests (with_waiter m (whom, volume) code) a.content.files a.content.board e) is
        (record {
          unready = found.0;
          waits = λ p want.
              let e : Some (whom, volume) ≡ Some p = sym found.1 ∙ want in
              subst (λ (q : Option (ℕ × ℕ)). is_among (waiting_at q) code ≡ true) e (now_waits m (whom, volume) code);
          wanted = now_wanted m (whom, volume) code ∙ sym found.1;
        })

-- a custodian waits for nothing
pub rest_done : (register : RegisterValue) (a b : Seen) (code : ℕ) (m k : Remembered)
    → Looks a b (Ok next.Done) (IsNext a.content.files a.content.board code)
    → k ≡ with_nothing_wanted m code → RestAfter (code ∷ []) (door_of register) m a k b
rest_done register a b code m k looked noted stood fine others rest d known ahead among =
    let found = looked.right stood.0 fine in
    let same = looked.keeps.content stood.0 fine in
    let w = with_nothing_wanted m code in
    let unahead = ap (λ (y : Remembered). is_among y.ahead d) (sym noted) ∙ ahead in
    subst (λ (y : Remembered). Rests y b.content.files b.content.board d) (sym noted)
    (rests_in w a.content b.content d same
    (elim (eqb code d) as (λ t. eqb code d ≡ t → Rests w a.content.files a.content.board d) [
      | true ↦ λ t. itself (eqb-true code d t) found
      | false ↦ λ t.
          let was = rest d known unahead (ap (λ y. y || is_among others d) t ∙ among) in
          record { unready = was.unready; waits = was.waits; wanted = others_wanted m code d t ∙ was.wanted }
    ] refl))
  where
    itself : code ≡ d → IsNext a.content.files a.content.board code next.Done → Rests (with_nothing_wanted m code) a.content.files a.content.board d
    itself is found =
        subst (λ e. Rests (with_nothing_wanted m code) a.content.files a.content.board e) is
        (record {
          unready = found.0;
          waits = λ p want. let no : None ≡ Some p = sym found.1 ∙ want in cc;
          wanted = nothing_wanted m code ∙ sym found.1;
        })

-- ---- one after another

pub rest_still : (door : Door) (m : Remembered) (a : Seen) → RestAfter [] door m a m a
rest_still door m a stood fine others rest = rest

-- those at the front of a list, and the next one
pub rest_more : (door : Door) (codes : List ℕ) (i n : ℕ) (code : ℕ) (a b c : Seen) (m k l : Remembered) → i < length codes → code ≡ get_or codes i code
    → Advances door n a b → (c.unharmed → b.unharmed)
    → RestAfter (take i codes) door m a k b → RestAfter (code ∷ []) door k b l c → RestAfter (take (i + 1) codes) door m a l c
rest_more door codes i n code a b c m k l below is first harm before then stood fine others rest =
    let mid = harm fine in
    let e : take (i + 1) codes ++ others ≡ take i codes ++ code ∷ others =
    ap (λ xs. xs ++ others) (take_more codes i code below ∙ ap (λ y. take i codes ++ y ∷ []) (sym is)) ∙ append_assoc (take i codes) (code ∷ []) others in
    then (first.stands stood mid) fine others
    (before stood mid (code ∷ others) (subst (λ xs. RestBut xs door.register m a.content) e rest))

pub rest_all : (door : Door) (codes : List ℕ) (i : ℕ) (a b : Seen) (m k : Remembered) → length codes ≤ i → RestAfter (take i codes) door m a k b → RestAfter codes door m a k b
rest_all door codes i a b m k past = subst (λ xs. RestAfter xs door m a k b) (take_all i codes past)

-- all who were to be looked at are taken
rest_taken : (door : Door) (m : Remembered) (codes : List ℕ) (taken k : Remembered) (a b : Seen) → codes ≡ m.ahead → taken ≡ nobody_ahead m → RestAfter codes door taken a k b → RestAfter [] door m a k b
rest_taken door m codes taken k a b e f rest stood fine others was =
    rest stood fine others (λ c known ahead among.
    let no = in_neither codes others c among in
    let r = was c known (ap (λ xs. is_among xs c) (sym e) ∙ no.0) no.1 in
    subst (λ (w : Remembered). Rests w a.content.files a.content.board c) (sym f) (record { unready = r.unready; waits = r.waits; wanted = r.wanted }))

pub rest_of_taken : {T : Type 0} (door : Door) (m : Remembered) (codes : List ℕ) (taken k : Remembered) (a b : Seen) (r : Result T ShelfFault) → codes ≡ m.ahead → taken ≡ nobody_ahead m
    → OnOk r (RestAfter codes door taken a k b) → OnOk r (RestAfter [] door m a k b)
rest_of_taken door m codes taken k a b (Ok x) e f rest = rest_taken door m codes taken k a b e f rest
rest_of_taken door m codes taken k a b (Err x) e f rest = tt

-- round after round
pub rest_then : (door : Door) (n : ℕ) (a b c : Seen) (m k l : Remembered) → Advances door n a b → (c.unharmed → b.unharmed) → RestAfter [] door m a k b → RestAfter [] door k b l c → RestAfter [] door m a l c
rest_then door n a b c m k l first harm before then stood fine others rest =
    let mid = harm fine in
    then (first.stands stood mid) fine others (before stood mid others rest)

-- ---- with what is remembered

-- a settling that was told of other memories
pub tells_kept : {T : Type 0} (door : Door) (register : RegisterValue) (old was new : Option Remembered) (a c : Seen) (r : Result T ShelfFault) (P : T → Type 0)
    → (IsRight register old a.content → IsRight register was a.content) → Tells door (remembering register was a) c r P
    → (StandsFor door (remembering register was a) → c.unharmed → IsRight register new c.content)
    → Tells door (remembering register old a) (remembering register new c) r P
tells_kept door register old was new a c r P up l right =
    record {
      advances = record {
        harm = l.advances.harm;
        stands = λ stood fine.
            let s = stands_up stood in
            let then = l.advances.stands s fine in
            ((then.0, right s fine), then.1);
        files = λ stood fine. l.advances.files (stands_up stood) fine;
        board = λ stood fine. l.advances.board (stands_up stood) fine;
        many = λ stood fine. l.advances.many (stands_up stood) fine;
        idle = l.advances.idle;
        kept = l.advances.kept;
        trust = l.advances.trust;
        stops = λ sound. let s = l.advances.stops (λ fine. stands_up (sound fine)) in record { ever = s.ever; now = s.now; whole = s.whole };
      };
      settled = λ stood fine. l.settled (stands_up stood) fine;
      right = λ stood fine. l.right (stands_up stood) fine;
      cause = λ stood fine. l.cause (stands_up stood) fine;
    }
  where
    stands_up : StandsFor door (remembering register old a) → StandsFor door (remembering register was a)
    stands_up stood = ((stood.0.0, up stood.0.1), stood.1)

-- a settling of a keeper alone, of which something is remembered
pub tells_over : {T : Type 0} (door : Door) (register : RegisterValue) (was : Option Remembered) (a c : Seen) (r : Result T ShelfFault) (P : T → Type 0)
    → Tells door a c r P → Tells door (remembering register was a) c r P
tells_over door register was a c r P l =
    record {
      advances = record {
        harm = l.advances.harm;
        stands = λ stood fine. l.advances.stands (stood.0.0, stood.1) fine;
        files = λ stood fine. l.advances.files (stood.0.0, stood.1) fine;
        board = λ stood fine. l.advances.board (stood.0.0, stood.1) fine;
        many = λ stood fine. l.advances.many (stood.0.0, stood.1) fine;
        idle = l.advances.idle;
        kept = l.advances.kept;
        trust = l.advances.trust;
        stops = λ sound. stops_of_remembering register was a c (l.advances.stops (λ fine. let stood = sound fine in (stood.0.0, stood.1)));
      };
      settled = λ stood fine. l.settled (stood.0.0, stood.1) fine;
      right = λ stood fine. l.right (stood.0.0, stood.1) fine;
      cause = λ stood fine. l.cause (stood.0.0, stood.1) fine;
    }

-- nothing is right of everything
pub forgotten : (register : RegisterValue) (new : Option Remembered) (k : Content) → new ≡ None → IsRight register new k
forgotten register new k e = subst (λ (w : Option Remembered). IsRight register w k) (sym e) tt

-- everyone is ahead where nothing is remembered
pub recalled : (register : RegisterValue) (old : Option Remembered) (k : Content) → IsRight register old k → RestBut [] register (unwrap_or old (all_ahead register)) k
recalled register None k h = λ c known ahead among. absurd (true≢false (sym (known_among register c known) ∙ ahead))
recalled register (Some m) k h = h

pub recalled_as : (register : RegisterValue) (old : Option Remembered) (known : Remembered) (k : Content) → known ≡ unwrap_or old (all_ahead register) → IsRight register old k
    → IsRight register (Some known) k
recalled_as register old known k e h = subst (λ (m : Remembered). RestBut [] register m k) (sym e) (recalled register old k h)

-- what was right stays so where the content does
pub right_in : (register : RegisterValue) (old new : Option Remembered) (k l : Content) → l ≡ k → IsKeptOrLost old new → IsRight register old k → IsRight register new l
right_in register old new k l e (inl same) h = subst (λ (x : Option Remembered × Content). IsRight register x.0 x.1) (λ i. (sym same i, sym e i)) h
right_in register old new k l e (inr lost) h = forgotten register new l lost

-- a look at a keeper, of which something is remembered
pub looks_kept : {T : Type 0} (register : RegisterValue) (old new : Option Remembered) (b c : Seen) (r : Result T ShelfFault) (P : T → Type 0) → IsKeptOrLost old new
    → Looks b c r P → Looks (remembering register old b) (remembering register new c) r P
looks_kept register old new b c r P kept l =
    record {
      keeps = record {
        harm = l.keeps.harm;
        stands = λ stood fine. (l.keeps.stands stood.0 fine, right_in register old new b.content c.content (l.keeps.content stood.0 fine) kept stood.1);
        content = λ stood fine. l.keeps.content stood.0 fine;
        progress = l.keeps.progress;
        leaves = λ sound. l.keeps.leaves (λ fine. (sound fine).0);
        whole = λ sound. l.keeps.whole (λ fine. (sound fine).0);
      };
      right = λ stood fine. l.right stood.0 fine;
      counts = record { kept = l.counts.kept; store = l.counts.store; trust = l.counts.trust };
    }

-- what was told and is sure
pub looks_sured : {T : Type 0} (a b c : Seen) (told : Result T ShelfFault) (done : Result (Unit {0}) ShelfFault) (r : Result T ShelfFault) (P : T → Type 0)
    → Looks a b told P → Looks b c done (λ _. ⊤) → r ≡ sured told done → Looks a c r P
looks_sured {T} a b c told done r P first second is = subst (λ q. Looks a c q P) (sym is) (by_told told done first second)
  where
    by_told : (told : Result T ShelfFault) (done : Result (Unit {0}) ShelfFault) → Looks a b told P → Looks b c done (λ _. ⊤) → Looks a c (sured told done) P
    by_told (Ok x) (Ok d) first second = record {
      keeps = keeps_then a b c first.keeps second.keeps;
      right = λ stood fine. first.right stood (second.keeps.harm fine);
      counts = record { kept = le_trans first.counts.kept second.counts.kept; store = tt; trust = λ t. first.counts.trust (second.counts.trust t) };
    }
    by_told (Ok x) (Err e) first second = record {
      keeps = keeps_then a b c first.keeps second.keeps;
      right = λ stood fine. tt;
      counts = record {
        kept = le_trans first.counts.kept second.counts.kept;
        store = λ is. let more = second.counts.store is in let le = first.counts.kept in omega arith;
        trust = λ t. first.counts.trust (second.counts.trust t);
      };
    }
    by_told (Err e) done first second = record {
      keeps = keeps_then a b c first.keeps second.keeps;
      right = λ stood fine. tt;
      counts = record {
        kept = le_trans first.counts.kept second.counts.kept;
        store = λ is. let more = first.counts.store is in let le = second.counts.kept in omega arith;
        trust = λ t. first.counts.trust (second.counts.trust t);
      };
    }

-- a call of the keeper, of which something is remembered
pub looks_called : {K T : Type 0} (seen : K → Seen) (register : RegisterValue) (Calls : K → Result T ShelfFault → K → Type 0) (old new : K × Option Remembered) (r : Result T ShelfFault) (P : T → Type 0)
    → (called : CallsKeeper seen Calls old r new) → Looks (seen old.0) (seen called.last) called.told P → Looks (kept_seen seen register old) (kept_seen seen register new) r P
looks_called seen register Calls old new r P called looks =
    looks_kept register old.1 new.1 (seen old.0) (seen new.0) r P called.kept
    (looks_sured (seen old.0) (seen called.last) (seen new.0) called.told called.sure.done r P looks called.sure.asked called.sure.result_is)

-- ---- what is known of what a custodian waits for

-- it is so where what is remembered is right
pub known_is_so : (register : RegisterValue) (w : Option Remembered) (k : Content) (c : ℕ) → knows register c ≡ true → IsRight register w k → IsSo k.files k.board c (known_in w c)
known_is_so register None k c known right p is = let no : None ≡ Some p = is in cc
known_is_so register (Some m) k c known right p is =
    elim (is_among m.ahead c) as (λ b. is_among m.ahead c ≡ b → cond b None (wanted_by m c) ≡ Some p → wants k.files k.board c ≡ Some p) [
      | true ↦ λ t e. let no : None ≡ Some p = e in cc
      | false ↦ λ t e. sym (right c known t refl).wanted ∙ e
    ] refl is

-- a call of the keeper that is told what is known, of which something is remembered
pub looks_knowing : {K T : Type 0} (seen : K → Seen) (register : RegisterValue) (Calls : K → Result T ShelfFault → K → Type 0) (old new : K × Option Remembered) (r : Result T ShelfFault) (c : ℕ) (P : T → Type 0)
    → knows register c ≡ true → (called : CallsKeeper seen Calls old r new)
    → Looks (seen old.0) (seen called.last) called.told (λ x. IsSo (seen old.0).content.files (seen old.0).content.board c (known_in old.1 c) → P x)
    → Looks (kept_seen seen register old) (kept_seen seen register new) r P
looks_knowing seen register Calls old new r c P known called looks =
    let l = looks_called seen register Calls old new r (λ x. IsSo (seen old.0).content.files (seen old.0).content.board c (known_in old.1 c) → P x) called looks in
    record {
      keeps = l.keeps;
      right = λ stood fine.
          if_ok r _ P (λ x says. says (known_is_so register old.1 (seen old.0).content c known stood.1)) (l.right stood fine);
      counts = l.counts;
    }

-- ---- a file comes

module _ (register : RegisterValue) (old new : Option Remembered) (a b : Seen) (c volume : ℕ) (bytes : List ℕ) where
  -- what is remembered is right of the files with the one that came
  coming : IsAfterComing (c, volume) old new → IsNew a.content c volume → b.content ≡ with_received a.content c volume bytes → IsRight register old a.content → IsRight register new b.content
  coming (inr lost) free e h = forgotten register new b.content lost
  coming (inl is) free e h = subst (λ (x : Option Remembered × Content). IsRight register x.0 x.1) (λ i. (sym is i, sym e i)) (come old h)
    where
      come : (w : Option Remembered) → IsRight register w a.content → IsRight register (option_map (λ m. with_coming m (c, volume)) w) (with_received a.content c volume bytes)
      come None h = tt
      come (Some m) h = λ d known ahead among. rests_with a.content.files a.content.board (c, volume) bytes m d free ahead (λ before. h d known before among)

  pub enters_kept : {T : Type 0} (x : T) → IsAfterComing (c, volume) old new → Enters a b (Ok x) (IsNew a.content c volume) (with_received a.content c volume bytes)
      → Enters (remembering register old a) (remembering register new b) (Ok x) (IsNew a.content c volume) (with_received a.content c volume bytes)
  enters_kept x after l =
      record {
        harm = l.harm;
        stands = λ stood free fine. (l.stands stood.0 free fine, coming after free (l.done stood.0 free fine) stood.1);
        done = λ stood free fine. l.done stood.0 free fine;
        undone = λ stood free fine. tt;
        progress = l.progress;
        cleared = l.cleared;
        counts = record { kept = l.counts.kept; store = l.counts.store; trust = l.counts.trust };
        leaves = λ sound free. l.leaves (λ fine. (sound fine).0) free;
        committed = λ sound free. l.committed (λ fine. (sound fine).0) free;
        whole = λ sound free. l.whole (λ fine. (sound fine).0) free;
      }
