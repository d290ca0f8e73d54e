-- Commands that are given one after another, at a site that keeps a store's files, are one run.
use Rattle.std.proofs.Common.{◌≡◌, ◌∙◌, ◌++◌, ◌-◌, ℕ, Bool, true, false, List, [], ◌∷◌, map, Option, Some, None, Result, ap, refl, subst, sym}
use Rattle.sqlite.specs.Effect.{Database}
use Rattle.sqlite.specs.Files.{file_state, over_files}
use Rattle.sqlite.specs.Held.{Held}
use Rattle.sqlite.specs.State.{HasCleanDisk}
use Rattle.sqlite_disk.specs.declared.Disk as disk
use Rattle.sqlite_disk.specs.declared.Files.{Files}
use Rattle.sqlite_store.specs.declared.store.FileStore.{FileStore}
use Rattle.gaz_register.specs.Registers.{IsRegister, RegisterValue}
use Rattle.gaz_calls.specs.Seen.{IsUnharmed}
use Rattle.gaz_exchange.specs.Conversing.{Transfer}
use Rattle.gaz_stored.specs.Calls as stored
use Rattle.gaz_stored.specs.Calls.{IsFoundAfter}
use Rattle.gaz_stored.specs.Runs.{IsStoreOf}
use Rattle.gaz_stored.proofs.Calling as calling
use Rattle.gaz_words.specs.declared.command.Command.{Command}
use Rattle.gaz_words.specs.declared.command.Command.TheVariants.{Play, Init, Ask, Serve, Extend, Migrate}
use Rattle.gaz_words.specs.declared.command.Places.{Places}
use Rattle.gazhub.specs.Commands.{Ends, EndsAt, EndsByMeaning, Explained, Followed}
use Rattle.gaz_filing.specs.Filing.{Closes, Connects, Makes}
use Rattle.gaz_filing.specs.Joined.{EndedWhole, FileCall, call_over}
use Rattle.gazhub.specs.Openings.{Called, Did, DoneOver, MadeStore, Opening, Over, Unconnected, opened_by_command, opened_by_meaning, opened_by_serving, opened_by_serving_once, opened_by_serving_rest, opened_by_words, with_files, with_register}
use Rattle.gazhub.specs.Serving.{Begins, More, NeverBegins, NeverTold, NoMore, ServeComesTo, ServesOnce, ServesRest, Untold, Whole}
use Rattle.gazhub.specs.Sessions.{AreCallsOf, AreCallsOfAll, AreGivenInTurn, AreLinked, Ended, FirstFound, FollowOn, Given, HadConnections, HasFound, IsBefore, IsConnected, IsFoundBehind, KeepsFiles, Session, SessionsAreOne, Stretch, ended_for, first_of, opening_for, openings_in, openings_of}
use Rattle.gazhub.specs.Sites.{Deed, HasFiles, HasRegister, NoFiles, NoRegister, WithFiles, WithRegister}
use Rattle.gazhub.specs.declared.ending.Ending.{Ending}
use Rattle.gazhub.specs.declared.files.NoHub.{NoHub}
use Rattle.gazhub.specs.declared.site.Purpose.{Purpose}
use Rattle.gaz_filing.proofs.Joining as joining
use Rattle.gaz_filing.proofs.Joining.{shown_again, was_unharmed}

module _ {D : Type 0} (g : disk.Ghosts D) where
  linked_then : (had between has : Option (Files D)) (first later : List (Opening g)) → AreLinked g had first between → AreLinked g between later has → AreLinked g had (first ++ later) has
  linked_then had between has [] later same links = subst (λ k. AreLinked g k later has) same links
  linked_then had between has (opening ∷ first) later firsts links = (firsts.0, linked_then opening.left between has first later firsts.1 links)

  module _ {S : Type 0} (done : S → Deed D → S → Type 0) (files : S → Option (Files D)) (keeps : KeepsFiles done files) where
    registered : {A : Type 0} (path : List ℕ) (Then : RegisterValue → S → S → Result A NoHub → Type 0) (before after : S) (told : Result A NoHub)
        → (then : (register : RegisterValue) → IsRegister register → (between : S) → Then register between after told → List (Opening g))
        → ((register : RegisterValue) (is : IsRegister register) (between : S) (follows : Then register between after told) → AreLinked g (files between) (then register is between follows) (files after))
        → (it : WithRegister done path Then before after told) → AreLinked g (files before) (with_register g done then it) (files after)
    registered path Then before after told then links (NoRegister why finds is) = keeps before after _ finds.does
    registered path Then before after told then links (HasRegister register between finds follows) =
        subst (λ k. AreLinked g k (then register finds.is_one between follows) (files after)) (keeps before between _ finds.does) (links register finds.is_one between follows)

    filed : {A : Type 0} (path : List ℕ) (purpose : Purpose) (Then : Files D → S → S → Result A NoHub → Type 0) (before after : S) (told : Result A NoHub)
        → (then : (found : Files D) (between : S) → Then found between after told → Opening g)
        → ((found : Files D) (between : S) (follows : Then found between after told) → ((then found between follows).files ≡ found) × (files after ≡ (then found between follows).left))
        → (it : WithFiles done path purpose Then before after told) → AreLinked g (files before) (with_files g done then it) (files after)
    filed path purpose Then before after told then gives (NoFiles opened is) = keeps before after _ opened
    filed path purpose Then before after told then gives (HasFiles found between opened follows) =
        let given = gives found between follows in
        (keeps before between _ opened ∙ ap Some (sym given.0), given.1)

    module _ (places : Places) (port : ℕ) where
      once : (connections : ℕ) (had has : Option (List ℕ)) (before after : S) (told : Result (Option ℕ) NoHub) → (it : ServesOnce done g places port connections had has before after told)
          → AreLinked g (files before) (opened_by_serving_once g done places port it) (files after)
      once connections had has before after told it =
          registered _ _ before after told _ (λ register is found. filed _ _ _ found after told _ (λ there opened it. (refl, keeps _ after _ it.serves.closed))) it

      rest : (left : ℕ) (before after : S) (ending : Ending) → (it : ServesRest done g places port left before after ending) → AreLinked g (files before) (opened_by_serving_rest g done places port it) (files after)
      rest left before after ending (Whole site) = refl
      rest left before after ending (More some served first between last how serves more) =
          linked_then (files before) (files between) (files after) _ _ (once left None None before between _ serves) (rest (left - served) between after ending more)
      rest left before after ending (Untold some first last serves) = once left None None before after _ serves
      rest left before after ending (NoMore some first last why serves) = once left None None before after _ serves

      serving : (connections : ℕ) (had has : Option (List ℕ)) (before after : S) (ending : Ending) → (it : ServeComesTo done g places port connections had has before after ending)
          → AreLinked g (files before) (opened_by_serving g done places port it) (files after)
      serving connections had has before after ending (NeverBegins why serves) = once connections had has before after _ serves
      serving connections had has before after ending (NeverTold serves) = once connections had has before after _ serves
      serving connections had has before after ending (Begins served between last serves more) = linked_then _ (files between) _ _ _ (once connections had has before between _ serves) (rest _ between after last more)

    module _ (text : List ℕ) (most : ℕ) where
      module _ (before after : S) (through : Transfer) where
        commanded : (command : Command) (ending : Ending) → (it : EndsAt done g text most before after through command ending) → AreLinked g (files before) (opened_by_command g done text most before after through command ending it) (files after)
        commanded Play ending it = ap files it.1
        commanded (Init places) ending it =
            registered _ _ before after _ _ (λ register is found. filed _ _ _ found after _ _ (λ there opened makes. (refl, keeps _ after _ makes.closed))) it.works
        commanded (Ask places call) ending it =
            registered _ _ before after _ _ (λ register is found. filed _ _ _ found after _ _ (λ there opened asks. (refl, keeps _ after _ asks.asks.closed))) it.works
        commanded (Serve places how) ending it = serving places how.port how.connections through.held through.holds before after ending it.0
        commanded (Extend places path) ending it =
            registered _ _ before after _ _ (λ register is found. registered _ _ found after _ _ (λ grown are again. filed _ _ _ again after _ _ (λ there opened grows. (refl, keeps _ after _ grows.closed)))) it.works
        commanded (Migrate places) ending it =
            registered _ _ before after _ _ (λ register is found. filed _ _ _ found after _ _ (λ there opened migrates. (refl, keeps _ after _ migrates.closed))) it.works

        meant : (words : List (List ℕ)) (ending : Ending) → (it : EndsByMeaning done g text most before after through words ending) → AreLinked g (files before) (opened_by_meaning g done text most before after through it) (files after)
        meant words ending (Followed command means ends) = commanded command ending ends
        meant words ending (Explained error means explains) = ap files explains.still

        worded : (words : Option (List (List ℕ))) (random : Bool) (ending : Ending) → (it : Ends done g text most before after through words random ending) → AreLinked g (files before) (opened_by_words g done text most before after through words random ending it) (files after)
        worded None random ending it = ap files it.1
        worded (Some words) false ending it = ap files it.1
        worded (Some words) true ending it = meant words ending it

      linked : (before after : S) (given : List (Given g done text most)) → AreGivenInTurn g done text most before given after → AreLinked g (files before) (openings_in g done text most given) (files after)
      linked before after [] still = ap files still
      linked before after (next ∷ given) follow =
          let opened = opened_by_words g done text most next.before next.after next.through next.words next.random next.came.ending next.came.ends in
          let first = worded next.before next.after next.through next.words next.random next.came.ending next.came.ends in
          linked_then (files before) (files next.after) (files after) opened _ (subst (λ s. AreLinked g (files s) opened (files next.after)) follow.0 first) (linked next.after after given follow.1)

  -- those behind some of them
  linked_behind : (had has : Option (Files D)) (past later : List (Opening g)) → AreLinked g had (past ++ later) has → (between : Option (Files D)) × AreLinked g between later has
  linked_behind had has [] later links = (had, links)
  linked_behind had has (opening ∷ past) later links = linked_behind opening.left has past later links.1

  -- and behind the last of some
  linked_after : (had has : Option (Files D)) (past : List (Opening g)) (opening : Opening g) (later : List (Opening g)) → AreLinked g had ((past ++ opening ∷ []) ++ later) has → AreLinked g opening.left later has
  linked_after had has [] opening later links = links.1
  linked_after had has (one ∷ past) opening later links = linked_after one.left has past opening later links.1

  -- the first finds the files
  links_first : (had has : Option (Files D)) (earlier : List (Opening g)) (last : Opening g) → AreLinked g had (earlier ++ last ∷ []) has → had ≡ Some (first_of g earlier last).files
  links_first had has [] last links = links.0
  links_first had has (opening ∷ earlier) last links = links.0

  -- ---- what is known of an opening that had a connection

  record Known {files : Files D} {left : Option (Files D)} (over : DoneOver g files left) : Type 0 where
    conn : Held (FileStore D g)
    after : Held (FileStore D g)
    connects : Connects g files conn
    closes : Closes g after left
    trust : HasCleanDisk (file_state after) → HasCleanDisk (file_state conn)
    finds : (db : Database) → (file_state conn).now ≡ db → HasFound g over db
    found : (db : Database) → HasFound g over db → (file_state conn).now ≡ db
    behind : (db : Database) → IsFoundBehind g over db → IsFoundAfter (over_files {D = D} {g = g}) conn after db

  -- a store was made on a disk that returned what was written, where it does in the end
  made_clean : (register : RegisterValue) (conn after : Held (FileStore D g)) → Makes g register conn after → HasCleanDisk (file_state after) → HasCleanDisk (file_state conn)
  made_clean register conn after makes clean = makes.made.trust (subst (λ k. HasCleanDisk (file_state k)) (sym makes.back) clean)

  abbrev did_trust : (conn after : Held (FileStore D g)) → Did g conn after → HasCleanDisk (file_state after) → HasCleanDisk (file_state conn)
  did_trust conn after (Called came) = calling.was_clean (over_files {D = D} {g = g}) came
  did_trust conn after (MadeStore register is makes) = made_clean register conn after makes

  abbrev known : (files : Files D) (left : Option (Files D)) (over : DoneOver g files left) → IsConnected g over → Known over
  known files left (Over over) had =
      record { conn = over.conn; after = over.after; connects = over.connects; closes = over.closes; trust = did_trust over.conn over.after over.does; finds = λ db is. is; found = λ db is. is; behind = λ db is. is }
  known files left (Unconnected fails) none = absurd none

  -- where something is found behind it, it had one
  connected_behind : (files : Files D) (left : Option (Files D)) (over : DoneOver g files left) (db : Database) → IsFoundBehind g over db → IsConnected g over
  connected_behind files left (Over over) db is = tt
  connected_behind files left (Unconnected fails) db none = none

  -- and its disk returned what was written
  clean_behind : (conn after : Held (FileStore D g)) (db : Database) → (HasCleanDisk (file_state after) → HasCleanDisk (file_state conn)) → IsFoundAfter (over_files {D = D} {g = g}) conn after db → HasCleanDisk (file_state conn)
  clean_behind conn after db trust (stored.Whole fine same) = trust fine.clean
  clean_behind conn after db trust (stored.CutOff itself may) = trust may.clean

  -- ---- over a store an opening is a call

  -- which leaves a store
  record Leaves (db : Database) : Type 0 where
    register : RegisterValue
    is : IsRegister register
    store : IsStoreOf register db

  -- a call, behind which its connection shows what is found
  record IsWholeCall {files : Files D} {left : Option (Files D)} (over : DoneOver g files left) (conn after : Database) : Type 0 where
    call : FileCall g
    are : record { files = files; left = left; over = over } ≡ opening_for g call
    whole : EndedWhole g call
    finds : (file_state call.over.conn).now ≡ conn
    ends : call.found ≡ after
    leaves : Leaves after

  -- none is made there
  none_made : (register : RegisterValue) (made : RegisterValue) (conn after : Held (FileStore D g)) → IsStoreOf register (file_state conn).now → Makes g made conn after → ⊥
  none_made register made conn after store makes = (joining.calls_are_one g).not_made made conn after makes store.stands.kept.tables

  whole_over : (register : RegisterValue) (files : Files D) (left : Option (Files D)) (conn after : Held (FileStore D g)) (connects : Connects g files conn) (did : Did g conn after) (closes : Closes g after left)
      → IsRegister register → IsStoreOf register (file_state conn).now → IsUnharmed (file_state after)
      → IsWholeCall (Over (record { conn = conn; after = after; connects = connects; does = did; closes = closes })) (file_state conn).now (file_state after).now
  whole_over register files left conn after connects (Called came) closes is store fine =
      let then = calling.leaves_store (over_files {D = D} {g = g}) register conn after (file_state after).now is store came (stored.Whole fine refl) in
      record {
        call = record { files = files; left = left; over = record { conn = conn; after = after; connects = connects; does = came; closes = closes }; found = (file_state after).now; is_found = stored.Whole fine refl };
        are = refl;
        whole = tt;
        finds = refl;
        ends = refl;
        leaves = record { register = then.0; is = then.1; store = then.2 };
      }
  whole_over register files left conn after connects (MadeStore made are makes) closes is store fine = absurd (none_made register made conn after store makes)

  whole_call : (register : RegisterValue) (files : Files D) (left : Option (Files D)) (over : DoneOver g files left) (had : IsConnected g over)
      → let it = known files left over had in IsRegister register → IsStoreOf register (file_state it.conn).now → IsUnharmed (file_state it.after) → IsWholeCall over (file_state it.conn).now (file_state it.after).now
  whole_call register files left (Over over) had is store fine = whole_over register files left over.conn over.after over.connects over.does over.closes is store fine
  whole_call register files left (Unconnected fails) none is store fine = absurd none

  -- and one behind which this is found
  record IsLastCall (ended : Ended g) (conn : Database) : Type 0 where
    call : FileCall g
    is_it : ended ≡ ended_for g call
    finds : (file_state call.over.conn).now ≡ conn
    ends : call.found ≡ ended.found
    leaves : Leaves ended.found

  last_over : (register : RegisterValue) (files : Files D) (left : Option (Files D)) (conn after : Held (FileStore D g)) (connects : Connects g files conn) (did : Did g conn after) (closes : Closes g after left) (db : Database)
      (is_found : IsFoundAfter (over_files {D = D} {g = g}) conn after db) → IsRegister register → IsStoreOf register (file_state conn).now
      → IsLastCall (record { opening = record { files = files; left = left; over = Over (record { conn = conn; after = after; connects = connects; does = did; closes = closes }) }; found = db; is_found = is_found }) (file_state conn).now
  last_over register files left conn after connects (Called came) closes db is_found is store =
      let then = calling.leaves_store (over_files {D = D} {g = g}) register conn after db is store came is_found in
      record {
        call = record { files = files; left = left; over = record { conn = conn; after = after; connects = connects; does = came; closes = closes }; found = db; is_found = is_found };
        is_it = refl;
        finds = refl;
        ends = refl;
        leaves = record { register = then.0; is = then.1; store = then.2 };
      }
  last_over register files left conn after connects (MadeStore made are makes) closes db is_found is store = absurd (none_made register made conn after store makes)

  last_call : (register : RegisterValue) (files : Files D) (left : Option (Files D)) (over : DoneOver g files left) (db : Database) (is_found : IsFoundBehind g over db) (had : IsConnected g over)
      → let it = known files left over had in IsRegister register → IsStoreOf register (file_state it.conn).now → IsLastCall (record { opening = record { files = files; left = left; over = over }; found = db; is_found = is_found }) (file_state it.conn).now
  last_call register files left (Over over) db is_found had is store = last_over register files left over.conn over.after over.connects over.does over.closes db is_found is store
  last_call register files left (Unconnected fails) db is_found none is store = absurd none

  -- ---- a stretch

  module _ (last : Ended g) where
    abbrev ended : Opening g
    ended = last.opening

    had_last : IsConnected g ended.over
    had_last = connected_behind ended.files ended.left ended.over last.found last.is_found

    -- of its first opening
    abbrev first_known : (earlier : List (Opening g)) → HadConnections g earlier → Known (first_of g earlier ended).over
    first_known [] had = known ended.files ended.left ended.over had_last
    first_known (opening ∷ earlier) had = known opening.files opening.left opening.over had.0

    abbrev first_conn : (earlier : List (Opening g)) → HadConnections g earlier → Held (FileStore D g)
    first_conn earlier had = (first_known earlier had).conn

    -- no failure had shut a connection whose files were given back to the first, and that shows the
    -- same, where the first has a disk that returned what was written
    record IsShown (old : Held (FileStore D g)) (db : Database) : Type 0 where
      fine : IsUnharmed (file_state old)
      same : db ≡ (file_state old).now

    shown : (old : Held (FileStore D g)) (left has : Option (Files D)) (earlier : List (Opening g)) (had : HadConnections g earlier) → Closes g old left → AreLinked g left (earlier ++ ended ∷ []) has
        → HasCleanDisk (file_state (first_conn earlier had)) → IsShown old (file_state (first_conn earlier had)).now
    shown old left has earlier had closes links clean =
        let next = first_known earlier had in
        let files = (first_of g earlier ended).files in
        let given = subst (Closes g old) (links_first left has earlier ended links) closes in
        record { fine = was_unharmed g old next.conn files given next.connects clean; same = shown_again g old next.conn files given next.connects clean }

    first_clean : (earlier : List (Opening g)) (had : HadConnections g earlier) (left has : Option (Files D)) → AreLinked g left (earlier ++ ended ∷ []) has → HasCleanDisk (file_state (first_conn earlier had))
    first_clean [] had left has links =
        let it = known ended.files ended.left ended.over had_last in
        clean_behind it.conn it.after last.found it.trust (it.behind last.found last.is_found)
    first_clean (opening ∷ earlier) had left has links =
        let it = known opening.files opening.left opening.over had.0 in
        it.trust (shown it.after opening.left has earlier had.1 it.closes links.1 (first_clean earlier had.1 opening.left has links.1)).fine.clean

    -- so over a store they are calls, each of which finds what is found after the one before
    record Runs (db : Database) (earlier : List (Opening g)) (had : HadConnections g earlier) : Type 0 where
      calls : List (FileCall g)
      are : AreCallsOf g (record { earlier = earlier; had = had; last = last }) calls
      follow : stored.FollowOn (over_files {D = D} {g = g}) db (map (call_over g) calls)
      ends : stored.found_last (over_files {D = D} {g = g}) db (map (call_over g) calls) ≡ last.found
      leaves : Leaves last.found

    runs : (register : RegisterValue) (left has : Option (Files D)) (earlier : List (Opening g)) (had : HadConnections g earlier) → AreLinked g left (earlier ++ ended ∷ []) has → IsRegister register
        → (db : Database) → (file_state (first_conn earlier had)).now ≡ db → IsStoreOf register db → Runs db earlier had
    runs register left has [] had links is db finds store =
        let it = last_call register ended.files ended.left ended.over last.found last.is_found had_last is (subst (IsStoreOf register) (sym finds) store) in
        record {
          calls = it.call ∷ [];
          are = record { whole = []; last = it.call; are = refl; earlier_are = refl; ended_whole = tt; last_is = it.is_it };
          follow = (it.finds ∙ finds, tt);
          ends = it.ends;
          leaves = it.leaves;
        }
    runs register left has (opening ∷ earlier) had links is db finds store =
        let here = known opening.files opening.left opening.over had.0 in
        let then = shown here.after opening.left has earlier had.1 here.closes links.1 (first_clean earlier had.1 opening.left has links.1) in
        let it = whole_call register opening.files opening.left opening.over had.0 is (subst (IsStoreOf register) (sym finds) store) then.fine in
        let rest = runs it.leaves.register opening.left has earlier had.1 links.1 it.leaves.is (file_state here.after).now then.same it.leaves.store in
        record {
          calls = it.call ∷ rest.calls;
          are = record {
            whole = it.call ∷ rest.are.whole;
            last = rest.are.last;
            are = λ i. it.call ∷ rest.are.are i;
            earlier_are = λ i. it.are i ∷ rest.are.earlier_are i;
            ended_whole = (it.whole, rest.are.ended_whole);
            last_is = rest.are.last_is;
          };
          follow = (it.finds ∙ finds, subst (λ found. stored.FollowOn (over_files {D = D} {g = g}) found (map (call_over g) rest.calls)) (sym it.ends) rest.follow);
          ends = subst (λ found. stored.found_last (over_files {D = D} {g = g}) found (map (call_over g) rest.calls) ≡ last.found) (sym it.ends) rest.ends;
          leaves = rest.leaves;
        }

  -- ---- several of them

  then_follow : (db : Database) (first rest : List (FileCall g)) → (between : Database) → stored.FollowOn (over_files {D = D} {g = g}) db (map (call_over g) first) → stored.found_last (over_files {D = D} {g = g}) db (map (call_over g) first) ≡ between
      → stored.FollowOn (over_files {D = D} {g = g}) between (map (call_over g) rest) → stored.FollowOn (over_files {D = D} {g = g}) db (map (call_over g) (first ++ rest))
  then_follow db [] rest between follow ends more = subst (λ found. stored.FollowOn (over_files {D = D} {g = g}) found (map (call_over g) rest)) (sym ends) more
  then_follow db (call ∷ first) rest between follow ends more = (follow.0, then_follow call.found first rest between follow.1 ends more)

  -- the openings of a stretch are linked, whatever was there before
  abbrev Links : Stretch g → Type 0
  Links it = (between has : Option (Files D)) × AreLinked g between (openings_of g it) has

  record AllRun (db : Database) (stretches : List (Stretch g)) : Type 0 where
    calls : List (FileCall g)
    are : AreCallsOfAll g stretches calls
    follow : stored.FollowOn (over_files {D = D} {g = g}) db (map (call_over g) calls)

  module _ {T : Type 0} (stretch_of : T → Stretch g) (links : (it : T) → Links (stretch_of it)) where
    all_run : (register : RegisterValue) (db : Database) (those : List T) → IsRegister register → IsStoreOf register db → FollowOn g db (map stretch_of those) → AllRun db (map stretch_of those)
    all_run register db [] is store follow = record { calls = []; are = refl; follow = tt }
    all_run register db (one ∷ those) is store follow =
        let it = stretch_of one in
        let links = links one in
        let finds = (first_known it.last it.earlier it.had).found db follow.0 in
        let own = runs it.last register links.0 links.1 it.earlier it.had links.2 is db finds store in
        let rest = all_run own.leaves.register it.last.found those own.leaves.is own.leaves.store follow.1 in
        record {
          calls = own.calls ++ rest.calls;
          are = (own.calls, rest.calls, own.are, rest.are, refl);
          follow = then_follow db own.calls rest.calls it.last.found own.follow own.ends rest.follow;
        }

  -- ---- the law

  module _ {S : Type 0} (done : S → Deed D → S → Type 0) (text : List ℕ) (most : ℕ) (files : S → Option (Files D)) (keeps : KeepsFiles done files) where
    all_linked : (session : Session g done text most) → AreLinked g (files session.before) (session.past ++ openings_of g session.stretch) (files session.after)
    all_linked session = subst (λ all. AreLinked g (files session.before) all (files session.after)) session.are (linked done files keeps text most session.before session.after session.given session.in_turn)

    stretch_linked : (session : Session g done text most) → Links session.stretch
    stretch_linked session =
        let links = linked_behind (files session.before) (files session.after) session.past (openings_of g session.stretch) (all_linked session) in
        (links.0, files session.after, links.1)

    -- what the opening before it gave back
    linked_before : (session : Session g done text most) (opening : Opening g) → IsBefore g done text most opening session → AreLinked g opening.left (openings_of g session.stretch) (files session.after)
    linked_before session opening it =
        let all = subst (λ past. AreLinked g (files session.before) (past ++ openings_of g session.stretch) (files session.after)) it.1 (all_linked session) in
        linked_after (files session.before) (files session.after) it.0 opening (openings_of g session.stretch) all

    -- a stretch shows what was closed before it
    behind : (session : Session g done text most) (opening : Opening g) (closed : Held (FileStore D g)) (db : Database) → IsBefore g done text most opening session → Closes g closed opening.left → FirstFound g session.stretch db
        → IsUnharmed (file_state closed) × ((file_state closed).now ≡ db)
    behind session opening closed db before closes found =
        let it = session.stretch in
        let links = linked_before session opening before in
        let then = shown it.last closed opening.left (files session.after) it.earlier it.had closes links (first_clean it.last it.earlier it.had opening.left (files session.after) links) in
        (then.fine, sym then.same ∙ (first_known it.last it.earlier it.had).found db found)

  pub sessions_are_one : {S : Type 0} (done : S → Deed D → S → Type 0) (text : List ℕ) (most : ℕ) → SessionsAreOne g done text most
  sessions_are_one done text most files keeps =
      record {
        linked = λ before after given follow. linked done files keeps text most before after given follow;
        made = λ register opening makes fine. (joining.calls_are_one g).made register makes.over.conn makes.over.after makes.over.does makes.room fine.clean;
        moved = λ register opening moves fine. moves.over.does.0.moves fine moves.stood;
        found = λ session opening over db before is found. behind done text most files keeps session opening over.after db before over.closes found;
        opened = λ register db sessions is store follow.
            let all = all_run (λ session. session.stretch) (stretch_linked done text most files keeps) register db sessions is store follow in
            record { calls = all.calls; are = all.are; one = calling.calls_are_one (over_files {D = D} {g = g}) register db (map (call_over g) all.calls) is store all.follow };
      }
