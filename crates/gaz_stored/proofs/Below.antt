-- What a hub does over a mirror of a keeper it does over the keeper.
use Rattle.std.proofs.Common.{◌≡◌, ◌∙◌, ◌≤◌, ℕ, inl, List, [], refl, ap, subst, sym, arith, true≢false, None, Option, Some}
use Rattle.sqlite.specs.Effect.{Database}
use Rattle.sqlite.specs.Held.{state}
use Rattle.sqlite_trees.specs.declared.store.Store.{Ghosts}
use Rattle.gaz_views.specs.View.{View, empty_view}
use Rattle.gaz_keeper.specs.Keeper as keeper
use Rattle.gaz_keeper.specs.Keeper.{IsNotOpen, Seen}
use Rattle.gaz_tables.specs.Schema.{received}
use Rattle.gaz_tables.specs.Tables.{rows_of}
use Rattle.gaz_row_items.specs.Versions.{number_in}
use Rattle.gaz_kept.specs.Contents.{content_in}
use Rattle.gaz_kept.specs.Kept.{IsKept}
use Rattle.gaz_kept.proofs.Stands.{are_files, row_of}
use Rattle.gaz_store.specs.Store.{progress_of, seen_in, working_of}
use Rattle.gaz_store.specs.declared.progress.Judging.{Judging}
use Rattle.gaz_store.specs.declared.progress.Judging.TheVariants.{Idle, Open, Broken}
use Rattle.gaz_store.specs.declared.store.Store.{Store}
use Rattle.gaz_steps.specs.Hubs.{Runs, StandsFor, door_of, state_of}
use Rattle.gaz_hub.specs.Seen.{hub_seen}
use Rattle.gaz_steps.specs.Step.{Command, Door, HubState, Response}
use Rattle.gaz_hub.specs.declared.hub.Hub.{Hub}
use Rattle.gaz_hub.proofs.Advancing.{may_keep}
use Rattle.gaz_steps.proofs.HubRuns.{runs_still, runs_then}
use Rattle.gaz_steps.proofs.Looks.{left_not_open}
use Rattle.gaz_mirror.specs.Mirrored.{seen_mirrored}
use Rattle.gaz_mirror.specs.Mirroring.{content_of, mirrored, progress_with}
use Rattle.gaz_mirror.proofs.Readings.{stands_below}
use Rattle.gaz_mirror.specs.declared.gathered.Gathered.{Gathered}
use Rattle.gaz_loaded.specs.Files.{OnlyReads}
use Rattle.gaz_register.specs.Registers.{RegisterValue}
use Rattle.gaz_keeper.specs.declared.shelf.Shelf as shelf
use Rattle.gaz_shelf.specs.Mem.{seen_in as memory}
use Rattle.gaz_stored.specs.Filling.{AreVolumes, CanBeMirrored, RestsBare}
use Rattle.gaz_stored.specs.Ways.{BeginsOver, MirrorOf}
use Rattle.gaz_stored.proofs.Alone.{runs_alone}
use Rattle.gaz_stored.proofs.Filled.{over_parts}

-- ---- what a store is mirrored by

rests : (db : Database) (j : Judging) → progress_of j ≡ keeper.Idle → working_of db j ≡ empty_view
rests db Idle e = refl
rests db (Open j) e = cc
rests db Broken e = refl

-- a store in which no judgement is in progress has no working view
pub rests_bare : {S N : Type 0} {g : Ghosts S} (text : List ℕ) → RestsBare {K = Store S N g} (seen_in text)
rests_bare {S} {N} {g} text t e = rests (state g t.tables.conn).now t.judging e

-- each file in the tables came as a volume from 1 on
volumes : (db : Database) (working : View) → IsKept db → AreVolumes (content_in db working).files
volumes db working kept p there =
    let r = row_of (rows_of db received) (are_files db kept) p.0 p.1 there in
    let first = (kept.files r.row r.there).first in
    subst (λ n. 1 ≤ n) (ap number_in r.is.of_volume) first

pub can_mirror : {S N : Type 0} {g : Ghosts S} (text : List ℕ) (d : Door) (t : Store S N g) → StandsFor d (seen_in text t) → CanBeMirrored d (seen_in text t)
can_mirror {S} {N} {g} text d t run =
    let db = (state g t.tables.conn).now in
    record { run = run; volumes = volumes db (working_of db t.judging) run.0.tables.kept }

-- ---- runs

module _ {U : Type 0} (seen : U → Seen) (d : Door) (a lower last : Seen) (upper kept : Option U) where
  -- nothing was asked while all was put at hand
  begins : OnlyReads a lower → (a.unharmed → CanBeMirrored d a) → (CanBeMirrored d a → lower.unharmed → StandsFor d (mirrored seen lower upper None)) → Runs d a (mirrored seen lower upper None) [] []
  begins reads was mirrors =
      let keeps = reads.keeps in
      record {
        harm = keeps.harm;
        stands = λ _ fine. mirrors (was (keeps.harm fine)) fine;
        run = λ stood fine. ap state_of (keeps.content stood.0 fine);
        idle = left_not_open a.progress lower.progress keeps.progress;
        failures = reads.failures;
        trust = reads.trust;
        stays = λ all hub. refl;
        was_open = λ no t. absurd (true≢false no);
        reaches = λ stood t. (state_of a.content, refl);
        stops = λ sound. record {
          ever = λ k l. inl (keeps.leaves (λ fine. (sound fine).0) k l);
          now = λ fine k l. inl (keeps.leaves (λ fine. (sound fine).0) k l, ap state_of (keeps.content (sound (keeps.harm fine)).0 fine));
          answered = refl;
          received = λ k l. tt;
          whole = λ all. keeps.whole (λ fine. (sound fine).0) all;
        };
      }

  -- ---- what is at hand was given up, and a judgement with it that was gathered

  same_state : (o : Option U) (gathered : Option Gathered) → state_of last.content ≡ state_of (content_of seen last.content o gathered)
  same_state o None = refl
  same_state None (Some g) = refl
  same_state (Some u) (Some g) = refl

  closed : (gathered : Option Gathered) → IsNotOpen (progress_with last.progress gathered) → IsNotOpen last.progress
  closed None idle = idle
  closed (Some g) idle = absurd (idle g.code refl)

  ends : (gathered : Option Gathered) → Runs d (mirrored seen last kept gathered) last [] []
  ends gathered = record {
    harm = λ fine. fine;
    stands = λ stood fine. (
      stands_below seen last kept gathered stood.0,
      may_keep d (content_of seen last.content kept gathered) last.content (ap (λ (h : HubState). h.received) (same_state kept gathered)) (ap (λ (h : HubState). h.board) (same_state kept gathered)) stood.1,
    );
    run = λ _ _. same_state kept gathered;
    idle = closed gathered;
    failures = omega arith;
    trust = λ t. t;
    stays = λ all hub. refl;
    was_open = λ no t. absurd (true≢false no);
    reaches = λ stood t. (state_of last.content, same_state kept gathered);
    stops = λ sound. record { ever = λ k l. inl l; now = λ fine k l. inl (l, same_state kept gathered); answered = refl; received = λ k l. tt; whole = λ all. all };
  }

  runs_below : (held gathered : Option Gathered) (commands : List Command) (responses : List Response) → OnlyReads a lower → (a.unharmed → CanBeMirrored d a) → IsNotOpen (mirrored seen lower upper held).progress
      → (CanBeMirrored d a → lower.unharmed → StandsFor d (mirrored seen lower upper held)) → Runs d (mirrored seen lower upper held) (mirrored seen last kept gathered) commands responses → Runs d a last commands responses
  runs_below None gathered commands responses reads was idle mirrors runs =
      runs_still d a (mirrored seen last kept gathered) last commands responses (runs_then d a (mirrored seen lower upper None) (mirrored seen last kept gathered) [] commands [] responses (begins reads was mirrors) runs) (ends gathered)
  runs_below (Some g) gathered commands responses reads was idle mirrors runs = absurd (idle g.code refl)

-- what a hub over a mirror that remembered nothing made a run of is a run of one over the keeper
pub over_keeper : {K : Type 0} (kind : shelf.Ghosts K) (register : RegisterValue) (first last : K) (begun left : Hub (MirrorOf kind)) (commands : List Command) (responses : List Response) → BeginsOver kind register first begun
    → IsNotOpen (seen_mirrored begun.keeper).progress
    → (RestsBare kind.seen → CanBeMirrored (door_of register) (kind.seen first) → (seen_mirrored begun.keeper).unharmed → StandsFor (door_of register) (seen_mirrored begun.keeper))
    → left.keeper.lower ≡ last → Runs (door_of begun.register) (hub_seen seen_mirrored begun) (hub_seen seen_mirrored left) commands responses
    → RestsBare kind.seen → ((kind.seen first).unharmed → CanBeMirrored (door_of register) (kind.seen first)) → Runs (door_of register) (kind.seen first) (kind.seen last) commands responses
over_keeper kind register first last begun left commands responses begins idle stands back runs bare can =
    let d = door_of register in
    let m = begun.keeper in
    let n = left.keeper in
    let over = over_parts seen_mirrored (λ r s. Runs (door_of r) s (hub_seen seen_mirrored left) commands responses) begun register m begins.of_register refl begins.remembers runs in
    subst (λ t. Runs d (kind.seen first) (kind.seen t) commands responses) back
    (runs_below memory d (kind.seen first) (kind.seen m.lower) (kind.seen n.lower) m.upper n.upper m.gathered n.gathered commands responses begins.reads can idle (stands bare)
    (runs_alone d register left.register left.waiters (seen_mirrored m) (seen_mirrored n) commands responses over))

-- the keeper that is left is that of the hub that is taken apart
pub left_below : {K : Type 0} (kind : shelf.Ghosts K) (register : RegisterValue) (last : MirrorOf kind) (parts : RegisterValue × MirrorOf kind) (left : K) → parts ≡ (register, last) → left ≡ parts.1.lower
    → last.lower ≡ left
left_below {K} kind register last parts left same below = sym (below ∙ ap (λ (p : RegisterValue × MirrorOf kind). p.1.lower) same)
