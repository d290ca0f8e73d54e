-- Calls over the same files are one run of one hub.
use Rattle.std.proofs.Common.{◌≡◌, List, [], ◌∷◌, map, ◌∙◌, inl, inr, Option, Some, Err, ap, refl, subst, sym, true≢false}
use Rattle.sqlite.specs.Effect.{Database}
use Rattle.sqlite.specs.Files.{file_state, over_files}
use Rattle.sqlite.specs.Held.{Held}
use Rattle.sqlite.specs.State.{HasCleanDisk}
use Rattle.sqlite.proofs.Callers.{finds_again}
use Rattle.sqlite_catalog.proofs.ReadLemmas.{lists_once}
use Rattle.sqlite_catalog.specs.Listing.{Lists}
use Rattle.sqlite_disk.specs.declared.Disk as disk
use Rattle.sqlite_disk.specs.declared.Files.{Files}
use Rattle.sqlite_store.specs.declared.store.FileStore.{FileStore}
use Rattle.sqlite_trees.specs.Objects.{catalog_tree}
use Rattle.sqlite_trees.specs.Tree.{Trees}
use Rattle.gaz_calls.specs.Seen.{IsUnharmed}
use Rattle.gaz_kept.proofs.MetaRows.{any_found}
use Rattle.gaz_kept.specs.declared.refusal.StoreRefusal.{StoreRefusal}
use Rattle.gaz_kept.specs.declared.refusal.StoreRefusal.TheVariants.{Fault}
use Rattle.gaz_register.specs.Registers.{RegisterValue}
use Rattle.gaz_stored.proofs.Calling as calling
use Rattle.gaz_stored.proofs.Reopening as reopening
use Rattle.gaz_stored.proofs.Using.{made_alone}
use Rattle.gaz_stored.specs.Calls as stored
use Rattle.gaz_stored.specs.Calls.{CameTo, CutOff, IsFoundAfter, Whole}
use Rattle.gaz_stored.specs.Reopening.{HasStoreOf, OpensOrFails, OpensThen}
use Rattle.gaz_stored.specs.Runs.{GoesOn}
use Rattle.gaz_steps.specs.Step.{new_hub}
use Rattle.gaz_filing.specs.Filing.{Closes, Connects}
use Rattle.gaz_filing.specs.Joined.{CallsAreOne, FileCall, FollowOn, IsGiven, IsPassedOn, NextOpens, call_over}

-- a refusal that is told of a store under its register
just_a_fault : (refusal : StoreRefusal) → OpensOrFails (Err refusal) → refusal ≡ Fault
just_a_fault refusal (inl opened) = absurd (let no = opened in cc)
just_a_fault refusal (inr is) = cc

module _ {D : Type 0} (g : disk.Ghosts D) where
  -- where files were given back that are as they were, no failure had shut their connection
  pub was_unharmed : (old conn : Held (FileStore D g)) (files : Files D) → Closes g old (Some files) → Connects g files conn → HasCleanDisk (file_state conn) → IsUnharmed (file_state old)
  was_unharmed old conn files closes connects clean =
      let copied = closes.files (connects.found clean).honest in
      record { clean = copied.was_clean; is_open = copied.was_open }

  -- what a connection that was closed held, the next one shows
  pub shown_again : (old conn : Held (FileStore D g)) (files : Files D) → Closes g old (Some files) → Connects g files conn → HasCleanDisk (file_state conn) → (file_state conn).now ≡ (file_state old).now
  shown_again old conn files closes connects clean =
      let fine = was_unharmed old conn files closes connects clean in
      let opened = connects.opened clean in
      let committed = finds_again old conn files closes.files (connects.found clean) in
      let before = ap (λ (db : Database). db.trees) (closes.settled fine.is_open) in
      let now = ap (λ (db : Database). db.trees) opened.0.clean in
      let trees : (file_state conn).now.trees ≡ (file_state old).now.trees = now ∙ committed ∙ sym before in
      let lists = (closes.live fine.is_open).0.lists in
      let listed = subst (λ (t : Trees). Lists (t catalog_tree) (file_state conn).now.schema) trees (opened.1 opened.0.is_open).0.lists in
      let schema : (file_state conn).now.schema ≡ (file_state old).now.schema = lists_once _ _ _ listed lists in
      λ i. record { schema = schema i; trees = trees i }

  -- a call found a disk that had returned what was written, where what is found after it says so
  pub was_clean : {before after : Held (FileStore D g)} {found : Database} → CameTo (over_files {D = D} {g = g}) before after → IsFoundAfter (over_files {D = D} {g = g}) before after found → HasCleanDisk (file_state before)
  was_clean came (Whole fine same) = calling.was_clean (over_files {D = D} {g = g}) came fine.clean
  was_clean came (CutOff itself may) = calling.was_clean (over_files {D = D} {g = g}) came may.clean

  -- a call that is given the files shows it
  given_shows : (next : FileCall g) (old : Held (FileStore D g)) (left : Option (Files D)) → Closes g old left → IsGiven g next left → (file_state next.over.conn).now ≡ (file_state old).now
  given_shows next old left closes given =
      shown_again old next.over.conn next.files (subst (Closes g old) given closes) next.over.connects (was_clean next.over.does next.is_found)

  -- so each finds what is found after the one before
  passes_on : (before after : Held (FileStore D g)) (found : Database) (is_found : IsFoundAfter (over_files {D = D} {g = g}) before after found) (left : Option (Files D)) (next : FileCall g) → Closes g after left → IsPassedOn g is_found left next
      → (file_state next.over.conn).now ≡ found
  passes_on before after found (Whole fine same) left next closes given = given_shows next after left closes given ∙ same
  passes_on before after found (CutOff itself may) left next closes shows = shows

  follow_on : (call : FileCall g) (later : List (FileCall g)) → FollowOn g call later → stored.FollowOn (over_files {D = D} {g = g}) call.found (map (call_over g) later)
  follow_on call [] follow = tt
  follow_on call (next ∷ later) follow =
      (passes_on call.over.conn call.over.after call.found call.is_found call.left next call.over.closes follow.0, follow_on next later follow.1)

  pub calls_are_one : CallsAreOne g
  calls_are_one = record {
    opened = λ register first later is store follow.
        calling.calls_are_one (over_files {D = D} {g = g}) register (file_state first.over.conn).now (map (call_over g) (first ∷ later)) is store (refl, follow_on first later follow);
    behind = λ register old left first later is store closes given follow.
        calling.calls_are_one (over_files {D = D} {g = g}) register (file_state old).now (map (call_over g) (first ∷ later)) is store (given_shows first old left closes given, follow_on first later follow);
    made = λ register conn after makes room clean.
        let fine = subst (λ k. HasCleanDisk (file_state k)) (sym makes.back) clean in
        let alone = made_alone register conn makes.store makes.made room (record { clean = fine; is_open = makes.made.is_open fine }) in
        subst (λ k. GoesOn register new_hub [] [] (file_state k).now) makes.back alone;
    not_made = λ register conn after makes tables. absurd (true≢false (sym (any_found (file_state conn).now.schema tables.there) ∙ makes.free));
  }

  opens : (register : RegisterValue) (old conn next : Held (FileStore D g)) (files : Files D) → HasStoreOf register (file_state old).now → Closes g old (Some files) → Connects g files conn → HasCleanDisk (file_state conn)
      → OpensThen (over_files {D = D} {g = g}) register conn next
  opens register old conn next files store closes connects clean =
      reopening.opens (over_files {D = D} {g = g}) register conn next (subst (HasStoreOf register) (sym (shown_again old conn files closes connects clean)) store)

  pub next_opens : NextOpens g
  next_opens = record {
    opens = opens;
    lacks = λ register old files left refusal store closes over clean.
        just_a_fault refusal (opens register old over.conn over.after files store closes over.connects (over.does.refused.trust clean) (Err refusal) clean over.does.judged);
    migrates = λ register old files left refusal store closes over clean.
        just_a_fault refusal (opens register old over.conn over.after files store closes over.connects (over.does.0.refused.trust clean) (Err refusal) clean over.does.0.judged);
  }
