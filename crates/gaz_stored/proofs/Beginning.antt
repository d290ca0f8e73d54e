-- What a store stands for that was made, or opened, and what a stop leaves of it.
use Rattle.std.proofs.Common.{◌≡◌, ◌∙◌, inl, inr, ℕ, List, ap, arith, refl, subst, sym}
use Rattle.sqlite.specs.Effect.{Database}
use Rattle.sqlite.specs.Held.{Held, state}
use Rattle.sqlite.specs.State.{HasCleanDisk, State, Survives}
use Rattle.sqlite_trees.specs.declared.store.Store.{Ghosts}
use Rattle.gaz_register.specs.Registers.{RegisterValue}
use Rattle.gaz_register.specs.Texts.{register_text}
use Rattle.gaz_views.specs.View.{empty_view}
use Rattle.gaz_keeper.specs.Keeper.{Content, after_stop}
use Rattle.gaz_tables.specs.Creating.{HasRoom}
use Rattle.gaz_kept.specs.Contents.{content_in}
use Rattle.gaz_kept.specs.Kept.{IsKept}
use Rattle.gaz_kept.proofs.SameTrees.{same_content}
use Rattle.gaz_calls.specs.Seen.{IsUnharmed}
use Rattle.gaz_store.proofs.Whole.{kept_of}
use Rattle.gaz_store.specs.Opened.{IsMade}
use Rattle.gaz_store.specs.Store.{seen_in}
use Rattle.gaz_store.specs.declared.store.Store.{Store}
use Rattle.gaz_steps.specs.Hubs.{MayHave, door_of, state_of}
use Rattle.gaz_steps.specs.Step.{HubState, new_hub}
use Rattle.gaz_steps.proofs.Headline.{may_begin}
use Rattle.gaz_hub.proofs.Advancing.{may_keep}
use Rattle.gaz_stored.specs.Runs.{StandForRun, hub_in}
use Rattle.gaz_stored.specs.Stopping.{LeavesItself}
use Rattle.gaz_stored.specs.Using.{IsOpenedFrom}
use Rattle.gaz_stored.proofs.Going.{Begun, LeavesHub}

-- tables of a store that stand for a hub with a content that may be had stand for a partial run
pub stand_alike : (register : RegisterValue) (was : Content) (new : Database) → MayHave (door_of register) was → IsKept new → hub_in new ≡ state_of was → StandForRun register new
stand_alike register was new may kept same =
    record { kept = kept; may = may_keep (door_of register) was (content_in new empty_view) (ap (λ (h : HubState). h.received) same) (ap (λ (h : HubState). h.board) same) may }

-- a disk that is clean after a call was before it
pub clean_before : {S : Type 0} (g : Ghosts S) (before after : Held S) → Survives (state g before) (state g after) (λ _. ⊥) → HasCleanDisk (state g after) → HasCleanDisk (state g before)
clean_before g before after survives clean = let le = survives.clean in omega (arith, le, clean)

module _ {S N : Type 0} {g : Ghosts S} (register : RegisterValue) (first : Store S N g) (before : Held S) where
  abbrev text : List ℕ
  text = register_text register

  abbrev old : State
  old = state g before

  abbrev mid : State
  mid = state g first.tables.conn

  -- where there was room
  module _ (made : IsMade old mid text (seen_in text first)) (room : HasRoom old.now.schema) (is_fine : IsUnharmed mid) where
    pub begun_new : Begun register first new_hub
    begun_new =
        let empty = made.content is_fine room in
        ((made.stands is_fine room, may_begin (door_of register) (seen_in text first).content (ap (λ (k : Content). k.files) empty) (ap (λ (k : Content). k.board) empty)), ap state_of empty)

  -- where the tables stood for a partial run
  module _ (from : IsOpenedFrom g register before first) (stood : StandForRun register old.now) where
    pub begun_opened : IsUnharmed mid → Begun register first (hub_in old.now)
    begun_opened is_fine =
        let same = from.opened.content is_fine stood.kept in
        let may : MayHave (door_of register) (seen_in text first).content = subst (MayHave (door_of register)) (sym same) stood.may in
        ((from.opened.stands is_fine stood.kept, may), ap state_of same)

    module _ (itself : LeavesItself old) where
      only_itself : (k : Content) → (seen_in text first).leaves k → k ≡ content_in old.now empty_view
      only_itself k l = elim (from.opened.leaves.crash l.clean l.db.trees l.left) [
        | inl was ↦ l.content ∙ same_content old.now l.db stood.kept l.sound (itself l.db.trees (clean_before g before first.tables.conn from.opened.leaves l.clean) was) empty_view
        | inr never ↦ absurd never
      ]

      pub leaves_opened : LeavesHub register first (hub_in old.now)
      leaves_opened = record {
        left = content_in old.now empty_view;
        is_hub = refl;
        only = only_itself;
        same = λ fine. ap after_stop (from.opened.content fine stood.kept);
        whole = λ clean. from.opened.whole (λ trees early left. kept_of text old.now trees (itself trees early left) stood.kept (from.judged clean stood.kept.tables));
        known = stood.may.known;
      }
