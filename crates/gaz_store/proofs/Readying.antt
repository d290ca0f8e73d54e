-- A judgement is ready at a key: once it has touched it, or needs no more than what the tables have there.
use Rattle.std.proofs.Common.{◌≡◌, ◌∙◌, ℕ, true, false, refl, sym, ap, subst, true≢false}
use Rattle.std.specs.Prelude.{Option, Some, None, IsSome}
use Rattle.std.specs.FinMap as map
use Rattle.sqlite.specs.Effect.{Database}
use Rattle.gaz_records.specs.Keys.{key_of}
use Rattle.gaz_records.specs.declared.item.Item.{Item}
use Rattle.gaz_records.specs.declared.item.Item.TheVariants as item
use Rattle.gaz_records.specs.declared.key.Key.{Key}
use Rattle.gaz_records.specs.declared.key.Key.TheVariants as key
use Rattle.gaz_views.specs.Numbered as numbered
use Rattle.gaz_views.specs.Numbered.{as_blpu}
use Rattle.gaz_views.specs.View.{View, with_adoption, with_item, with_release}
use Rattle.gaz_overlay.specs.Changes.{Changes, is_touched, with_adopted, with_adopted_blpu, with_put, with_released, with_touched}
use Rattle.gaz_overlay.specs.declared.touch.Stood.{Stood}
use Rattle.gaz_overlay.proofs.Kept.{noted_there}
use Rattle.gaz_overlay.proofs.Making.{changes_make}
use Rattle.gaz_tables.specs.Schema.{received, version2}
use Rattle.gaz_tables.specs.Tables.{rows_of}
use Rattle.gaz_row_items.specs.Newest.{TellsStood}
use Rattle.gaz_row_items.specs.Versions.{histories_in}
use Rattle.gaz_kept.specs.Files.{reached_in}
use Rattle.gaz_kept.specs.Kept.{IsKept}
use Rattle.gaz_kept.specs.LastViews.{last_in}
use Rattle.gaz_kept.proofs.LawfulViews.{view_lawful}
use Rattle.gaz_store.specs.Beside.{IsReadyAt, IsToldSince, Makes, with_changes}
use Rattle.gaz_store.specs.declared.judgement.Judgement.{Judgement}
use Rattle.gaz_store.proofs.PassedOn.{adopted_turns, released_turns}
use Rattle.gaz_store.proofs.Turning.{put_turns, touched_turns}

-- ---- at a touched key

pub ready_touched : (db : Database) → IsKept db → (j : Judgement) (k : Key) → is_touched j.changes k ≡ true → (w : View) → Makes db j w → IsReadyAt db j k w
ready_touched db kept j k touched w makes = record {
  known = makes.known;
  put = λ i own entry. put_turns db kept j i entry (ap (is_touched j.changes) own ∙ touched) w makes;
  released = λ uprn to hop since own told. released_turns db j uprn since told to hop (ap (is_touched j.changes) own ∙ touched) w makes;
  adopted = λ i from hop uprn since blpu own of told.
      adopted_turns db j i from hop uprn since blpu (own ∙ sym of) (ap (is_touched j.changes) own ∙ touched) told w makes;
}

-- ---- at one that is touched without the item there

module _ (db : Database) (j : Judgement) (k : Key) (stood : Stood) (w : View) where
  abbrev read : Option Item → Judgement
  read o = with_changes j (with_touched j.changes k stood o)

  abbrev unread : Changes
  unread = with_touched j.changes k stood None

  told_read : (o : Option Item) (uprn : ℕ) (since : Option ℕ) → IsToldSince db (read None) uprn since → IsToldSince db (read o) uprn since
  told_read o uprn since told = record { is_since = told.is_since; current = told.current }

  -- changes alike but for their view make the same where the views are the same
  with_view : (d : Changes) (s t : View) (v : View) → s ≡ t → Makes db (with_changes j (record { view = s; touched = d.touched; passed = d.passed })) v → Makes db (with_changes j (record { view = t; touched = d.touched; passed = d.passed })) v
  with_view d s t v same makes = subst (λ (u : View). Makes db (with_changes j (record { view = u; touched = d.touched; passed = d.passed })) v) same makes

  module _ (was : Item) (own : key_of was ≡ k) (ready : IsReadyAt db (read (Some was)) k w) where
    put_unread : (i : Item) → key_of i ≡ k → Makes db (with_changes j (with_put (with_touched j.changes k stood (Some was)) i)) (with_item w i) → Makes db (with_changes j (with_put unread i)) (with_item w i)
    put_unread i is makes = with_view (with_put unread i) _ _ (with_item w i) (changes_make.put_hides j.changes.view was i (own ∙ sym is)) makes

    released_unread : (uprn to hop : ℕ) (since : Option ℕ) → key.Blpu uprn ≡ k → IsToldSince db (read None) uprn since → Makes db (with_changes j (with_released unread uprn to hop since)) (with_release w uprn to hop)
    released_unread uprn to hop since is told =
        with_view (with_released unread uprn to hop since) _ _ (with_release w uprn to hop) (changes_make.release_hides j.changes.view was uprn to hop (own ∙ sym is))
        (ready.released uprn to hop since is (told_read (Some was) uprn since told))

    adopted_unread : (i : Item) (from hop uprn : ℕ) (since : Option ℕ) → IsSome (as_blpu i) → key_of i ≡ k → key.Blpu uprn ≡ k → IsToldSince db (read None) uprn since
        → Makes db (with_changes j (with_adopted unread i from hop since)) (numbered.with_adopted w i from hop)
    adopted_unread (item.Blpu b) from hop uprn since blpu is of told =
        with_view (with_adopted_blpu unread b from hop since) _ _ (with_adoption w b from hop) (changes_make.adoption_hides j.changes.view was b from hop (own ∙ sym is))
        (ready.adopted (item.Blpu b) from hop uprn since blpu is of (told_read (Some was) uprn since told))
    adopted_unread (item.Street x) from hop uprn since blpu is of told = absurd (true≢false (sym blpu))
    adopted_unread (item.Descriptor x) from hop uprn since blpu is of told = absurd (true≢false (sym blpu))
    adopted_unread (item.Xref x) from hop uprn since blpu is of told = absurd (true≢false (sym blpu))
    adopted_unread (item.Lpi x) from hop uprn since blpu is of told = absurd (true≢false (sym blpu))
    adopted_unread (item.Release x) from hop uprn since blpu is of told = absurd (true≢false (sym blpu))
    adopted_unread (item.Adopt x) from hop uprn since blpu is of told = absurd (true≢false (sym blpu))

    ready_unread : IsReadyAt db (read None) k w
    ready_unread = record {
      known = ready.known;
      put = λ i is entry. put_unread i is (ready.put i is entry);
      released = released_unread;
      adopted = adopted_unread;
    }

pub ready_hidden : (db : Database) → IsKept db → (j : Judgement) (k : Key) (stood : Stood) → is_touched j.changes k ≡ false
    → TellsStood (histories_in (rows_of db version2) j.code) (last_in db j.code) k stood (map.get (last_in db j.code).items k) → (w : View) → Makes db j w
    → IsReadyAt db (with_changes j (with_touched j.changes k stood None)) k w
ready_hidden db kept j k stood fresh tells w makes = by_item (map.get (last_in db j.code).items k) refl copied
  where
    there : Option Item
    there = map.get (last_in db j.code).items k

    copied : IsReadyAt db (with_changes j (with_touched j.changes k stood (map.get (last_in db j.code).items k))) k w
    copied =
        ready_touched db kept (with_changes j (with_touched j.changes k stood there)) k (noted_there j.changes.touched k (record { stood = stood; last = None })) w
        (touched_turns db kept j k stood there fresh tells w makes)

    by_item : (o : Option Item) → map.get (last_in db j.code).items k ≡ o → IsReadyAt db (with_changes j (with_touched j.changes k stood o)) k w → IsReadyAt db (with_changes j (with_touched j.changes k stood None)) k w
    by_item None is ready = ready
    by_item (Some was) is ready = ready_unread db j k stood w was ((view_lawful db kept j.code (reached_in (rows_of db received) j.code)).keyed k was is) ready
