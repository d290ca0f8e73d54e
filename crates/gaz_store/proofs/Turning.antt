-- What a judgement beside the tables makes of its custodian's last view, and answers of it.
use Rattle.std.proofs.Common.{◌≡◌, ◌∙◌, ℕ, Bool, true, false, cond, not, ◌&&◌, ◌||◌, List, [], ◌∷◌, filter, map as map_of, refl, sym, ap, subst}
use Rattle.std.specs.Prelude.{Option, Some, None, option_map}
use Rattle.std.specs.FinMap as map
use Rattle.std.specs.Option.{option_and_then, option_map_or}
use Rattle.std.specs.Ordering.{eq_by_cmp, is_eq}
use Rattle.std.specs.declared.cmp.Ordering.{Ordering}
use Rattle.std.specs.declared.cmp.Ordering.TheVariants.{Less, Equal, Greater}
use Rattle.sqlite.specs.Effect.{Database}
use Rattle.gaz_records.proofs.KeyOrder.{keys_exact, keys_total}
use Rattle.gaz_records.specs.Items.{is_entry}
use Rattle.gaz_records.specs.Keys.{key_cmp, key_of}
use Rattle.gaz_records.specs.declared.item.Item.{Item}
use Rattle.gaz_records.specs.declared.key.Key.{Key}
use Rattle.gaz_records.specs.declared.item.Kind.TheVariants as kind
use Rattle.gaz_records.specs.declared.key.Key.TheVariants as key
use Rattle.gaz_views.specs.View.{View, empty_view, was_used, with_item, without_key}
use Rattle.gaz_keeper.specs.Keeper.{IsAtHand}
use Rattle.gaz_views.specs.Lawful.{IsLawfulView}
use Rattle.gaz_views.specs.Words.{approved_of, approved_on, entries, first_of, has_children, is_approved_on, is_child_of, names, property_of, tied}
use Rattle.gaz_overlay.specs.Changes.{Changes, Touched, is_touched, stood_in, was_used_in, with_put, with_taken, with_touched}
use Rattle.gaz_overlay.specs.Laid.{any_untouched, laid, untouched}
use Rattle.gaz_overlay.proofs.Touching.{none_there, unused}
use Rattle.gaz_ids.specs.declared.lang.Lang.{Lang}
use Rattle.sqlite_rules.specs.Lists.{Has}
use Rattle.std.specs.List.{list_any}
use Rattle.gaz_row_items.specs.Newest.{TellsStood}
use Rattle.gaz_row_items.specs.Versions.{histories_in}
use Rattle.gaz_kept.proofs.Rising.{entry_is}
use Rattle.gaz_answers.proofs.StreetRows.{any_same}
use Rattle.gaz_answers.specs.Streets.{is_left_on, is_left_part, is_left_tied, leaves}
use Rattle.gaz_overlay.specs.Over.{KeyView, Make}
use Rattle.gaz_overlay.specs.Questions.{LaidAnswers, both, keys_with, property_at}
use Rattle.gaz_overlay.specs.Rows.{AreTold, HasCurrent, HistoryRow}
use Rattle.gaz_overlay.specs.declared.touch.Stood.{Stood}
use Rattle.gaz_overlay.specs.declared.touch.Stood.TheVariants.{NoRow, Since}
use Rattle.gaz_overlay.specs.declared.touch.Touch.{Touch}
use Rattle.gaz_overlay.proofs.Making.{changes_make}
use Rattle.gaz_overlay.proofs.Questions.{laid_questions}
use Rattle.gaz_tables.specs.Schema.{received, version2}
use Rattle.gaz_tables.specs.Tables.{rows_of}
use Rattle.gaz_kept.specs.Contents.{content_in}
use Rattle.gaz_kept.specs.Files.{reached_in}
use Rattle.gaz_kept.specs.Kept.{IsKept}
use Rattle.gaz_kept.specs.LastViews.{last_in}
use Rattle.gaz_store.specs.Beside.{Makes, Turns, with_changes}
use Rattle.gaz_store.specs.Store.{IsUnderWay, view_made}
use Rattle.gaz_store.specs.declared.judgement.Judgement.{Judgement}
use Rattle.gaz_kept.proofs.LawfulViews.{view_lawful}

-- ---- what stood at a key

abbrev tie : Key → Key → Bool
tie q k = eq_by_cmp key_cmp q k

-- what stood at a key once another is noted
noted_at : (touched : Touched) (k q : Key) (x : Touch) (b : Bool) → tie q k ≡ b → stood_in (map.insert touched k x) q ≡ cond b x.stood (stood_in touched q)
noted_at touched k q x b is = ap (λ o. option_map_or (λ (t : Touch). t.stood) o NoRow) (map.get-insert keys_total touched k x q ∙ ap (λ c. cond c (Some x) (map.get touched q)) is) ∙ by_test b
  where
    by_test : (b : Bool) → option_map_or (λ (t : Touch). t.stood) (cond b (Some x) (map.get touched q)) NoRow ≡ cond b x.stood (stood_in touched q)
    by_test true = refl
    by_test false = refl

tied_is : (q k : Key) → tie q k ≡ true → q ≡ k
tied_is q k is = keys_exact q k (equal (key_cmp q k) is)
  where
    equal : (o : Ordering) → is_eq o ≡ true → o ≡ Equal
    equal Less e = cc
    equal Equal e = refl
    equal Greater e = cc

told_touched : (rows : List HistoryRow) (c : Changes) (k : Key) (stood : Stood) (item : Option Item) → AreTold c rows → ((volume : ℕ) → stood ≡ Since volume → HasCurrent rows k volume) → AreTold (with_touched c k stood item) rows
told_touched rows c k stood item was now = record { told = λ q volume is. by_test q volume (tie q k) refl is }
  where
    by_test : (q : Key) (volume : ℕ) (b : Bool) → tie q k ≡ b → stood_in (map.insert c.touched k (record { stood = stood; last = None })) q ≡ Since volume → HasCurrent rows q volume
    by_test q volume true t is = subst (λ (p : Key). HasCurrent rows p volume) (sym (tied_is q k t)) (now volume (sym (noted_at c.touched k q (record { stood = stood; last = None }) true t) ∙ is))
    by_test q volume false t is = was.told q volume (sym (noted_at c.touched k q (record { stood = stood; last = None }) false t) ∙ is)

pub told_put : (rows : List HistoryRow) (c : Changes) (i : Item) → AreTold c rows → AreTold (with_put c i) rows
told_put rows c i was = record { told = λ q volume is. by_test q volume (tie q (key_of i)) refl is }
  where
    x : Touch
    x = record { stood = stood_in c.touched (key_of i); last = Some i }

    by_test : (q : Key) (volume : ℕ) (b : Bool) → tie q (key_of i) ≡ b → stood_in (map.insert c.touched (key_of i) x) q ≡ Since volume → HasCurrent rows q volume
    by_test q volume true t is = was.told q volume (ap (stood_in c.touched) (tied_is q (key_of i) t) ∙ sym (noted_at c.touched (key_of i) q x true t) ∙ is)
    by_test q volume false t is = was.told q volume (sym (noted_at c.touched (key_of i) q x false t) ∙ is)

-- ---- how the changes turn

module _ (db : Database) (kept : IsKept db) (j : Judgement) where
  abbrev last : View
  last = last_in db j.code

  abbrev rows : List HistoryRow
  rows = histories_in (rows_of db version2) j.code

  pub touched_turns : (k : Key) (stood : Stood) (item : Option Item) → is_touched j.changes k ≡ false → TellsStood rows last k stood item → Turns db j (with_changes j (with_touched j.changes k stood item)) (λ w. w)
  touched_turns k stood item fresh tells w makes = record {
    made = subst (λ o. Make last (with_touched j.changes k stood o) w) (sym tells.is_item)
        (changes_make.touched last j.changes w (view_lawful db kept j.code (reached_in (rows_of db received) j.code)) makes.made k stood fresh tells.is_stood);
    told = told_touched rows j.changes k stood item makes.told tells.current;
    passed = makes.passed;
    known = makes.known;
  }

  pub put_turns : (i : Item) → is_entry i ≡ true → is_touched j.changes (key_of i) ≡ true → Turns db j (with_changes j (with_put j.changes i)) (λ w. with_item w i)
  put_turns i entry noted w makes = record { made = changes_make.put last j.changes w makes.made i entry noted; told = told_put rows j.changes i makes.told; passed = makes.passed; known = makes.known }

  pub taken_turns : (k : Key) → is_touched j.changes k ≡ true → Turns db j (with_changes j (with_taken j.changes k)) (λ w. without_key w k)
  taken_turns k noted w makes = record { made = changes_make.taken last j.changes w makes.made k noted; told = record { told = makes.told.told }; passed = makes.passed; known = makes.known }

-- keys that pass a test and aren't used by changes
left_entries : (s : View) (p : Item → Bool) (es : List (Key × Item)) → list_any (λ e. p e.1 && untouched s e.0) es ≡ list_any (untouched s) (map_of (λ e. e.0) (filter (λ e. p e.1) es))
left_entries s p [] = refl
left_entries s p (e ∷ es) = by_test (left_entries s p es) (p e.1)
  where
    by_test : list_any (λ e. p e.1 && untouched s e.0) es ≡ list_any (untouched s) (map_of (λ e. e.0) (filter (λ e. p e.1) es)) → (b : Bool)
        → ((b && untouched s e.0) || list_any (λ e. p e.1 && untouched s e.0) es) ≡ list_any (untouched s) (map_of (λ e. e.0) (cond b (e ∷ filter (λ e. p e.1) es) (filter (λ e. p e.1) es)))
    by_test behind true = ap (λ b. untouched s e.0 || b) behind
    by_test behind false = behind

-- ---- a judgement of the same changes

pub stands_on : (db : Database) (m n : Judgement) → n.code ≡ m.code → n.changes ≡ m.changes → Turns db m n (λ w. w) → IsUnderWay db m → IsUnderWay db n
stands_on db m n code changes turns stands = record {
  at_hand = subst (IsAtHand (content_in db empty_view)) (sym code) stands.at_hand;
  makes = subst (Makes db n) (λ i. laid (last_in db (sym code i)) (sym changes i).view) (turns (view_made db m) stands.makes);
}

-- ---- what it answers

module _ (db : Database) (j : Judgement) (w : View) (makes : Makes db j w) where
  abbrev v : View
  v = last_in db j.code

  abbrev s : View
  s = j.changes.view

  pub item_beside : (k : Key) → is_touched j.changes k ≡ true → map.get s.items k ≡ map.get w.items k
  item_beside k noted = sym (changes_make.there v j.changes w makes.made k noted)

  pub used_beside : (k : Key) → (was_used_in j.changes k || was_used v k) ≡ was_used w k
  used_beside k = sym (changes_make.used v j.changes w makes.made k)

  pub item_elsewhere : (k : Key) → is_touched j.changes k ≡ false → map.get v.items k ≡ map.get w.items k
  item_elsewhere k fresh = sym (ap (λ (x : KeyView). x.item) (changes_make.elsewhere v j.changes w makes.made k fresh))

  answers : LaidAnswers v s
  answers = laid_questions v s makes.made.over.lawful

  pub approved_beside : (uprn : ℕ) → both s (approved_of v uprn) (approved_of s uprn) ≡ approved_of w uprn
  approved_beside uprn = sym (answers.approved_of uprn) ∙ ap (λ (u : View). approved_of u uprn) (sym makes.made.is_laid)

  unlaid : laid v s ≡ w
  unlaid = sym makes.made.is_laid

  pub property_beside : (uprn : ℕ) → property_of w uprn ≡ property_at w uprn (approved_of w uprn)
  property_beside uprn =
      ap (λ (u : View). property_of u uprn) makes.made.is_laid ∙ answers.property_of uprn
      ∙ (λ i. property_at (unlaid i) uprn (approved_beside uprn i))

  pub its_property_beside : (uprn : ℕ) (blpu : Item) (address : Option Item) → Some blpu ≡ map.get w.items (key.Blpu uprn) → address ≡ option_and_then (map.get w.items) (first_of (approved_of w uprn))
      → Some (record { blpu = blpu; address = address }) ≡ property_of w uprn
  its_property_beside uprn blpu address is at = by_some ∙ sym (property_beside uprn)
    where
      a : Option Item
      a = option_and_then (map.get w.items) (first_of (approved_of w uprn))

      by_some : Some (record { blpu = blpu; address = address }) ≡ property_at w uprn (approved_of w uprn)
      by_some = ap (λ (x : Option Item). Some (record { blpu = blpu; address = x })) at ∙ ap (option_map (λ (b : Item). record { blpu = b; address = a })) is

  -- of the last view's entries, those at touched keys are the ones that the changes have used
  left_alone : IsLawfulView v → (e : Key × Item) → Has (entries v) e → leaves (Some j.changes) (Some e.0) ≡ untouched s e.0
  left_alone lawful e there = by_test (is_touched j.changes e.0) refl
    where
      by_test : (b : Bool) → is_touched j.changes e.0 ≡ b → not (is_touched j.changes e.0) ≡ not (was_used s e.0)
      by_test false fresh = ap not (fresh ∙ sym (unused v j.changes makes.made.over e.0 fresh))
      by_test true noted = by_use (was_used s e.0) refl
        where
          by_use : (u : Bool) → was_used s e.0 ≡ u → not (is_touched j.changes e.0) ≡ not (was_used s e.0)
          by_use true used = ap not (noted ∙ sym used)
          by_use false fresh =
              let none : Some e.1 ≡ None = sym (entry_is v e.0 e.1 there) ∙ none_there v j.changes makes.made.over e.0 noted fresh in
              cc

  -- what of the last view passes a test and isn't passed over
  left_with : IsLawfulView v → (p : Item → Bool) → list_any (λ e. p e.1 && leaves (Some j.changes) (Some e.0)) (entries v) ≡ any_untouched s (keys_with p v)
  left_with lawful p = any_same _ _ (entries v) (λ e there. ap (λ b. p e.1 && b) (left_alone lawful e there)) ∙ left_entries s p (entries v)

  pub approved_on_beside : IsLawfulView v → (usrn : ℕ) (lang : Option Lang) → approved_on w usrn lang
      ≡ (list_any (is_left_on usrn lang (Some j.changes)) (entries v) || approved_on s usrn lang)
  approved_on_beside lawful usrn lang =
      ap (λ (u : View). approved_on u usrn lang) makes.made.is_laid ∙ answers.approved_on usrn lang
      ∙ ap (λ b. b || approved_on s usrn lang) (sym (left_with lawful (is_approved_on usrn lang)))

  pub children_beside : IsLawfulView v → (uprn : ℕ) → has_children w uprn ≡ (list_any (is_left_part kind.Blpu uprn (Some j.changes)) (entries v) || has_children s uprn)
  children_beside lawful uprn =
      ap (λ (u : View). has_children u uprn) makes.made.is_laid ∙ answers.has_children uprn
      ∙ ap (λ b. b || has_children s uprn) (sym (left_with lawful (is_child_of uprn)))

  pub tied_beside : IsLawfulView v → (uprn : ℕ) → tied w uprn ≡ (list_any (is_left_tied uprn (Some j.changes)) (entries v) || tied s uprn)
  tied_beside lawful uprn =
      ap (λ (u : View). tied u uprn) makes.made.is_laid ∙ answers.tied uprn
      ∙ ap (λ b. b || tied s uprn) (sym (left_with lawful (names uprn)))

pub or_true : (a b : Bool) → b ≡ true → (a || b) ≡ true
or_true true b is = refl
or_true false b is = is

pub or_false : (a b : Bool) → b ≡ false → (a || b) ≡ a
or_false true b is = refl
or_false false b is = is
