-- What a store's calls tell of it as a keeper that make and end a judgement.
use Rattle.std.proofs.Common.{◌≡◌, ◌⊎◌, ◌∙◌, ◌+◌, inl, inr, ℕ, List, Result, Ok, Err, OnErr, OnOk, arith, refl, sym, ap, subst, le_refl}
use Rattle.std.specs.Prelude.{⊤, IsSome, IsTrue, None, Some}
use Rattle.std.specs.FinMap as finite
use Rattle.std.specs.Option.{option_map_or}
use Rattle.std.specs.Ordering.{nat_cmp}
use Rattle.gaz_overlay.specs.declared.touch.Touch.{Touch}
use Rattle.sqlite.specs.Effect.{Database}
use Rattle.sqlite.specs.Order.{Row}
use Rattle.sqlite.specs.State.{State}
use Rattle.sqlite_trees.specs.Tree.{Trees}
use Rattle.gaz_records.specs.Keys.{key_cmp}
use Rattle.gaz_records.specs.declared.key.Key.{Key}
use Rattle.gaz_views.proofs.Lawful.{lawful_empty}
use Rattle.gaz_views.specs.Lawful.{IsLawfulView}
use Rattle.gaz_views.specs.View.{View, empty_view}
use Rattle.gaz_views.specs.declared.verdict.Verdict.TheVariants as verdict
use Rattle.gaz_overlay.specs.Changes.{no_changes, stood_in}
use Rattle.gaz_overlay.specs.Over.{Make}
use Rattle.gaz_overlay.specs.Rows.{AreTold}
use Rattle.gaz_overlay.specs.declared.touch.Stood.TheVariants.{NoRow, Since}
use Rattle.gaz_overlay.proofs.Laid.{nothing}
use Rattle.gaz_overlay.proofs.Making.{changes_make}
use Rattle.gaz_keeper.specs.Keeper as keeper
use Rattle.gaz_keeper.specs.Keeper.{Content, Goes, IsAtHand, IsLawful, after_abandon, after_begin, after_stop, with_judgement, with_working}
use Rattle.gaz_keeper.specs.declared.fault.ShelfFault.{ShelfFault}
use Rattle.gaz_tables.specs.Schema.{meta, received, version2}
use Rattle.gaz_tables.specs.Tables.{rows_of}
use Rattle.gaz_row_items.specs.Versions.{histories_in}
use Rattle.gaz_kept.specs.Contents.{content_in}
use Rattle.gaz_kept.specs.Files.{files_in, reached_in}
use Rattle.gaz_kept.specs.Keeping.{AreToldPassages}
use Rattle.gaz_kept.specs.Kept.{IsKept}
use Rattle.gaz_kept.specs.LastViews.{last_in}
use Rattle.gaz_kept.specs.Opening.{IsOf}
use Rattle.gaz_kept.specs.Stands.{Stands, next_in}
use Rattle.gaz_kept.proofs.Boards.{board_reads}
use Rattle.gaz_kept.proofs.KeepStands.{keep_stands}
use Rattle.gaz_kept.proofs.SameTrees.{same_content}
use Rattle.gaz_calls.specs.Altering.{Alters, MayWrite}
use Rattle.gaz_calls.specs.Asking.{Asks, Tallies}
use Rattle.gaz_calls.specs.Remembered.{AreSo}
use Rattle.gaz_counts.specs.declared.counts.Counts.{Counts}
use Rattle.gaz_calls.specs.Seen.{IsUnharmed, LeavesKept, MayLeave, StandsFor}
use Rattle.gaz_calls.specs.Writing.{AppliesNext, IsNextIn, WhereSo}
use Rattle.gaz_store.specs.Beside.{Makes, Turns}
use Rattle.gaz_store.specs.Store.{IsUnderWay, StoreStands, seen_beside, view_made, working_of}
use Rattle.gaz_store.specs.declared.judgement.Judgement.{Judgement}
use Rattle.gaz_store.specs.declared.progress.Judging.{Judging}
use Rattle.gaz_store.specs.declared.progress.Judging.TheVariants.{Idle, Open, Broken}
use Rattle.gaz_kept.proofs.LawfulViews.{content_lawful, last_is, view_lawful}
use Rattle.gaz_store.proofs.Whole.{kept_of, whole_still, whole_then}
use Rattle.gaz_store.proofs.Whose.{of_volume}

-- ---- a judgement is given up, or begins

pub goes_idle : (register : List ℕ) (s : State) (a : Counts) (j : Judging) (f : ℕ)
    → Goes (seen_beside register s a j f) (seen_beside register s a Idle f) (Ok (tt {0})) ⊤ (after_abandon (content_in s.now (working_of s.now j))) None keeper.Idle
goes_idle register s a j f = record {
  harm = λ h. h;
  stands = λ stood ask h. record {
    tables = record { kept = stood.tables.kept; whose = stood.tables.whose; so = stood.tables.so; lawful = record { views = stood.tables.lawful.views; working = lawful_empty } };
    beside = tt;
  };
  done = λ stood ask h. refl;
  undone = λ stood ask h. tt;
  on = refl;
  broken = tt;
  counts = record { kept = le_refl f; store = tt; trust = λ t. t };
  leaves = λ sound ask k l. l;
  committed = λ sound ask. tt;
  whole = λ sound ask all. all;
}

passed_nothing : (rows : List Row) (c : ℕ) → AreToldPassages no_changes rows c
passed_nothing rows c uprn volume is =
    let none : None ≡ Some (Some volume) = sym (finite.get-empty nat_cmp uprn) ∙ is in
    absurd (cc)

told_nothing : (rows : _) → AreTold no_changes rows
told_nothing rows = record { told = λ k volume is. absurd (never_since k volume is) }
  where
    never_since : (k : Key) (volume : ℕ) → stood_in no_changes.touched k ≡ Since volume → ⊥
    never_since k volume is =
        let none : NoRow ≡ Since volume = sym (ap (λ o. option_map_or (λ (t : Touch). t.stood) o NoRow) (finite.get-empty key_cmp k)) ∙ is in
        cc

module _ (register : List ℕ) (s : State) (a : Counts) (j : Judging) (f c : ℕ) where
  abbrev db : Database
  db = s.now

  made_is : view_made db (record { code = c; changes = no_changes; any_passed = None }) ≡ last_in db c
  made_is = nothing (last_in db c)

  pub goes_open : Goes (seen_beside register s a j f) (seen_beside register s a (Open (record { code = c; changes = no_changes; any_passed = None })) f) (Ok (tt {0})) (IsAtHand (content_in db (working_of db j)) c)
      (after_begin (content_in db (working_of db j)) c) None (keeper.Open c)
  goes_open = record {
    harm = λ h. h;
    stands = λ stood ask h. record {
      tables = record {
        kept = stood.tables.kept;
        whose = stood.tables.whose;
        so = stood.tables.so;
        lawful = content_lawful db stood.tables.kept _ (subst IsLawfulView (sym made_is) (view_lawful db stood.tables.kept c (reached_in (rows_of db received) c)));
      };
      beside = record {
        at_hand = ask;
        makes = record { made = subst (Make (last_in db c) no_changes) (sym made_is) (changes_make.nothing (last_in db c)); told = told_nothing (histories_in (rows_of db version2) c); passed = passed_nothing (rows_of db version2) c; known = λ any is. cc };
      };
    };
    done = λ stood ask h. ap (content_in db) (made_is ∙ sym (last_is db stood.tables.kept c));
    undone = λ stood ask h. tt;
    on = refl;
    broken = tt;
    counts = record { kept = le_refl f; store = tt; trust = λ t. t };
    leaves = λ sound ask k l. l;
    committed = λ sound ask. tt;
    whole = λ sound ask all. all;
  }

-- ---- a change

-- what may be left doesn't grow
stays : {T : Type 0} (old new : State) (r : Result T ShelfFault) (P : Database → T → Type 0) → Asks old new r P → (IsUnharmed old → IsKept old.now) → (k : Content) → MayLeave new k → MayLeave old k
stays old new r P asks kept k l =
    let s = asks.leaves (λ h. (kept h).tables) in
    record {
      clean = omega (arith, s.clean, l.clean);
      db = l.db;
      sound = l.sound;
      left = elim (s.crash l.clean l.db.trees l.left) [ inl was ↦ was | inr never ↦ absurd never ];
      content = l.content;
    }

module _ (register : List ℕ) (old new : State) (a b : Counts) (m n : Judgement) (f g : ℕ) (becomes : View → View) (lawful : (w : View) → IsLawfulView w → IsLawfulView (becomes w))
    (code : n.code ≡ m.code) (asks : Asks old new (Ok (tt {0})) (λ db x. Turns db m n becomes)) (tallies : Tallies f g (Ok (tt {0}))) (same : b ≡ a) where
  abbrev w : View
  w = view_made old.now m

  turned : StoreStands register old a (Open m) → IsUnharmed new → Makes old.now n (becomes w)
  turned stood h = asks.right h stood.tables.kept w stood.beside.makes

  standing : StoreStands register old a (Open m) → IsUnharmed new → (db : Database) → old.now ≡ db
      → (IsKept db) × (IsOf register (rows_of db meta)) × (AreSo b (rows_of db received)) × (IsLawful (content_in db (view_made db n))) × (IsUnderWay db n)
  standing stood h d0 now =
      subst (λ d. (IsKept d) × (IsOf register (rows_of d meta)) × (AreSo b (rows_of d received)) × (IsLawful (content_in d (view_made d n))) × (IsUnderWay d n)) now (
        stood.tables.kept,
        stood.tables.whose,
        subst (λ r. AreSo r (rows_of old.now received)) (sym same) stood.tables.so,
        content_lawful old.now stood.tables.kept _ (subst IsLawfulView (turned stood h).made.is_laid (lawful w stood.tables.lawful.working)),
        record {
          at_hand = subst (IsAtHand (content_in old.now empty_view)) (sym code) stood.beside.at_hand;
          makes = subst (Makes old.now n) (turned stood h).made.is_laid (turned stood h);
        },
      )

  pub goes_on : Goes (seen_beside register old a (Open m) f) (seen_beside register new b (Open n) g) (Ok (tt {0})) ⊤ (with_working (content_in old.now w) (becomes w)) None (keeper.Open m.code)
  goes_on = record {
    harm = asks.harm;
    stands = λ stood ask h.
        let s = standing stood h new.now (sym (asks.rests h stood.tables.kept.tables)) in
        record { tables = record { kept = s.0; whose = s.1; so = s.2; lawful = s.3 }; beside = s.4 };
    done = λ stood ask h.
        ap (λ (db : Database). content_in db (view_made db n)) (asks.rests h stood.tables.kept.tables)
        ∙ ap (content_in old.now) (sym (turned stood h).made.is_laid);
    undone = λ stood ask h. tt;
    on = ap keeper.Open code;
    broken = tt;
    counts = record { kept = tallies.kept; store = tt; trust = asks.trust };
    leaves = λ sound ask k l. stays old new _ _ asks (λ h. (sound h).tables.kept) k l;
    committed = λ sound ask. tt;
    whole = λ sound ask. whole_still register old new (asks.leaves (λ h. (sound h).tables.kept.tables));
  }

-- a fault breaks the judgement
pub goes_wrong : {T A : Type 0} (register : List ℕ) (old new : State) (a b : Counts) (j : Judging) (f g : ℕ) (e : ShelfFault) (one : Result A ShelfFault) (P : Database → A → Type 0) (becomes : Content) (after : keeper.Progress)
    → Asks old new one P → Tallies {T = T} f g (Err e) → b ≡ a
    → Goes {T = T} (seen_beside register old a j f) (seen_beside register new b Broken g) (Err e) ⊤ becomes None after
goes_wrong {T} register old new a b j f g e one P becomes after asks tallies same = record {
  harm = asks.harm;
  stands = λ stood ask h.
      let s = standing stood h new.now (sym (asks.rests h stood.tables.kept.tables)) in
      record { tables = record { kept = s.0; whose = s.1; so = s.2; lawful = content_lawful new.now s.0 empty_view lawful_empty }; beside = tt };
  done = λ stood ask h. tt;
  undone = λ stood ask h. ap (λ (db : Database). content_in db empty_view) (asks.rests h stood.tables.kept.tables);
  on = tt;
  broken = refl;
  counts = record { kept = tallies.kept; store = tallies.store; trust = asks.trust };
  leaves = λ sound ask k l. stays old new one P asks (λ h. (sound h).tables.kept) k l;
  committed = λ sound ask. tt;
  whole = λ sound ask. whole_still register old new (asks.leaves (λ h. (sound h).tables.kept.tables));
}
  where
    standing : StoreStands register old a j → IsUnharmed new → (db : Database) → old.now ≡ db → (IsKept db) × (IsOf register (rows_of db meta)) × (AreSo b (rows_of db received))
    standing stood h d0 now = subst (λ d. (IsKept d) × (IsOf register (rows_of d meta)) × (AreSo b (rows_of d received))) now (stood.tables.kept, stood.tables.whose, subst (λ r. AreSo r (rows_of old.now received)) (sym same) stood.tables.so)

-- ---- a judgement is kept

module _ (register : List ℕ) (old new : State) (a b : Counts) (m : Judgement) (f g : ℕ) (r : Result (Unit {0}) ShelfFault)
    (alters : Alters old new r (WhereSo a (AppliesNext m.code m.changes))) (tallies : Tallies f g r)
    (at_hand : IsUnharmed new → IsKept old.now → AreSo a (rows_of old.now received) → IsNextIn m.code old.now → AreSo b (rows_of new.now received)) where
  abbrev worked : View
  worked = view_made old.now m

  abbrev becomes : Content
  becomes = with_judgement (content_in old.now worked) m.code (record { verdict = verdict.Applied; view = worked })

  abbrev Stood : Type 0
  Stood = StoreStands register old a (Open m)

  kept_so : Stood → (db : Database) → WhereSo a (AppliesNext m.code m.changes) old.now db → Stands db empty_view becomes
  kept_so stood db applies =
      keep_stands m.code (next_in old.now m.code) m.changes worked old.now db
      (record { kept = stood.tables.kept; next = refl; at_hand = stood.beside.at_hand; made = stood.beside.makes.made; told = stood.beside.makes.told; passed = stood.beside.makes.passed })
      (applies stood.tables.kept stood.tables.so)

  whose_so : Stood → (db : Database) → WhereSo a (AppliesNext m.code m.changes) old.now db → IsOf register (rows_of db meta)
  whose_so stood db applies = of_volume register m.code (next_in old.now m.code) m.changes old.now db stood.tables.kept.tables stood.tables.whose (applies stood.tables.kept stood.tables.so)

  is_next : Stood → IsNextIn m.code old.now
  is_next stood =
      subst (λ n. IsSome (finite.get (files_in (rows_of old.now received)) (m.code, n + 1)))
      (board_reads (rows_of old.now received) (rows_of old.now version2) m.code).reached stood.beside.at_hand

  stands_so : Stood → IsUnharmed new → (r : Result (Unit {0}) ShelfFault) → OnOk r (WhereSo a (AppliesNext m.code m.changes) old.now new.now) → OnErr r (new.now ≡ old.now) → StandsFor register new b empty_view
  stands_so stood h (Ok x) applies same =
      let s = kept_so stood new.now applies in
      record { kept = s.kept; whose = whose_so stood new.now applies; so = at_hand h stood.tables.kept stood.tables.so (is_next stood); lawful = content_lawful new.now s.kept empty_view lawful_empty }
  stands_so stood h (Err e) applies same =
      let kept = subst IsKept (sym same) stood.tables.kept in
      record { kept = kept; whose = subst (λ (db : Database). IsOf register (rows_of db meta)) (sym same) stood.tables.whose; so = at_hand h stood.tables.kept stood.tables.so (is_next stood); lawful = content_lawful new.now kept empty_view lawful_empty }

  stands : Stood → IsUnharmed new → StandsFor register new b empty_view
  stands stood h = stands_so stood h r (alters.done h stood.tables.kept.tables) (alters.undone h stood.tables.kept.tables)

  may_be : (IsUnharmed old → Stood) → (k : Content) → MayLeave new k → MayLeave old k ⊎ (IsUnharmed old × (k ≡ after_stop becomes))
  may_be sound k l =
      let s = alters.leaves (λ h. (sound h).tables.kept.tables) in
      elim (s.crash l.clean l.db.trees l.left) [
        | inl was ↦ inl (record { clean = omega (arith, s.clean, l.clean); db = l.db; sound = l.sound; left = was; content = l.content })
        | inr made ↦ inr (let s = kept_so (sound made.unharmed) made.db made.becomes in (made.unharmed, l.content ∙ same_content made.db l.db s.kept l.sound made.shown empty_view ∙ s.content))
      ]

  still_whole : (IsUnharmed old → Stood) → LeavesKept register old → LeavesKept register new
  still_whole sound = whole_then register old new (MayWrite old (WhereSo a (AppliesNext m.code m.changes))) (alters.leaves (λ h. (sound h).tables.kept.tables))
      (λ trees made.
      let stood = sound made.unharmed in
      kept_of register made.db trees made.shown (kept_so stood made.db made.becomes).kept (whose_so stood made.db made.becomes))

  pub goes_kept : r ≡ Ok (tt {0}) → Goes (seen_beside register old a (Open m) f) (seen_beside register new b Idle g) (Ok (tt {0})) ⊤ becomes (Some becomes) keeper.Idle
  goes_kept is = record {
    harm = alters.harm;
    stands = λ stood ask h. record { tables = stands stood h; beside = tt };
    done = λ stood ask h. (kept_so stood new.now (done stood h)).content;
    undone = λ stood ask h. tt;
    on = refl;
    broken = tt;
    counts = record { kept = tallies.kept; store = tt; trust = alters.trust };
    leaves = λ sound ask k l. may_be sound k l;
    committed = λ sound ask k l.
        let h : IsUnharmed new = record { clean = l.clean; is_open = subst (λ q. OnOk q (IsTrue new.is_open)) is (alters.is_open l.clean) } in
        let fine = alters.harm h in
        (fine, left_alone (sound fine) h k l);
    whole = λ sound ask. still_whole sound;
  }
    where
      done : Stood → IsUnharmed new → WhereSo a (AppliesNext m.code m.changes) old.now new.now
      done stood h = subst (λ q. OnOk q (WhereSo a (AppliesNext m.code m.changes) old.now new.now)) is (alters.done h stood.tables.kept.tables)

      left_alone : Stood → IsUnharmed new → (k : Content) → MayLeave new k → k ≡ after_stop becomes
      left_alone stood h k l =
          let s = kept_so stood new.now (done stood h) in
          l.content
          ∙ same_content new.now l.db s.kept l.sound (subst (λ q. OnOk q ((trees : Trees) → new.may_leave trees → trees ≡ new.now.trees)) is (alters.committed h stood.tables.kept.tables) l.db.trees l.left) empty_view
          ∙ s.content

  pub goes_not_kept : (e : ShelfFault) → r ≡ Err e → Goes {T = Unit {0}} (seen_beside register old a (Open m) f) (seen_beside register new b Broken g) (Err e) ⊤ becomes (Some becomes) keeper.Idle
  goes_not_kept e is = record {
    harm = alters.harm;
    stands = λ stood ask h. record { tables = stands stood h; beside = tt };
    done = λ stood ask h. tt;
    undone = λ stood ask h. ap (λ (db : Database). content_in db empty_view) (subst (λ q. OnErr q (new.now ≡ old.now)) is (alters.undone h stood.tables.kept.tables));
    on = tt;
    broken = refl;
    counts = record { kept = tallies.kept; store = (subst (λ q. Tallies f g q) is tallies).store; trust = alters.trust };
    leaves = λ sound ask k l. may_be sound k l;
    committed = λ sound ask. tt;
    whole = λ sound ask. still_whole sound;
  }
