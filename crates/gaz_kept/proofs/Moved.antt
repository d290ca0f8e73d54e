-- What a call tells that moves a database of schema 1, once it is known that the connection is open.
use Rattle.std.proofs.Common.{◌≡◌, ◌∙◌, ◌⊎◌, inl, inr, false, List, ℕ, Result, Ok, Err, OnErr, OnOk, arith, sym, ap, subst}
use Rattle.std.proofs.lemmas.Bool.{cases_eq}
use Rattle.std.specs.Prelude.{IfErr, IsTrue}
use Rattle.std.specs.Result.{is_err}
use Rattle.sqlite.specs.Effect.{Database}
use Rattle.sqlite.specs.Held.{Held}
use Rattle.sqlite.specs.Order.{Row}
use Rattle.sqlite.specs.State.{HasCleanDisk, IsUnchanged, State, Survives}
use Rattle.sqlite.proofs.StateLemmas.{survives_then}
use Rattle.sqlite_trees.specs.Tree.{Trees}
use Rattle.sqlite_trees.specs.View.{doubt}
use Rattle.sqlite_trees.specs.declared.store.Store.{Ghosts}
use Rattle.gaz_sql_facts.specs.Changes.{AreTreesOf}
use Rattle.gaz_tables.specs.Migrating.{HasFirstTables, Migrates}
use Rattle.gaz_kept.specs.Numbered.{IsJudged, TellsRows}
use Rattle.gaz_kept.specs.Opening.{Rests, schema_number}
use Rattle.gaz_kept.specs.declared.refusal.StoreRefusal.{StoreRefusal}
use Rattle.gaz_kept.specs.declared.refusal.StoreRefusal.TheVariants.{Fault}

-- a disk that is clean afterwards was clean before, whatever is asked of a clean one
pub clean_before : (old new : State) (P : Type 0) (Leaves : Trees → Type 0) → ((HasCleanDisk old → P) → Survives old new Leaves) → HasCleanDisk new → HasCleanDisk old
clean_before old new P Leaves leaves clean = by_test (cases_eq (doubt old.is_clean) 0)
  where
    by_test : (doubt old.is_clean ≡ 0) ⊎ ((doubt old.is_clean ≡ 0) → ⊥) → HasCleanDisk old
    by_test (inl is) = is
    by_test (inr not) = let s = leaves (λ early. absurd (not early)) in let le = s.clean in omega (arith, le, clean)

pub on_ok_of : {A E : Type 0} (r : Result A E) (P : Type 0) → false ≡ is_err r → OnOk r P → P
on_ok_of (Ok x) P ok h = h
on_ok_of (Err e) P ok h = absurd (cc)

-- what a stop may leave
abbrev Moved : State → List ℕ → Trees → Type 0
Moved s register = AreTreesOf (Migrates schema_number register s.now)

-- once one has answered
module _ (old mid new : State) (same : IsUnchanged old mid) where
  pub moved_now : (register : List ℕ) → (HasFirstTables mid.now → Migrates schema_number register mid.now new.now × (new.committed ≡ new.now)) → HasFirstTables old.now → Migrates schema_number register old.now new.now × (new.committed ≡ new.now)
  moved_now register moves has =
      let it = moves (subst HasFirstTables (sym same.0.now_is) has) in
      (subst (λ (db : Database). Migrates schema_number register db new.now) same.0.now_is it.0, it.1)

-- the trees that a stop may leave, of an open connection
abbrev Becomes : State → List ℕ → Trees → Type 0
Becomes s register trees = IsTrue s.is_open × Moved s register trees

module _ (old mid new : State) (same : HasCleanDisk mid → IsUnchanged old mid) where
  pub leaves_now : (register : List ℕ) → Survives old mid (λ _. ⊥) → ((HasCleanDisk mid → HasFirstTables mid.now) → Survives mid new (Moved mid register))
      → (HasCleanDisk old → IsTrue old.is_open → HasFirstTables old.now) → Survives old new (Becomes old register)
  leaves_now register survives leaves sound =
      survives_then old mid new (λ _. ⊥) (Moved mid register) (Becomes old register)
      (λ clean trees never. absurd never)
      (λ clean trees made.
      let it = same (clean_before mid new _ (Moved mid register) leaves clean) in
      (it.0.was_open, (made.0, made.1, subst (λ (db : Database). Migrates schema_number register db made.0) it.0.now_is made.2)))
      survives
      (leaves (λ clean.
      let it = same clean in
      let before : HasCleanDisk old = let le = survives.clean in omega (arith, le, clean) in
      subst HasFirstTables (sym it.0.now_is) (sound before it.0.was_open)))

-- ---- once the row of `meta` was compared

pub told_then : {S : Type 0} (g : Ghosts S) (before : Held S) (number : ℕ) (register : List ℕ) → TellsRows number g before register (Ok tt) → (r : Result (Unit {0}) StoreRefusal) → IfErr r (λ e. e ≡ Fault)
    → TellsRows number g before register r
told_then g before number register told (Ok done) causes = told
told_then g before number register told (Err e) is = inl (ap Err is)

pub judged_then : (number : ℕ) (register : List ℕ) (rows : List Row) → IsJudged number register rows (Ok tt) → (r : Result (Unit {0}) StoreRefusal) → IfErr r (λ e. e ≡ Fault) → IsJudged number register rows r
judged_then number register rows judged (Ok done) causes = judged
judged_then number register rows judged (Err e) is = subst (λ f. IsJudged number register rows (Err f)) (sym is) tt

module _ (old mid new : State) where
  pub rests_then : Rests old mid → Rests mid new → Rests old new
  rests_then one two = record {
    was_open = λ opened. one.was_open (two.was_open opened);
    now = λ opened. two.now opened ∙ one.now (two.was_open opened);
    committed = λ opened. two.committed opened ∙ one.committed (two.was_open opened);
  }

  pub refused_then : {A E : Type 0} (r : Result A E) → Rests old mid → OnErr r (Rests mid new) → OnErr r (Rests old new)
  refused_then (Ok x) one two = tt
  refused_then (Err e) one two = rests_then one two

  pub leaves_then : (register : List ℕ) → (HasCleanDisk mid → Rests old mid) → Survives old mid (λ _. ⊥) → ((HasCleanDisk mid → IsTrue mid.is_open → HasFirstTables mid.now) → Survives mid new (Becomes mid register))
      → (HasCleanDisk old → IsTrue old.is_open → HasFirstTables old.now) → Survives old new (Becomes old register)
  leaves_then register rests survives leaves sound =
      survives_then old mid new (λ _. ⊥) (Becomes mid register) (Becomes old register)
      (λ clean trees never. absurd never)
      (λ clean trees made.
      let it = rests (clean_before mid new _ (Becomes mid register) leaves clean) in
      (it.was_open made.0, (made.1.0, made.1.1, subst (λ (db : Database). Migrates schema_number register db made.1.0) (it.now made.0) made.1.2)))
      survives
      (leaves (λ clean opened.
      let it = rests clean in
      let before : HasCleanDisk old = let le = survives.clean in omega (arith, le, clean) in
      subst HasFirstTables (sym (it.now opened)) (sound before (it.was_open opened))))
