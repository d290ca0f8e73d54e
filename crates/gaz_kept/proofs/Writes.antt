-- One write of `version2` after another, within a transaction.
use Rattle.std.proofs.Common.{◌≡◌, ◌≢◌, ◌∙◌, ℕ, false, true, List, [], ◌∷◌, ◌++◌, refl, sym, ap, subst, inl, le_refl, arith}
use Rattle.std.specs.Prelude.{Result, Ok, Err, OnOk, IsTrue}
use Rattle.sqlite.proofs.StateLemmas.{survives_then}
use Rattle.sqlite.specs.Effect.{Database}
use Rattle.sqlite.specs.Held.{Held, state}
use Rattle.sqlite.specs.Order.{Row}
use Rattle.sqlite.specs.State.{State, HasCleanDisk, KeepsCounts, Shows, Survives}
use Rattle.sqlite.specs.declared.error.Error.{Error}
use Rattle.sqlite_rules.specs.Lists.{Has}
use Rattle.sqlite_trees.specs.declared.store.Store.{Ghosts}
use Rattle.gaz_records.specs.declared.key.Key.{Key}
use Rattle.gaz_overlay.specs.Changes.{Changes as Made}
use Rattle.gaz_overlay.specs.Writings.{passage_at, writing_at}
use Rattle.gaz_sql_facts.specs.Changes.{AreTreesOf}
use Rattle.gaz_tables.proofs.Staying.{stays}
use Rattle.gaz_tables.proofs.Steps.{clean_before}
use Rattle.gaz_tables.specs.Schema.{version2}
use Rattle.gaz_tables.specs.Stores.{ChangesTable, HasTables, StaysInside}
use Rattle.gaz_tables.specs.Tables.{rows_of, tree_of}
use Rattle.gaz_kept.specs.Keeping.{KeepsVolume, WritesKey, WritesKeys, WritesNumber, WritesNumbers, WritesVersions, WritesVolume}

abbrev pub Becomes : Type 1
Becomes = List Row → List Row → Type 0

-- what leaves the rows leaves the table
pub same_table : (Is : Becomes) (db : Database) → HasTables db → Is (rows_of db version2) (rows_of db version2) → ChangesTable version2 Is db db
same_table Is db has same = record { schema_stays = refl; sound = has.sound; rows = same; shaped = λ good. good; others = λ t listed other. refl }

pub table_then : (One Two Both : Becomes) → ((a b c : List Row) → One a b → Two b c → Both a c) → (old mid new : Database)
    → ChangesTable version2 One old mid → ChangesTable version2 Two mid new → ChangesTable version2 Both old new
table_then One Two Both join old mid new one two = record {
  schema_stays = two.schema_stays ∙ one.schema_stays;
  sound = two.sound;
  rows = join _ _ _ one.rows two.rows;
  shaped = λ good. two.shaped (one.shaped good);
  others = λ t listed other. two.others t (subst (λ s. Has s.tables t) (sym one.schema_stays) listed) (subst (λ s. t.tree ≢ tree_of version2 s) (sym one.schema_stays) other) ∙ one.others t listed other;
}

module _ {S A B : Type 0} (g : Ghosts S) (old mid new : Held S) (x : A) (r : Result B Error) (first : StaysInside g old mid (Ok x)) (second : StaysInside g mid new r)
    (One Two Both : Becomes) (join : (a b c : List Row) → One a b → Two b c → Both a c) where
  pub writes_then : WritesVersions g old mid (Ok x) One → WritesVersions g mid new r Two → WritesVersions g old new r Both
  writes_then one two clean has = by_result r (two clean (stays version2 One _ _ has.there.versions done has).0)
    where
      done : ChangesTable version2 One (state g old).now (state g mid).now
      done = one (clean_before g old mid new x r first second clean) has

      by_result : (q : Result B Error) → OnOk q (ChangesTable version2 Two (state g mid).now (state g new).now) → OnOk q (ChangesTable version2 Both (state g old).now (state g new).now)
      by_result (Err e) h = tt
      by_result (Ok y) h = table_then One Two Both join _ _ _ done h

-- a write is another that says as much
pub writes_as : {S A : Type 0} (g : Ghosts S) (old new : Held S) (r : Result A Error) (One Two : Becomes) → ((a b : List Row) → One a b → Two a b) → WritesVersions g old new r One → WritesVersions g old new r Two
writes_as {A = A} g old new r One Two passes written clean has = by_result r (written clean has)
  where
    by_result : (q : Result A Error) → OnOk q (ChangesTable version2 One (state g old).now (state g new).now) → OnOk q (ChangesTable version2 Two (state g old).now (state g new).now)
    by_result (Err e) h = tt
    by_result (Ok y) h = record { schema_stays = h.schema_stays; sound = h.sound; rows = passes _ _ h.rows; shaped = h.shaped; others = h.others }

-- one key more is written
pub one_more : (c volume : ℕ) (changes : Made) (keys : List Key) (k : Key) (old mid new : List Row)
    → WritesKeys c volume changes keys old mid → WritesKey c volume k (writing_at changes k) mid new → WritesKeys c volume changes (keys ++ k ∷ []) old new
one_more c volume changes [] k old mid new same w = (new, subst (λ l. WritesKey c volume k (writing_at changes k) l new) same w, refl)
one_more c volume changes (q ∷ keys) k old mid new w one = (w.0, w.1, one_more c volume changes keys k w.0 mid new w.2 one)

-- one number more is written
pub number_more : (c volume : ℕ) (changes : Made) (numbers : List ℕ) (k : ℕ) (old mid new : List Row)
    → WritesNumbers c volume changes numbers old mid → WritesNumber c volume k (passage_at changes k) mid new → WritesNumbers c volume changes (numbers ++ k ∷ []) old new
number_more c volume changes [] k old mid new same w = (new, subst (λ l. WritesNumber c volume k (passage_at changes k) l new) same w, refl)
number_more c volume changes (q ∷ numbers) k old mid new w one = (w.0, w.1, number_more c volume changes numbers k w.0 mid new w.2 one)

-- ---- a transaction of its own

module _ {S A : Type 0} (g : Ghosts S) (old begun mid : Held S) (x : A) (c volume : ℕ) (changes : Made)
    (begins : begun ≡ record old { in_transaction = true }) (written : WritesVolume g begun mid (Ok x) c volume changes) (inside : StaysInside g begun mid (Ok x)) where
  same_start : (state g begun).now ≡ (state g old).now
  same_start = ap (λ h. (state g h).now) begins

  makes : HasCleanDisk (state g mid) → HasTables (state g old).now → KeepsVolume c volume changes (state g old).now (state g mid).now
  makes clean it = subst (λ d. KeepsVolume c volume changes d (state g mid).now) same_start (written clean (subst HasTables (sym same_start) it))

  starts : Survives (state g old) (state g begun) (λ _. ⊥)
  starts = subst (λ h. Survives (state g old) (state g h) (λ _. ⊥)) (sym begins) (record {
    clean = le_refl _;
    shield = λ same. same;
    counts = le_refl _;
    limit = refl;
    closes = λ clean is_open. inl is_open;
    crash = λ clean db left. inl left;
  })

  written_inside : Survives (state g old) (state g mid) (λ _. ⊥)
  written_inside = survives_then (state g old) (state g begun) (state g mid) (λ _. ⊥) (λ _. ⊥) (λ _. ⊥) (λ clean db never. never) (λ clean db never. never) starts inside.leaves

  module _ {B : Type 0} (after : State) (r : Result B Error) (commits : Survives (state g mid) after (λ db. db ≡ (state g mid).now.trees)) where
    clean_then : HasCleanDisk after → HasCleanDisk (state g mid)
    clean_then clean = let le = commits.clean in omega (arith, le, clean)

    pub keeps : (HasCleanDisk after → OnOk r (IsTrue (state g mid).in_transaction × Shows (state g mid) after (state g mid).now (state g mid).now false × KeepsCounts (state g mid) after × (after.marks ≡ [])))
        → HasCleanDisk after → HasTables (state g old).now → OnOk r (KeepsVolume c volume changes (state g old).now after.now × (after.committed ≡ after.now))
    keeps ok clean it = by_result r (ok clean)
      where
        by_result : (q : Result B Error) → OnOk q (IsTrue (state g mid).in_transaction × Shows (state g mid) after (state g mid).now (state g mid).now false × KeepsCounts (state g mid) after × (after.marks ≡ []))
            → OnOk q (KeepsVolume c volume changes (state g old).now after.now × (after.committed ≡ after.now))
        by_result (Err e) h = tt
        by_result (Ok y) h = (subst (KeepsVolume c volume changes (state g old).now) (sym h.1.now_is) (makes (clean_then clean) it), h.1.committed_is ∙ sym h.1.now_is)

    pub may_keep : (HasCleanDisk (state g old) → HasTables (state g old).now) → Survives (state g old) after (AreTreesOf (KeepsVolume c volume changes (state g old).now))
    may_keep it = survives_then (state g old) (state g mid) after (λ _. ⊥) (λ db. db ≡ (state g mid).now.trees) (AreTreesOf (KeepsVolume c volume changes (state g old).now))
        (λ clean db never. absurd never)
        (λ clean db is. ((state g mid).now, is, makes (clean_then clean) (it (let le = written_inside.clean in let mid_clean = clean_then clean in omega (arith, le, mid_clean)))))
        written_inside commits
