-- A row of `meta` that gets another register keeps what the tables stand for.
use Rattle.std.proofs.Common.{◌≡◌, ◌∙◌, inl, inr, ℕ, pos, List, [], ◌∷◌, refl, sym, ap, subst}
use Rattle.std.specs.declared.cmp.Ordering.TheVariants.{Less}
use Rattle.sqlite.specs.Effect.{Database}
use Rattle.sqlite.specs.Order.{Row, value_cmp}
use Rattle.sqlite.specs.declared.types.Value.{Value}
use Rattle.sqlite.specs.declared.types.Value.TheVariants.{Null, Int, Text}
use Rattle.sqlite_rules.specs.Lists.{Has}
use Rattle.sqlite_trees.specs.Tree.{IsTable, rowid}
use Rattle.sqlite_value.proofs.OrderLemmas.{value_cmp-Int}
use Rattle.gaz_views.specs.View.{View}
use Rattle.gaz_tables.proofs.Staying.{stays}
use Rattle.gaz_tables.specs.Metas.{IsFirst, Rewrites, id_of, meta_row}
use Rattle.gaz_tables.specs.Schema.{meta, received, version2}
use Rattle.gaz_tables.specs.Stores.{HasTables}
use Rattle.gaz_tables.specs.Tables.{rows_of}
use Rattle.gaz_row_items.specs.Versions.{histories_in, passages_in}
use Rattle.gaz_kept.specs.Contents.{board_in, content_in}
use Rattle.gaz_kept.specs.Files.{files_in, reached_in}
use Rattle.gaz_kept.specs.Kept.{AreFirst, ArePassages, AreThrough, IsKept}
use Rattle.gaz_kept.specs.Numbered as numbered
use Rattle.gaz_kept.specs.Opening.{IsOf, schema_number}
use Rattle.gaz_kept.specs.Rewriting.{Registers, RewritesStand}
use Rattle.gaz_kept.specs.Stands.{Stands}

-- ---- what the tables stand for

module _ (register : List ℕ) (old new : Database) (has : HasTables old) (writes : Registers register old new) where
  abbrev Becomes : List Row → List Row → Type 0
  Becomes = Rewrites schema_number register

  pub tables_still : HasTables new
  tables_still = (stays meta Becomes old new has.there.metas writes has).0

  pub files_still : rows_of new received ≡ rows_of old received
  files_still = (stays meta Becomes old new has.there.metas writes has).1 received has.there.receiveds refl

  pub versions_still : rows_of new version2 ≡ rows_of old version2
  versions_still = (stays meta Becomes old new has.there.metas writes has).1 version2 has.there.versions refl

stands : (register : List ℕ) (working : View) (old new : Database) → IsKept old → Registers register old new → Stands new working (content_in old working)
stands register working old new kept writes =
    let files = files_still register old new kept.tables writes in
    let rows = versions_still register old new kept.tables writes in
    record {
      kept = record {
        tables = tables_still register old new kept.tables writes;
        files = λ r there. kept.files r (subst (λ l. Has l r) files there);
        first = λ c. subst (λ l. AreFirst l c) (sym files) (kept.first c);
        rows = λ r there. kept.rows r (subst (λ l. Has l r) rows there);
        histories = λ c. subst (λ l. AreThrough (reached_in (rows_of new received) c) (histories_in l c)) (sym rows) (subst (λ l. AreThrough (reached_in l c) (histories_in (rows_of old version2) c)) (sym files) (kept.histories c));
        passages = λ c. subst (λ l. ArePassages (reached_in (rows_of new received) c) (passages_in l c)) (sym rows) (subst (λ l. ArePassages (reached_in l c) (passages_in (rows_of old version2) c)) (sym files) (kept.passages c));
      };
      content = λ i. record { files = files_in (files i); board = board_in (files i) (rows i); working = working };
    }

-- ---- whose store it is

never_twice : (r : Row) (n : ℕ) (register : List ℕ) → r ≡ meta_row n register → ¬ (value_cmp (rowid r) (rowid r) ≡ Less)
never_twice r n register is less = absurd (let e = subst (λ x. value_cmp (rowid x) (rowid x) ≡ Less) is less in cc (value_cmp-Int (pos 1) (pos 1)))

-- rows that are all one row of `meta` are that row alone
pub alone : (n : ℕ) (register : List ℕ) (rows : List Row) → IsTable rows → Has rows (meta_row n register) → ((r : Row) → Has rows r → r ≡ meta_row n register) → rows ≡ meta_row n register ∷ []
alone n register [] rises there only = absurd there
alone n register (r ∷ []) rises there only = ap (λ x. x ∷ []) (only r (inl refl))
alone n register (r ∷ s ∷ more) rises there only =
    let e : s ≡ r = only s (inr (inl refl)) ∙ sym (only r (inl refl)) in
    absurd (never_twice r n register (only r (inl refl)) (subst (λ x. value_cmp (rowid r) (rowid x) ≡ Less) e rises.0.0))

-- what the row of id 1 becomes
becomes : (number : ℕ) (register : List ℕ) (v : Value) → v ≡ Int (pos 1) → v ∷ Null ∷ Int (pos number) ∷ Text register ∷ [] ≡ meta_row number register
becomes number register v is = ap (λ (x : Value). x ∷ Null ∷ Int (pos number) ∷ Text register ∷ []) is

one_there : (r x : Row) → Has (r ∷ []) x → x ≡ r
one_there r x there = elim there [ inl is ↦ is | inr none ↦ absurd none ]

-- the only row, of one number and one register, becomes one of the others
pub becomes_of : (was number : ℕ) (one other : List ℕ) (old new : List Row) → IsTable new → numbered.IsOf was one old → Rewrites number other old new → numbered.IsOf number other new
becomes_of was number one other old new rises mine writes =
    let r = mine.0 in
    let n = mine.1 in
    let there : Has new (meta_row number other) =
    subst (Has new) (becomes number other (id_of r) n.id) (writes.done r (subst (λ l. Has l r) (sym n.only) (inl refl)) n.id) in
    let only : (x : Row) → Has new x → x ≡ meta_row number other = λ x found. elim (writes.only x found) [
      | inl kept ↦ absurd (kept.1 (subst IsFirst (sym (one_there r x (subst (λ l. Has l x) n.only kept.0))) n.id))
      | inr made ↦ made.3 ∙ becomes number other (id_of made.0) made.2
    ] in (
      meta_row number other,
      record { only = alone number other new rises there only; id = refl; number_is = refl },
      refl,
    )

is_of : (one other : List ℕ) (old new : Database) → HasTables old → IsOf one (rows_of old meta) → Registers other old new → IsOf other (rows_of new meta)
is_of one other old new has mine writes =
    becomes_of schema_number schema_number one other (rows_of old meta) (rows_of new meta) (tables_still other old new has writes).metas_shaped.0 mine writes.rows

pub rewrites_stand : RewritesStand
rewrites_stand = record { stands = stands; is_of = is_of }
