-- A store is of the register that it was of where other tables than `meta` are written.
use Rattle.std.proofs.Common.{ℕ, List, refl, sym, subst}
use Rattle.sqlite.specs.Effect.{Database}
use Rattle.sqlite.specs.Order.{Row}
use Rattle.gaz_overlay.specs.Changes.{Changes as Overlaid}
use Rattle.gaz_tables.proofs.Staying.{stays}
use Rattle.gaz_tables.specs.Receiveds.{Applies}
use Rattle.gaz_tables.specs.Schema.{meta, received, version2}
use Rattle.gaz_tables.specs.Stores.{ChangesTable, HasTables}
use Rattle.gaz_tables.specs.Tables.{rows_of}
use Rattle.gaz_kept.specs.Keeping.{KeepsVolume, WritesAll}
use Rattle.gaz_kept.specs.Opening.{IsOf}

-- where a file comes, or is judged
pub of_files : (register : List ℕ) (Becomes : List Row → List Row → Type 0) (old new : Database) → HasTables old → IsOf register (rows_of old meta) → ChangesTable received Becomes old new → IsOf register (rows_of new meta)
of_files register Becomes old new has whose changes =
    subst (IsOf register) (sym ((stays received Becomes old new has.there.receiveds changes has).1 meta has.there.metas refl)) whose

-- where a judgement is kept
pub of_volume : (register : List ℕ) (c volume : ℕ) (changes : Overlaid) (old new : Database) → HasTables old → IsOf register (rows_of old meta) → KeepsVolume c volume changes old new → IsOf register (rows_of new meta)
of_volume register c volume changes old new has whose keeps =
    let written = stays version2 (WritesAll c volume changes) old keeps.between has.there.versions keeps.rows has in
    of_files register (Applies c volume) keeps.between new written.0 (subst (IsOf register) (sym (written.1 meta has.there.metas refl)) whose) keeps.mark
