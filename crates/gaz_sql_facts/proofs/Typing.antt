-- The types of a query over one table, and the same query over a table at another tree.
use Rattle.std.proofs.Common.{◌≡◌, ℕ, Bool, true, false, ◌&&◌, if◌then◌else◌, [], ◌∷◌, Some, Ok, Err, refl, sym, subst, ◌∙◌}
use Rattle.sqlite_sql.specs.Query.{Join, Query, inner, end}
use Rattle.sqlite_schema.specs.declared.program.Program.{Program}
use Rattle.sqlite_schema.specs.declared.schema.Schema.{Schema}
use Rattle.sqlite_schema.specs.declared.schema.Table.{Table}
use Rattle.sqlite_draft.specs.declared.query.Draft.{Draft}
use Rattle.sqlite_draft.specs.Query.{query_of}
use Rattle.sqlite_typing.specs.Types.{row_classes, filled, accepts_after, is_count}
use Rattle.sqlite_resolve.specs.declared.error.CompileError.TheVariants.{Mismatch}
use Rattle.sqlite_resolve.specs.Lowering.{Checked, and_then}
use Rattle.sqlite_resolve.specs.Program.{program}
use Rattle.gaz_sql_facts.specs.Meaning.{asking}
use Rattle.gaz_sql_facts.specs.Standing.{StandsAt}
use Rattle.gaz_sql_facts.proofs.Looks.{as_read}

-- what came of a value that was read
pub taken : {A B : Type 0} (r : Checked A) (f : A → Checked B) (b : B) → and_then r f ≡ Ok b → (a : A) × (r ≡ Ok a) × (f a ≡ Ok b)
taken (Ok a) f b h = (a, refl, h)
taken (Err e) f b h = absurd (cc)

-- where one thing comes of a value, another comes of it
pub through : {A B C : Type 0} (r : Checked A) (f : A → Checked B) (g : A → Checked C) (b : B) (c : C) → ((a : A) → f a ≡ Ok b → g a ≡ Ok c) → and_then r f ≡ Ok b → and_then r g ≡ Ok c
through (Ok a) f g b c each h = each a h
through (Err e) f g b c each h = absurd (cc)

pub same_ok : {A : Type 0} {a b : A} → ◌≡◌ {A = Checked A} (Ok a) (Ok b) → a ≡ b
same_ok e = cc

-- what is tested of a query over the one table
abbrev accepts : Table → Draft → Bool
accepts table d = accepts_after [] (query_of d) (Some (row_classes table ∷ [])) && (is_count [] d.limit && is_count [] d.offset)

abbrev typed_or_not : Bool → Draft → Checked Program
typed_or_not b d = if b then Ok (asking (query_of d)) else Err Mismatch

module _ (s : Schema) (at : ℕ) (table : Table) (stands : StandsAt s at table) where
  filled_is : filled s [] [] (inner table.tree end) [] ≡ Some (row_classes table ∷ [])
  filled_is = rw (stands.stored, stands.by_tree)

  filled_at : (d : Draft) → d.from ≡ inner table.tree end → filled s [] [] d.from [] ≡ Some (row_classes table ∷ [])
  filled_at d from = subst (λ (j : Join). filled s [] [] j [] ≡ Some (row_classes table ∷ [])) (sym from) filled_is

  program_is : (d : Draft) → d.from ≡ inner table.tree end → program s [] d ≡ typed_or_not (accepts table d) d
  unfolding program
  program_is d from = λ i. typed_or_not (accepts_after [] (query_of d) (filled_at d from i) && (is_count [] d.limit && is_count [] d.offset)) d

-- a query that is typed is the draft's
by_accepts : (b : Bool) (d : Draft) (p : Program) → typed_or_not b d ≡ Ok p → (b ≡ true) × (asking (query_of d) ≡ p)
by_accepts true d p h = (refl, same_ok h)
by_accepts false d p h = absurd (cc)

pub drafted : (s : Schema) (d : Draft) (p : Program) → program s [] d ≡ Ok p → asking (query_of d) ≡ p
unfolding program
drafted s d p h = (by_accepts _ d p h).1

-- the draft over the table at a tree
abbrev pub at_tree : ℕ → Draft → Draft
at_tree tree d = record d { from = inner tree end }

abbrev pub query_at : ℕ → Query → Query
query_at tree q = record q { from = inner tree end }

module _ (s : Schema) (at : ℕ) (like table : Table) (stands : StandsAt s at (as_read like table)) (s' : Schema) (at' : ℕ) (stands' : StandsAt s' at' like) where
  pub program_moves : (d : Draft) (p : Program) → d.from ≡ inner like.tree end → program s' [] d ≡ Ok p → program s [] (at_tree table.tree d) ≡ Ok (asking (query_at table.tree (query_of d)))
  program_moves d p from h =
      let good = by_accepts (accepts like d) d p (sym (program_is s' at' like stands' d from) ∙ h) in
      program_is s at (as_read like table) stands (at_tree table.tree d) refl ∙ (λ i. typed_or_not (good.0 i) (at_tree table.tree d))
