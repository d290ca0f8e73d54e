-- The trees of a sound database list just one sequence of tables.
use Rattle.std.proofs.Common.{◌≡◌, ℕ, pos, ◌+◌, List, [], ◌∷◌, filter, Ok, arith, refl, sym, subst, ◌∙◌}
use Rattle.std.specs.List.{AllZip}
use Rattle.sqlite_value.specs.declared.value.Value.TheVariants.{Int, Text}
use Rattle.sqlite_value.specs.Order.{Row}
use Rattle.sqlite_trees.specs.Objects.{catalog_tree}
use Rattle.sqlite_catalog.specs.Listing.{IsTableRow, is_table_row}
use Rattle.sqlite_resolve.specs.Compile.{table_defined_by}
use Rattle.sqlite_schema.specs.declared.schema.Table.{Table}
use Rattle.sqlite.specs.Effect.{Database, IsDatabase}

same_number : (m n : ℕ) → Int (pos (m + 1)) ≡ Int (pos (n + 1)) → m ≡ n
same_number m n e = let same : m + 1 ≡ n + 1 = cc in omega (arith, same)

same_text : (s t : List ℕ) → Text s ≡ Text t → s ≡ t
same_text s t e = cc

same_made : (t u : Table) (a b : List ℕ) → a ≡ b → table_defined_by a ≡ Ok t → table_defined_by b ≡ Ok u → t ≡ u
same_made t u a b same e f = let both = subst (λ s. table_defined_by s ≡ Ok t) same e in cc

same_table : (row : Row) (t u : Table) → IsTableRow row t → IsTableRow row u → t ≡ u
same_table row t u h k =
    let number = same_number t.tree u.tree (sym h.described.id ∙ k.described.id) in
    let made = same_made h.defined.0 k.defined.0 h.sql k.sql (same_text h.sql k.sql (sym h.sql_is ∙ k.sql_is)) h.defined.1 k.defined.1 in
    h.defined.2 ∙ (λ i. record (made i) { tree = number i }) ∙ sym k.defined.2

same_tables : (rows : List Row) (ts us : List Table) → AllZip IsTableRow rows ts → AllZip IsTableRow rows us → ts ≡ us
same_tables [] [] [] h k = refl
same_tables [] [] (u ∷ us) h k = absurd k
same_tables [] (t ∷ ts) us h k = absurd h
same_tables (r ∷ rows) [] us h k = absurd h
same_tables (r ∷ rows) (t ∷ ts) [] h k = absurd k
same_tables (r ∷ rows) (t ∷ ts) (u ∷ us) h k = λ i. same_table r t u h.0 k.0 i ∷ same_tables rows ts us h.1 k.1 i

pub one_list : (a b : Database) → a.trees ≡ b.trees → IsDatabase a → IsDatabase b → a.schema.tables ≡ b.schema.tables
one_list a b same h k =
    same_tables (filter is_table_row (b.trees catalog_tree)) a.schema.tables b.schema.tables
    (subst (λ trees. AllZip IsTableRow (filter is_table_row (trees catalog_tree)) a.schema.tables) same h.lists.listed.tables) k.lists.listed.tables
