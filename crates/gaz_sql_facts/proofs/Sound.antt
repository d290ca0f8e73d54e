-- A sound database's own list says most of it: no two tables have one name, and their numbers are low.
use Rattle.std.proofs.Common.{◌≡◌, ℕ, zero, suc, ◌+◌, ◌^◌, ◌==◌, cond, nat_le, Bool, true, false, List, [], ◌∷◌, map, find, Option, Some, slice_get, arith, inl, inr, refl, sym, ap, subst, ◌∙◌}
use Rattle.std.specs.List.{AllZip, position_from}
use Rattle.std.specs.Char.{to_ascii_lowercase}
use Rattle.std.specs.Ordering.{is_eq}
use Rattle.std.proofs.lemmas.Bool.{eq-eqb, lt-leb}
use Rattle.std.proofs.lemmas.Cmp.{tied_itself, nat_list_cmp_total}
use Rattle.sqlite_trees.specs.Tree.{IsAscending}
use Rattle.sqlite_rules.specs.Lists.{Has}
use Rattle.sqlite_rules.proofs.ListLemmas.{all_has, has_got}
use Rattle.sqlite_schema.specs.Names.{same_name}
use Rattle.sqlite_schema.specs.declared.schema.Table.{Table}
use Rattle.sqlite_catalog.specs.Listing.{automatic, IsGuarded}
use Rattle.sqlite.specs.Effect.{Database, IsDatabase}
use Rattle.gaz_sql_facts.specs.Standing.{StandsAt, alone}

pub itself : (name : List ℕ) → same_name name name ≡ true
unfolding same_name
itself name = ap is_eq (tied_itself nat_list_cmp_total (map to_ascii_lowercase name))

-- a table stands alone, where no statement computes it
pub stands_alone : (table : Table) → nat_le (2 ^ 31) table.tree ≡ false → StandsAt (alone table) 0 table
stands_alone table low = record { named = rw (itself table.name); listed = refl; by_tree = rw (eq-eqb table.tree table.tree refl); stored = low }

by_test : (b : Bool) (k : ℕ) (rest : Option ℕ) → b ≡ true → cond b (Some k) rest ≡ Some k
by_test b k rest h = rw h

first_named : (tables : List Table) (k at : ℕ) (t : Table) → IsAscending (λ s u. same_name s.name u.name ≡ false) tables → slice_get tables at ≡ Some t → position_from (λ x. same_name x.name t.name) k tables ≡ Some (k + at)
first_named [] k at t up is = absurd (cc)
first_named (x ∷ xs) k zero t up is =
    let same : x ≡ t = cc in
    let yes : same_name x.name t.name ≡ true = subst (λ (u : Table). same_name u.name t.name ≡ true) (sym same) (itself t.name) in
    let here : k ≡ k + 0 = omega arith in
    by_test (same_name x.name t.name) k _ yes ∙ ap Some here
first_named (x ∷ xs) k (suc at) t up is =
    let other : same_name x.name t.name ≡ false = all_has (λ (u : Table). same_name x.name u.name ≡ false) xs t up.0 (has_got xs at t is) in
    let there : k + 1 + at ≡ k + suc at = omega arith in
    rw other (first_named xs (k + 1) at t up.1 is ∙ ap Some there)

zip_has : {A B : Type 0} (R : A → B → Type 0) (xs : List A) (ys : List B) (y : B) → AllZip R xs ys → Has ys y → (x : A) × R x y
zip_has R [] [] y h there = absurd there
zip_has R [] (z ∷ ys) y h there = absurd h
zip_has R (x ∷ xs) [] y h there = absurd there
zip_has R (x ∷ xs) (z ∷ ys) y h (inl same) = (x, subst (R x) (sym same) h.0)
zip_has R (x ∷ xs) (z ∷ ys) y h (inr later) = zip_has R xs ys y h.1 later

-- a table that is listed is one that a store keeps, and none that a statement computes
pub low_tree : (db : Database) (table : Table) → IsDatabase db → Has db.schema.tables table → nat_le (2 ^ 31) table.tree ≡ false
low_tree db table sound there =
    let row = zip_has _ _ db.schema.tables table sound.lists.listed.tables there in
    let low = row.1.described.low in
    lt-leb (2 ^ 31) table.tree (omega (arith, low))

-- where a table is listed, and first at its tree, it stands
pub stands_from : (db : Database) (at : ℕ) (table : Table) → IsDatabase db → slice_get db.schema.tables at ≡ Some table → find (λ t. t.tree == table.tree) db.schema.tables ≡ Some table → StandsAt db.schema at table
stands_from db at table sound is first =
    let none : 0 + at ≡ at = omega arith in
    record {
      named = first_named db.schema.tables 0 at table sound.lists.listed.named is ∙ ap Some none;
      listed = is;
      by_tree = first;
      stored = low_tree db table sound (has_got db.schema.tables at table is);
    }

-- each UNIQUE of a table that is listed has its index, whatever other indexes there are
pub guard_of : (db : Database) (at : ℕ) (table : Table) (j : ℕ) (key : List ℕ) → IsDatabase db → slice_get db.schema.tables at ≡ Some table → slice_get table.uniques j ≡ Some key → (tree : ℕ) × Has db.schema.indexes (automatic table j key tree)
guard_of db at table j key sound is has = all_has (IsGuarded db.schema.indexes) db.schema.tables table sound.lists.guarded (has_got db.schema.tables at table is) j key has
