-- What the query of a page of rows of kind 92 answers, by value.
use Rattle.std.proofs.Common.{◌≡◌, ◌∙◌, inl, inr, ℕ, ℤ, pos, ◌&&◌, ◌||◌, Bool, true, false, List, [], ◌∷◌, Some, Result, IfOk, Vec, refl, sym, ap}
use Rattle.std.proofs.lemmas.Bool.{and_parts, and_from}
use Rattle.std.proofs.lemmas.Cmp.{nat_list_cmp_total}
use Rattle.std.proofs.lemmas.Map.Lookups.{exact_bytes}
use Rattle.std.proofs.lemmas.Cmp.{tied_itself}
use Rattle.std.specs.Cmp.Lexicographic.{slice_cmp}
use Rattle.std.specs.Ordering.{is_ge, is_gt, is_lt, nat_cmp, ordering_then}
use Rattle.std.specs.declared.alloc.Global.{Global}
use Rattle.std.specs.declared.cmp.Ordering.{Ordering}
use Rattle.std.specs.declared.cmp.Ordering.TheVariants.{Less, Equal, Greater}
use Rattle.sqlite_rules.specs.Lists.{Has}
use Rattle.sqlite_sql.specs.Ops.{binary, from_truth, is_true, or3, test, truth}
use Rattle.sqlite_value.specs.Keys.{collated}
use Rattle.sqlite_sql.specs.declared.ops.BinaryOp.TheVariants.{Compare, Or}
use Rattle.sqlite_sql.specs.declared.ops.CompareOp.TheVariants.{Eq, Ge, Gt}
use Rattle.sqlite_value.specs.declared.keys.Collation.TheVariants.{Binary}
use Rattle.sqlite.specs.declared.error.Error.{Error}
use Rattle.sqlite.specs.declared.types.Value.{Value}
use Rattle.sqlite.specs.declared.types.Value.TheVariants.{Int, Text}
use Rattle.sqlite.specs.Effect.{Database}
use Rattle.sqlite.specs.Order.{Row}
use Rattle.sqlite.specs.Term.{col}
use Rattle.gaz_sql_facts.specs.Selects.{passes, rising, Selects}
use Rattle.gaz_sql_facts.proofs.Equal.{compared-Text, holds_of, int_is, same_int}
use Rattle.gaz_sql_facts.proofs.Selects.{alone}
use Rattle.gaz_tables.proofs.CustodyQueries.{behind_tests, behind_terms}
use Rattle.gaz_tables.proofs.Shown.{answered}
use Rattle.gaz_tables.proofs.Tests.{means, met}
use Rattle.gaz_tables.proofs.VersionRows.{cust_is, kind_is, id_is, born_is}
use Rattle.gaz_tables.specs.Custody.{ComesBehind, FindsCustodyBehind, IsBornAfter, IsCustodyBehind}
use Rattle.gaz_tables.specs.Schema.{version2}
use Rattle.gaz_tables.specs.Stores.{HasTables}
use Rattle.gaz_tables.specs.Tables.{rows_of}
use Rattle.gaz_tables.specs.Versions.{born_of, cust_of, id_of, kind_of}

-- ---- one test or another

-- OR of two comparisons of values that are there
abbrev either : Value → Value → Value → Value → Bool
either a b c d = is_true (binary Or (binary (Compare Gt Binary) a b) (binary (Compare Gt Binary) c d))

or_of : (x y : Bool) → is_true (from_truth (or3 (truth (from_truth (Some x))) (truth (from_truth (Some y))))) ≡ (is_true (from_truth (Some x)) || is_true (from_truth (Some y)))
or_of true true = refl
or_of true false = refl
or_of false true = refl
or_of false false = refl

either_is : (s t : List ℕ) (m n : ℤ) → either (Text s) (Text t) (Int m) (Int n) ≡ (holds_of Gt (Text s) (Text t) || holds_of Gt (Int m) (Int n))
unfolding binary
either_is s t m n = or_of (test Gt (collated Binary (Text s) (Text t))) (test Gt (collated Binary (Int m) (Int n)))

-- ---- behind an id and a volume

module _ (db : Database) (has : HasTables db) (id : List ℕ) (born : ℕ) (r : Row) (there : Has (rows_of db version2) r) where
  abbrev later : Bool
  later = holds_of Gt (born_of r) (Int (pos born))

  later_is : later ≡ true → IsBornAfter born r
  later_is h = (means ((8, Gt, Int (pos born)) ∷ []) r refl (born_is db has r there, tt) (and_from _ _ h refl)).0

  is_later : IsBornAfter born r → later ≡ true
  is_later h = (and_parts _ _ (met ((8, Gt, Int (pos born)) ∷ []) r (born_is db has r there, tt) (h, tt))).0

  abbrev pub from : Bool
  from = holds_of Ge (id_of r) (Text id)

  abbrev pub passed : Bool
  passed = either (id_of r) (Text id) (born_of r) (Int (pos born))

  abbrev pub comes : Bool
  comes = from && passed

  -- by the order of the ids
  comes_by : (s : List ℕ) (o : Ordering) → slice_cmp nat_cmp s id ≡ o → id_of r ≡ Text s → (is_ge o && (is_gt o || later)) ≡ true → ComesBehind id born r
  comes_by s Greater is e h = inl (s, e, is)
  comes_by s Equal is e h = inr (e ∙ ap Text (exact_bytes s id is), later_is h)
  comes_by s Less is e h = absurd (cc)

  comes_told : (s : List ℕ) (m : ℤ) → id_of r ≡ Text s → born_of r ≡ Int m → comes ≡ (is_ge (slice_cmp nat_cmp s id) && (is_gt (slice_cmp nat_cmp s id) || later))
  comes_told s m e f = rw (e, f) (λ i. compared-Text Ge s id i && (either_is s id m (pos born) ∙ ap (λ b. b || holds_of Gt (Int m) (Int (pos born))) (compared-Text Gt s id)) i)

  pub comes_is : comes ≡ true → ComesBehind id born r
  comes_is h =
      let s = id_is db has r there in
      let m = born_is db has r there in
      comes_by s.0 (slice_cmp nat_cmp s.0 id) refl s.1 (sym (comes_told s.0 m.0 s.1 m.1) ∙ h)

  pub is_coming : ComesBehind id born r → comes ≡ true
  is_coming (inl x) = let m = born_is db has r there in comes_told x.0 m.0 x.1 m.1 ∙ ap (λ o. is_ge o && (is_gt o || later)) x.2
  is_coming (inr x) =
      let m = born_is db has r there in
      comes_told id m.0 x.0 m.1 ∙ ap (λ o. is_ge o && (is_gt o || later)) (tied_itself nat_list_cmp_total id) ∙ is_later x.1

-- ---- the page

-- by two columns, and then by none
alone_two : (o p : Ordering) → is_lt (ordering_then o (ordering_then p Equal)) ≡ is_lt (ordering_then o p)
alone_two Less p = refl
alone_two Equal p = alone p
alone_two Greater p = refl

module _ (db : Database) (has : HasTables db) (cust : ℕ) (id : List ℕ) (born most : ℕ) where
  abbrev pub behind_params : Row
  behind_params = Int (pos cust) ∷ Text id ∷ Int (pos born) ∷ Int (pos most) ∷ []

  fits : (r : Row) → Has (rows_of db version2) r → passes behind_tests behind_params r ≡ true → IsCustodyBehind cust id born r
  fits r there p =
      let low = from db has id born r there in
      let high = passed db has id born r there in
      let of_cust = and_parts (holds_of Eq (cust_of r) (Int (pos cust))) (holds_of Eq (kind_of r) (Int (pos 92)) && (low && (high && true))) p in
      let of_kind = and_parts (holds_of Eq (kind_of r) (Int (pos 92))) (low && (high && true)) of_cust.1 in
      let behind = and_parts low (high && true) of_kind.1 in
      record {
        of_cust = int_is (cust_of r) (pos cust) (cust_is db has r there) of_cust.0;
        of_kind = int_is (kind_of r) (pos 92) (kind_is db has r there) of_kind.0;
        behind = comes_is db has id born r there (and_from low high behind.0 (and_parts high true behind.1).0);
      }

  taken : (r : Row) → Has (rows_of db version2) r → IsCustodyBehind cust id born r → passes behind_tests behind_params r ≡ true
  taken r there f =
      let low = from db has id born r there in
      let high = passed db has id born r there in
      let both = and_parts low high (is_coming db has id born r there f.behind) in
      and_from (holds_of Eq (cust_of r) (Int (pos cust))) (holds_of Eq (kind_of r) (Int (pos 92)) && (low && (high && true))) (same_int (cust_of r) (pos cust) f.of_cust)
      (and_from (holds_of Eq (kind_of r) (Int (pos 92))) (low && (high && true)) (same_int (kind_of r) (pos 92) f.of_kind) (and_from low (high && true) both.0 (and_from high true both.1 refl)))

  page_found : (answer : List Row) → Selects behind_tests behind_terms ((col 1 3, rising) ∷ (col 1 8, rising) ∷ []) (Some most) (rows_of db version2) behind_params answer → FindsCustodyBehind cust id born most (rows_of db version2) answer
  page_found answer s = record {
    chosen = s.chosen;
    picks = record { test = passes behind_tests behind_params; sound = fits; complete = taken; same = s.same };
    rising = λ k d low high. sym (alone_two _ _) ∙ s.sorted k d low high;
    shown = s.shown;
  }

  pub behind_found : (r : Result (Vec Row Global) Error) → IfOk r (λ rows. Selects behind_tests behind_terms ((col 1 3, rising) ∷ (col 1 8, rising) ∷ []) (Some most) (rows_of db version2) behind_params rows.items)
      → IfOk r (λ rows. FindsCustodyBehind cust id born most (rows_of db version2) rows.items)
  behind_found r h = answered r page_found h
