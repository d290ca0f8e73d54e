-- What the statements on `received` make of files and verdicts.
use Rattle.std.proofs.Common.{◌≡◌, ◌≢◌, ◌∙◌, ◌≤◌, ◌<◌, ◌+◌, ◌++◌, ◌==◌, ◌⊎◌, inl, inr, ℕ, zero, suc, pos, Bool, true, false, cond, List, [], ◌∷◌, map, length, refl, sym, ap, subst, arith, eq-eqb, eqb-true}
use Rattle.std.proofs.lemmas.Bool.{cases_eq}
use Rattle.std.proofs.lemmas.List.{length-append, length-map, map-append}
use Rattle.std.proofs.lemmas.Map.Lookups.{exact_unsigned}
use Rattle.std.specs.Prelude.{Option, Some, None, option_map}
use Rattle.std.specs.Cmp.{nat_cmp_total}
use Rattle.std.specs.FinMap as finite
use Rattle.std.specs.FinMap.{put}
use Rattle.std.specs.FinMap.Entries.{by_order}
use Rattle.std.specs.List.{filter_map, range_with_len}
use Rattle.std.specs.Ordering.{nat_cmp}
use Rattle.sqlite.specs.declared.types.Value.{Value}
use Rattle.sqlite.specs.declared.types.Value.TheVariants.{Int}
use Rattle.sqlite.specs.Order.{Row}
use Rattle.sqlite_rules.specs.Lists.{Has}
use Rattle.sqlite_rules.proofs.ProbeLemmas.{has_mapped, mapped_has}
use Rattle.gaz_fields.proofs.LabelOrder.{greater}
use Rattle.gaz_views.specs.declared.verdict.Verdict.{Verdict}
use Rattle.gaz_keeper.proofs.Pairs.{pairs_exact, pairs_total}
use Rattle.gaz_sql_facts.specs.Changes.{IsAdded, IsChanged}
use Rattle.gaz_tables.specs.Receiveds as table
use Rattle.gaz_tables.specs.Receiveds.{IsVolume, judged, unjudged}
use Rattle.gaz_row_items.specs.Versions.{number_in}
use Rattle.gaz_row_items.proofs.Pairs.{AreSingle, IsWith, alike, inserted, not_there}
use Rattle.gaz_kept.specs.Files.{bytes_in, custodian_in, file_in, files_in, judged_in, judged_volumes, reached_in, verdict_in, verdict_of, verdicts_in, volume_in}
use Rattle.gaz_kept.specs.Judging.{AreFiles, Arrives, FilesChange, IsJudged, IsVerdict}
use Rattle.gaz_kept.specs.Kept.{AreFirst, IsFile}
use Rattle.gaz_kept.proofs.RowsRead.{not_none, read_from, read_in, some_same, whole}

-- ---- the entries of the files

abbrev entries : List Row → List ((ℕ × ℕ) × List ℕ)
entries rows = map file_in rows

pub single_files : (rows : List Row) → AreFiles rows → AreSingle (entries rows)
single_files rows are k x y hx hy =
    let r = has_mapped file_in rows (k, x) hx in
    let s = has_mapped file_in rows (k, y) hy in
    let keys : (custodian_in r.0, volume_in r.0) ≡ (custodian_in s.0, volume_in s.0) = sym (ap (λ e. e.0) r.2) ∙ ap (λ e. e.0) s.2 in
    let same = are.once r.0 s.0 r.1 s.1 (ap (λ p. p.0) keys, ap (λ p. p.1) keys) in
    ap (λ e. e.1) r.2 ∙ ap (λ t. bytes_in (table.bytes_of t)) same ∙ sym (ap (λ e. e.1) s.2)

abbrev beside : ℕ → Verdict → ℕ × Verdict
beside n v = (n, v)

-- a judged volume and its row
pub record Said (c : ℕ) (r : Row) (k : ℕ) (x : Verdict) : Type 0 where
  pub custodian : custodian_in r ≡ c
  pub volume : volume_in r ≡ k
  pub verdict : verdict_in r ≡ Some x

pub said_by : (c : ℕ) (r : Row) (k : ℕ) (x : Verdict) → judged_in c r ≡ Some (k, x) → Said c r k x
said_by c r k x is = by_test (custodian_in r == c) refl is
  where
    by_verdict : (custodian_in r == c) ≡ true → (o : Option Verdict) → verdict_in r ≡ o → option_map (beside (volume_in r)) o ≡ Some (k, x) → Said c r k x
    by_verdict t None v e = not_none (k, x) e refl
    by_verdict t (Some w) v e =
        let pair : (volume_in r, w) ≡ (k, x) = some_same (volume_in r, w) (k, x) refl e in
        record { custodian = eqb-true (custodian_in r) c t; volume = ap (λ p. p.0) pair; verdict = v ∙ ap (λ p. Some p.1) pair }

    by_test : (b : Bool) → (custodian_in r == c) ≡ b → cond b (option_map (beside (volume_in r)) (verdict_in r)) None ≡ Some (k, x) → Said c r k x
    by_test true t e = by_verdict t (verdict_in r) refl e
    by_test false t e = not_none (k, x) e refl

pub said_as : (c : ℕ) (r : Row) (k : ℕ) (x : Verdict) → Said c r k x → judged_in c r ≡ Some (k, x)
said_as c r k x s =
    ap (λ b. cond b (option_map (beside (volume_in r)) (verdict_in r)) None) (eq-eqb (custodian_in r) c s.custodian)
    ∙ (λ i. option_map (beside (s.volume i)) (s.verdict i))

-- the entries of a custodian's judged volumes
abbrev judgements_of : ℕ → List Row → List (ℕ × Verdict)
judgements_of c rows = filter_map (judged_in c) rows

pub single_judged : (rows : List Row) → AreFiles rows → (c : ℕ) → AreSingle (judgements_of c rows)
single_judged rows are c k x y hx hy =
    let r = read_from (judged_in c) rows (k, x) hx in
    let s = read_from (judged_in c) rows (k, y) hy in
    let a = said_by c r.0 k x r.2 in
    let b = said_by c s.0 k y s.2 in
    let same = are.once r.0 s.0 r.1 s.1 (a.custodian ∙ sym b.custodian, a.volume ∙ sym b.volume) in
    some_same x y (sym (ap verdict_in same) ∙ a.verdict) b.verdict

-- ---- a file comes

module _ (id : Value) (c volume : ℕ) (bytes : List ℕ) (old new : List Row) (first : 1 ≤ volume) (last : volume ≤ 999_999) (are : AreFiles old)
    (fresh : finite.get (files_in old) (c, volume) ≡ None) (added : IsAdded (id ∷ unjudged c volume bytes) old new) where
  abbrev row : Row
  row = id ∷ unjudged c volume bytes

  row_is : IsFile row
  row_is = record {
    cust = refl;
    volume = refl;
    bytes = refl;
    state = refl;
    place = refl;
    rule = refl;
    first = first;
    last = last;
    states = omega arith;
    rules = omega arith;
    no_place = λ _. refl;
    no_rule = λ _. refl;
  }

  absent : (s : Row) → Has old s → custodian_in s ≡ c → volume_in s ≡ volume → ⊥
  absent s was cust vol =
      not_there pairs_total pairs_exact (c, volume) (entries old) (sym (finite.get-from_entries pairs_total (entries old) (c, volume)) ∙ fresh) (bytes_in (table.bytes_of s))
      (subst (λ p. Has (entries old) (p, bytes_in (table.bytes_of s))) (λ i. (cust i, vol i)) (mapped_has file_in old s was))

  arrived_once : (r s : Row) → (r ≡ row) ⊎ Has old r → (s ≡ row) ⊎ Has old s → custodian_in r ≡ custodian_in s → volume_in r ≡ volume_in s → r ≡ s
  arrived_once r s (inl a) (inl b) cust vol = a ∙ sym b
  arrived_once r s (inl a) (inr b) cust vol = absurd (absent s b (sym cust ∙ ap custodian_in a) (sym vol ∙ ap volume_in a))
  arrived_once r s (inr a) (inl b) cust vol = absurd (absent r a (cust ∙ ap custodian_in b) (vol ∙ ap volume_in b))
  arrived_once r s (inr a) (inr b) cust vol = are.once r s a b (cust, vol)

  arrived_file : (r : Row) → (r ≡ row) ⊎ Has old r → IsFile r
  arrived_file r (inl is) = subst IsFile (sym is) row_is
  arrived_file r (inr was) = are.each r was

  arrived : AreFiles new
  arrived = record { each = λ r there. arrived_file r (added.only r there); once = λ r s hr hs same. arrived_once r s (added.only r hr) (added.only s hs) same.0 same.1 }

  arrived_with : IsWith (c, volume) bytes (entries old) (entries new)
  arrived_with = record {
    single = single_files new arrived;
    there = mapped_has file_in new row added.there;
    only = λ q y there. let r = has_mapped file_in new (q, y) there in by_row q y r.0 r.2 (added.only r.0 r.1);
    kept = λ q y was other. let r = has_mapped file_in old (q, y) was in subst (Has (entries new)) (sym r.2) (mapped_has file_in new r.0 (added.kept r.0 r.1));
  }
    where
      by_row : (q : ℕ × ℕ) (y : List ℕ) (r : Row) → (q, y) ≡ file_in r → (r ≡ row) ⊎ Has old r → (q ≡ (c, volume)) ⊎ Has (entries old) (q, y)
      by_row q y r is (inl same) = inl (ap (λ e. e.0) (is ∙ ap file_in same))
      by_row q y r is (inr was) = inr (subst (Has (entries old)) (sym is) (mapped_has file_in old r was))

  not_judged : (d : ℕ) → judged_in d row ≡ None
  not_judged d = by_test (c == d)
    where
      by_test : (b : Bool) → cond b (option_map (beside volume) (verdict_of 0 0 0)) None ≡ None
      by_test true = refl
      by_test false = refl

  arrived_judged : (d : ℕ) → judged_volumes new d ≡ judged_volumes old d
  arrived_judged d = alike nat_cmp_total exact_unsigned (judgements_of d new) (judgements_of d old) (single_judged old are d)
      (λ q x there. let r = read_from (judged_in d) new (q, x) there in by_row q x r.0 r.2 (added.only r.0 r.1))
      (λ q x was. let r = read_from (judged_in d) old (q, x) was in read_in (judged_in d) new r.0 (q, x) (added.kept r.0 r.1) r.2)
    where
      by_row : (q : ℕ) (x : Verdict) (r : Row) → judged_in d r ≡ Some (q, x) → (r ≡ row) ⊎ Has old r → Has (judgements_of d old) (q, x)
      by_row q x r is (inl same) = not_none (q, x) is (ap (judged_in d) same ∙ not_judged d)
      by_row q x r is (inr was) = read_in (judged_in d) old r (q, x) was is

  arrives : Arrives c volume bytes old new
  arrives = record {
    are_files = arrived;
    files = inserted pairs_total pairs_exact (c, volume) bytes (entries old) (entries new) arrived_with;
    judged = arrived_judged;
  }

-- ---- the last of entries that rise

put_last : (a n : ℕ) (x : Verdict) (es : List (ℕ × Verdict)) → map (λ e. e.0) es ≡ range_with_len a n → put nat_cmp (a + n) x es ≡ es ++ (a + n, x) ∷ []
put_last a zero x [] is = refl
put_last a (suc n) x [] is = let clash : [] ≡ a ∷ range_with_len (a + 1) n = is in absurd (cc)
put_last a zero x (e ∷ es) is = let clash : e.0 ∷ map (λ e. e.0) es ≡ [] = is in absurd (cc)
put_last a (suc n) x (e ∷ es) is =
    let lists : e.0 ∷ map (λ e. e.0) es ≡ a ∷ range_with_len (a + 1) n = is in
    let here : e.0 ≡ a = cc in
    let rest : map (λ e. e.0) es ≡ range_with_len (a + 1) n = cc in
    let less : e.0 < a + suc n = omega arith in
    let more : (a + 1) + n ≡ a + suc n = omega arith in
    let behind = put_last (a + 1) n x es rest in
    ap (λ o. by_order o ((a + suc n, x) ∷ e ∷ es) ((e.0, x) ∷ es) (e ∷ put nat_cmp (a + suc n) x es)) (greater (a + suc n) e.0 less)
    ∙ ap (λ l. e ∷ l) (subst (λ m. put nat_cmp m x es ≡ es ++ (m, x) ∷ []) more behind)

range_last : (a n : ℕ) → range_with_len a n ++ (a + n) ∷ [] ≡ range_with_len a (suc n)
range_last a zero = let e : a + 0 ≡ a = omega arith in ap (λ m. m ∷ []) e
range_last a (suc n) = let e : a + suc n ≡ (a + 1) + n = omega arith in ap (λ l. a ∷ l) (ap (λ m. range_with_len (a + 1) n ++ m ∷ []) e ∙ range_last (a + 1) n)

-- ---- a volume is judged

module _ (c state place rule : ℕ) (v : Verdict) (old new : List Row) (is_verdict : IsVerdict state place rule v) (are : AreFiles old) (first : AreFirst old c)
    (row : Row) (there : Has old row) (is_next : IsVolume c (reached_in old c + 1) row)
    (changed : IsChanged (IsVolume c (reached_in old c + 1)) (judged state (pos place) rule) old new) where
  abbrev n : ℕ
  n = reached_in old c

  abbrev change : Row → Row
  change r = judged state (pos place) rule r

  abbrev Passes : Row → Type 0
  Passes r = IsVolume c (n + 1) r

  -- where a row of the new table comes from
  abbrev From : Row → Type 0
  From r = (Has old r × ¬ Passes r) ⊎ ((s : Row) × Has old s × Passes s × (r ≡ change s))

  passing : (r : Row) → Has old r → custodian_in r ≡ c → volume_in r ≡ n + 1 → Passes r
  passing r was cust vol = let f = are.each r was in record { of_cust = whole (table.cust_of r) c f.cust cust; of_volume = whole (table.volume_of r) (n + 1) f.volume vol }

  which : (r : Row) → Has old r → Passes r ⊎ (¬ Passes r)
  which r was = by_cust (cases_eq (custodian_in r) c) (cases_eq (volume_in r) (n + 1))
    where
      by_cust : (custodian_in r ≡ c) ⊎ ((custodian_in r ≡ c) → ⊥) → (volume_in r ≡ n + 1) ⊎ ((volume_in r ≡ n + 1) → ⊥) → Passes r ⊎ (¬ Passes r)
      by_cust (inl cust) (inl vol) = inl (passing r was cust vol)
      by_cust (inl cust) (inr other) = inr (λ p. other (ap number_in p.of_volume))
      by_cust (inr other) vol = inr (λ p. other (ap number_in p.of_cust))

  judged_file : (r : Row) → IsFile r → IsFile (change r)
  judged_file r f = record {
    cust = f.cust;
    volume = f.volume;
    bytes = f.bytes;
    state = refl;
    place = refl;
    rule = refl;
    first = f.first;
    last = f.last;
    states = is_verdict.states;
    rules = is_verdict.rules;
    no_place = λ other. ap (λ m. Int (pos m)) (is_verdict.no_place other);
    no_rule = λ other. ap (λ m. Int (pos m)) (is_verdict.no_rule other);
  }

  each_from : (r : Row) → From r → IsFile r
  each_from r (inl was) = are.each r was.0
  each_from r (inr s) = subst IsFile (sym s.3) (judged_file s.0 (are.each s.0 s.1))

  once_from : (r s : Row) → From r → From s → custodian_in r ≡ custodian_in s → volume_in r ≡ volume_in s → r ≡ s
  once_from r s (inl a) (inl b) cust vol = are.once r s a.0 b.0 (cust, vol)
  once_from r s (inl a) (inr b) cust vol =
      let same = are.once r b.0 a.0 b.1 (cust ∙ ap custodian_in b.3, vol ∙ ap volume_in b.3) in
      absurd (a.1 (subst Passes (sym same) b.2))
  once_from r s (inr a) (inl b) cust vol =
      let same = are.once s a.0 b.0 a.1 (sym cust ∙ ap custodian_in a.3, sym vol ∙ ap volume_in a.3) in
      absurd (b.1 (subst Passes (sym same) a.2))
  once_from r s (inr a) (inr b) cust vol =
      let same = are.once a.0 b.0 a.1 b.1 (sym (ap custodian_in a.3) ∙ cust ∙ ap custodian_in b.3, sym (ap volume_in a.3) ∙ vol ∙ ap volume_in b.3) in
      a.3 ∙ ap change same ∙ sym b.3

  judged_files : AreFiles new
  judged_files = record { each = λ r h. each_from r (changed.only r h); once = λ r s hr hs same. once_from r s (changed.only r hr) (changed.only s hs) same.0 same.1 }

  same_files : files_in new ≡ files_in old
  same_files = alike pairs_total pairs_exact (entries new) (entries old) (single_files old are)
      (λ q x h. let r = has_mapped file_in new (q, x) h in by_row q x r.0 r.2 (changed.only r.0 r.1))
      (λ q x h. let r = has_mapped file_in old (q, x) h in by_test q x r.0 r.1 r.2 (which r.0 r.1))
    where
      by_row : (q : ℕ × ℕ) (x : List ℕ) (r : Row) → (q, x) ≡ file_in r → From r → Has (entries old) (q, x)
      by_row q x r is (inl was) = subst (Has (entries old)) (sym is) (mapped_has file_in old r was.0)
      by_row q x r is (inr s) = subst (Has (entries old)) (sym (is ∙ ap file_in s.3)) (mapped_has file_in old s.0 s.1)

      by_test : (q : ℕ × ℕ) (x : List ℕ) (r : Row) → Has old r → (q, x) ≡ file_in r → Passes r ⊎ (¬ Passes r) → Has (entries new) (q, x)
      by_test q x r was is (inl passes) = subst (Has (entries new)) (sym is) (mapped_has file_in new (change r) (changed.done r was passes))
      by_test q x r was is (inr other) = subst (Has (entries new)) (sym is) (mapped_has file_in new r (changed.kept r was other))

  now_judged : (r : Row) → Passes r → judged_in c (change r) ≡ Some (n + 1, v)
  now_judged r p = said_as c (change r) (n + 1) v (record { custodian = ap number_in p.of_cust; volume = ap number_in p.of_volume; verdict = is_verdict.verdict })

  judged_with : IsWith (n + 1) v (judgements_of c old) (judgements_of c new)
  judged_with = record {
    single = single_judged new judged_files c;
    there = read_in (judged_in c) new (change row) (n + 1, v) (changed.done row there is_next) (now_judged row is_next);
    only = λ k y h. let r = read_from (judged_in c) new (k, y) h in by_row k y r.0 r.2 (changed.only r.0 r.1);
    kept = λ k y h other.
        let r = read_from (judged_in c) old (k, y) h in
        let said = said_by c r.0 k y r.2 in
        read_in (judged_in c) new r.0 (k, y) (changed.kept r.0 r.1 (λ p. other (sym said.volume ∙ ap number_in p.of_volume))) r.2;
  }
    where
      by_row : (k : ℕ) (y : Verdict) (r : Row) → judged_in c r ≡ Some (k, y) → From r → (k ≡ n + 1) ⊎ Has (judgements_of c old) (k, y)
      by_row k y r is (inl was) = inr (read_in (judged_in c) old r (k, y) was.0 is)
      by_row k y r is (inr s) = inl (ap (λ p. p.0) (some_same (k, y) (n + 1, v) is (ap (judged_in c) s.3 ∙ now_judged s.0 s.2)))

  other_judged : (d : ℕ) → d ≢ c → judged_volumes new d ≡ judged_volumes old d
  other_judged d other = alike nat_cmp_total exact_unsigned (judgements_of d new) (judgements_of d old) (single_judged old are d)
      (λ k y h. let r = read_from (judged_in d) new (k, y) h in by_row k y r.0 r.2 (changed.only r.0 r.1))
      (λ k y h.
      let r = read_from (judged_in d) old (k, y) h in
      let said = said_by d r.0 k y r.2 in
      read_in (judged_in d) new r.0 (k, y) (changed.kept r.0 r.1 (λ p. other (sym said.custodian ∙ ap number_in p.of_cust))) r.2)
    where
      by_row : (k : ℕ) (y : Verdict) (r : Row) → judged_in d r ≡ Some (k, y) → From r → Has (judgements_of d old) (k, y)
      by_row k y r is (inl was) = read_in (judged_in d) old r (k, y) was.0 is
      by_row k y r is (inr s) = absurd (other (sym (said_by d r k y is).custodian ∙ ap custodian_in s.3 ∙ ap number_in s.2.of_cust))

  -- the volume comes behind those that are judged
  count_is : n ≡ length (finite.keys (judged_volumes old c))
  count_is = length-map (finite.entries (judged_volumes old c)) (λ e. e.1) ∙ sym (length-map (finite.entries (judged_volumes old c)) (λ e. e.0))

  entries_now : finite.entries (judged_volumes new c) ≡ finite.entries (judged_volumes old c) ++ (n + 1, v) ∷ []
  entries_now =
      let next : n + 1 ≡ 1 + n = omega arith in
      ap finite.entries (inserted nat_cmp_total exact_unsigned (n + 1) v (judgements_of c old) (judgements_of c new) judged_with)
      ∙ finite.entries-insert nat_cmp_total (judged_volumes old c) (n + 1) v
      ∙ subst (λ m. put nat_cmp m v (finite.entries (judged_volumes old c)) ≡ finite.entries (judged_volumes old c) ++ (m, v) ∷ []) (sym next) (put_last 1 n v (finite.entries (judged_volumes old c)) first)

  verdicts_now : verdicts_in new c ≡ verdicts_in old c ++ v ∷ []
  verdicts_now = ap (map (λ e. e.1)) entries_now ∙ map-append (λ (e : ℕ × Verdict). e.1) (finite.entries (judged_volumes old c)) ((n + 1, v) ∷ [])

  first_now : AreFirst new c
  first_now =
      let next : n + 1 ≡ 1 + n = omega arith in
      let count : length (verdicts_in old c ++ v ∷ []) ≡ suc n = length-append (verdicts_in old c) (v ∷ []) ∙ (let one : n + 1 ≡ suc n = omega arith in one) in
      ap (map (λ e. e.0)) entries_now
      ∙ map-append (λ (e : ℕ × Verdict). e.0) (finite.entries (judged_volumes old c)) ((n + 1, v) ∷ [])
      ∙ (λ i. first i ++ next i ∷ [])
      ∙ range_last 1 n
      ∙ ap (range_with_len 1) (sym (ap length verdicts_now ∙ count))

  judges : IsJudged c (n + 1) v old new
  judges = record { are_files = judged_files; files = same_files; first = first_now; verdicts = verdicts_now; others = other_judged }

pub files_change : FilesChange
files_change = record { insert = arrives; update = λ c state place rule v old new is are first row there next changed. judges c state place rule v old new is are first row there next changed }
