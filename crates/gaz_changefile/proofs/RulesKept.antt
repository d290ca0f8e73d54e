-- A file that was written breaks no rule.
use Rattle.std.proofs.Common.{◌≡◌, ◌≢◌, ℕ, ◌+◌, ◌<◌, ◌≤◌, true, false, List, [], ◌∷◌, ◌++◌, length, get_or, map, refl, arith, Option, Some, None, Ok, ap, ◌∙◌, sym, count_by, length-append, append_assoc}
use Rattle.std.specs.Prelude.{◌==◌, not, nat_le, nat_lt, decimal}
use Rattle.std.specs.List.{All, filter_map, last_or, list_any, range_with_len}
use Rattle.std.specs.List.Sorted.{IsStrictlyIncreasing}
use Rattle.std.specs.Option.{option_and_then}
use Rattle.std.proofs.Math.Seq.{get_or-append_seam}
use Rattle.std.proofs.lemmas.Bool.Decides.{nat_tests}
use Rattle.std.proofs.lemmas.List.{append-nil, get_or_append_left, map-append}
use Rattle.csv.specs.Records.{field_at}
use Rattle.gaz_ids.specs.Limits.{last_volume}
use Rattle.gaz_ids.specs.Numbers.{read_id}
use Rattle.gaz_rows.specs.Rows.{Fields}
use Rattle.gaz_fields.specs.Days.{CivilDay, is_day}
use Rattle.gaz_fields.proofs.DatesBack.{date-back}
use Rattle.gaz_records.specs.Items.{is_entry, is_item, item_texts, kind_of, read_item}
use Rattle.gaz_records.specs.declared.item.Item.{Item}
use Rattle.gaz_records.specs.declared.item.Kind.{Kind}
use Rattle.gaz_records.proofs.ItemsBack.{fields-back}
use Rattle.gaz_records.specs.Kinds.{identifier}
use Rattle.gaz_changefile.specs.Allowed.{AreAllowed, may_name, named_in}
use Rattle.gaz_changefile.specs.Contents.{Contents}
use Rattle.gaz_changefile.specs.Files.{AreBases, ArePlaced, IsBasis, IsTyped}
use Rattle.gaz_changefile.specs.Lines.{is_basis, is_change, is_known_profile, is_trailer, line_of, profile_named}
use Rattle.gaz_changefile.specs.Reading.{fault_at, faults}
use Rattle.gaz_changefile.specs.Rules.{Before, basis_rules, before_of, change_rules, custodian_at, first_broken, header_rules, is_above, is_next_basis, later_rules, line_rules, rules_at, trailer_rules}
use Rattle.gaz_changefile.specs.Writing.{action_text, basis_row, change_row, change_rows, file_rows, header_row, profile_for, trailer_row}
use Rattle.gaz_changefile.specs.declared.action.Action.{Action}
use Rattle.gaz_changefile.specs.declared.change.Basis.{Basis}
use Rattle.gaz_changefile.specs.declared.change.Change.{Change}
use Rattle.gaz_changefile.specs.declared.line.Line.{Line}
use Rattle.gaz_changefile.specs.declared.line.Line.TheVariants as line
use Rattle.gaz_changefile.proofs.Orderly.{last_at}
use Rattle.gaz_changefile.proofs.Runs.{any_push, count_push, last_push, no_fault, not_here, rules_end, rules_next}
use Rattle.gaz_changefile.proofs.RecordsBack.{IsFit, action_back, all_have, basis_line, basis_said, basis_told, change_line, code_back, count_back, for_from, for_known, for_to, head_all, header_other, order_back, profile_back, same, tail_all, trailer_line, volume_back}

-- ---- each record keeps its rules

line_kept : (c : ℕ) (p : Before) (row : Fields) (l : Line) → line_of p.profile row ≡ l → p.ended ≡ false → first_broken (line_rules c p row l) ≡ None
    → first_broken (later_rules c p (Some row)) ≡ None
unfolding later_rules
line_kept c p row l e fresh h = rw (fresh, e) h

header_kept : (pr c v : ℕ) (d : CivilDay) → 1 ≤ pr → pr ≤ 2 → is_known_profile pr ≡ true → 1 ≤ c → c ≤ 9999 → 1 ≤ v → v ≤ last_volume → is_day d ≡ true
    → first_broken (header_rules c v (header_row pr c v d)) ≡ None
unfolding header_rules read_id field_at
header_kept pr c v d p1 p2 known a b e f h = rw (profile_back pr p1 p2, known, code_back c a b, volume_back v e f, date-back d h, same c, same v) refl

next_is : (c : ℕ) (p : Before) (b : Basis) → b.custodian ≢ c → is_above p.last b.custodian ≡ true → p.bases < 16 → p.changes ≡ 0 → is_next_basis c p (Some b) ≡ true
next_is c p b other above room none =
    let a : (b.custodian == c) ≡ false = grind (arith, nat_tests, other) in
    let r : nat_lt p.bases 16 ≡ true = grind (arith, nat_tests, room) in
    rw (a, above, r, none) refl

basis_kept : (c : ℕ) (p : Before) (b : Basis) → IsBasis b → is_next_basis c p (Some b) ≡ true → first_broken (basis_rules c p (basis_row b)) ≡ None
unfolding basis_rules
basis_kept c p b h next = rw (basis_said b h, next) refl

change_kept : (c n : ℕ) (k : Kind) (id : List ℕ) (a : Action) (texts : Fields) (x : Item) → n < 5000 → read_item k texts ≡ Ok x → may_name c a (named_in x) ≡ true
    → first_broken (change_rules c n k (id ∷ action_text a ∷ decimal (n + 1) ∷ texts)) ≡ None
unfolding change_rules field_at
change_kept c n k id a texts x room h named =
    let r : nat_le 5000 n ≡ false = grind (arith, nat_tests, room) in
    rw (r, action_back a, h, named, order_back (n + 1) (omega arith) (omega arith), same (n + 1)) refl

trailer_kept : (n : ℕ) → n ≤ 5000 → first_broken (trailer_rules n (trailer_row n)) ≡ None
unfolding trailer_rules field_at
trailer_kept n h = rw (count_back n h, same n) refl

-- ---- one record after the other

-- the records behind these keep their rules
abbrev Runs : ℕ → ℕ → List Fields → List Fields → Type 0
Runs pr c before [] = first_broken (later_rules c (before_of pr before) None) ≡ None
Runs pr c before (row ∷ left) = (first_broken (later_rules c (before_of pr before) (Some row)) ≡ None) × Runs pr c (before ++ (row ∷ [])) left

no_faults : (pr c v : ℕ) (rows before left : List Fields) → profile_named rows ≡ pr → rows ≡ before ++ left → 1 ≤ length before → Runs pr c before left
    → filter_map (fault_at c v rows) (range_with_len (length before) (length left + 1)) ≡ []
no_faults pr c v rows before [] named e some runs =
    let whole : rows ≡ before = e ∙ append-nil before in
    let at : rules_at c v rows (length before) ≡ later_rules c (before_of pr before) None = ap (λ (r : List Fields). rules_at c v r (length before)) whole ∙ rules_end c v pr before some (rw whole at named) in
    not_here (fault_at c v rows) (length before) 0 (no_fault c v rows (length before) _ at runs)
no_faults pr c v rows before (row ∷ left) named e some runs =
    let at : rules_at c v rows (length before) ≡ later_rules c (before_of pr before) (Some row) = ap (λ (r : List Fields). rules_at c v r (length before)) e ∙ rules_next c v pr before row left some (rw e at named) in
    let len : length (before ++ (row ∷ [])) ≡ length before + 1 = length-append before (row ∷ []) in
    let n : length (row ∷ left) + 1 ≡ (length left + 1) + 1 = omega arith in
    let more = no_faults pr c v rows (before ++ (row ∷ [])) left named (e ∙ sym (append_assoc before (row ∷ []) left)) (rw len (omega arith)) runs.1 in
    rw n (not_here (fault_at c v rows) (length before) (length left + 1) (no_fault c v rows (length before) _ at runs.0) ∙ rw len at more)

-- what stands before the next basis line
record Stands (pr : ℕ) (before : List Fields) (bases : ℕ) (last : Option ℕ) : Type 0 where
  bases_are : count_by (is_basis pr) before ≡ bases
  changes_are : count_by (is_change pr) before ≡ 0
  last_is : option_and_then (custodian_at pr) (last_or None before) ≡ last
  fresh : list_any (is_trailer pr) before ≡ false

abbrev codes_of : List Basis → List ℕ
codes_of bs = map (λ b. b.custodian) bs

above_seam : (xs : List ℕ) (y : ℕ) (ys : List ℕ) → IsStrictlyIncreasing (xs ++ (y ∷ ys)) → is_above (last_or None xs) y ≡ true
above_seam [] y ys h = refl
above_seam (x ∷ xs) y ys h =
    let n = length-append (x ∷ xs) (y ∷ ys) in
    let e : length xs + 1 ≡ length (x ∷ xs) = omega arith in
    let before = get_or_append_left (x ∷ xs) (y ∷ ys) 0 (length xs) (omega arith) in
    let after : get_or ((x ∷ xs) ++ (y ∷ ys)) (length xs + 1) 0 ≡ y = rw e (get_or-append_seam (x ∷ xs) y ys 0) in
    let below : get_or (x ∷ xs) (length xs) 0 < y = rw (before, after) at (h (length xs) (omega (arith, n))) in
    rw (last_at (x ∷ xs) (length xs) e) (grind (arith, nat_tests, below))

basis_run : (pr c : ℕ) (before : List Fields) (done : List Basis) (b : Basis) (bs : List Basis) → Stands pr before (length done) (last_or None (codes_of done))
    → AreBases c (done ++ (b ∷ bs)) → IsBasis b → first_broken (later_rules c (before_of pr before) (Some (basis_row b))) ≡ None
basis_run pr c before done b bs s h t =
    let n = length-append done (b ∷ bs) in
    let other : b.custodian ≢ c = rw (get_or-append_seam done b bs b) at (h.others (length done) b (omega (arith, n))) in
    let rises = rw (map-append (λ (b : Basis). b.custodian) done (b ∷ bs)) at h.rise in
    let above : is_above (option_and_then (custodian_at pr) (last_or None before)) b.custodian ≡ true = rw s.last_is (above_seam (codes_of done) b.custodian (codes_of bs) rises) in
    let room : count_by (is_basis pr) before < 16 = let few = h.few in rw s.bases_are (omega (arith, n)) in
    line_kept c (before_of pr before) (basis_row b) line.Basis (basis_line pr b) s.fresh (basis_kept c (before_of pr before) b t (next_is c (before_of pr before) b other above room s.changes_are))

basis_stands : (pr : ℕ) (before : List Fields) (done : List Basis) (b : Basis) (last : Option ℕ) → Stands pr before (length done) last → IsBasis b
    → Stands pr (before ++ (basis_row b ∷ [])) (length (done ++ (b ∷ []))) (last_or None (codes_of (done ++ (b ∷ []))))
basis_stands pr before done b last s t = record {
  bases_are = count_push (is_basis pr) before (basis_row b) ∙ rw (basis_line pr b, length-append done (b ∷ [])) (omega (arith, s.bases_are));
  changes_are = count_push (is_change pr) before (basis_row b) ∙ rw (basis_line pr b) (omega (arith, s.changes_are));
  last_is = rw (last_push None before (basis_row b), basis_told pr b t, map-append (λ (b : Basis). b.custodian) done (b ∷ [])) (sym (last_push None (codes_of done) b.custodian));
  fresh = any_push (is_trailer pr) before (basis_row b) s.fresh ∙ rw (basis_line pr b) refl;
}

bases_run : (pr c : ℕ) (before : List Fields) (done bs : List Basis) (left : List Fields) → Stands pr before (length done) (last_or None (codes_of done)) → AreBases c (done ++ bs)
    → All IsBasis bs → ((after : List Fields) → count_by (is_change pr) after ≡ 0 → list_any (is_trailer pr) after ≡ false → Runs pr c after left) → Runs pr c before (map basis_row bs ++ left)
bases_run pr c before done [] left s h t k = k before s.changes_are s.fresh
bases_run pr c before done (b ∷ bs) left s h t k = (
  basis_run pr c before done b bs s h (head_all IsBasis b bs t),
  bases_run pr c (before ++ (basis_row b ∷ [])) (done ++ (b ∷ [])) bs left (basis_stands pr before done b _ s (head_all IsBasis b bs t)) (rw (append_assoc done (b ∷ []) bs) h)
      (tail_all IsBasis b bs t) k,
)

changes_run : (pr c : ℕ) (before : List Fields) (n : ℕ) (xs : List Change) (left : List Fields) → count_by (is_change pr) before ≡ n → list_any (is_trailer pr) before ≡ false
    → n + length xs ≤ 5000 → All (λ x. is_item x.item ≡ true) xs → All (IsFit pr c) xs
    → ((after : List Fields) → count_by (is_change pr) after ≡ n + length xs → list_any (is_trailer pr) after ≡ false → Runs pr c after left) → Runs pr c before (change_rows (n + 1) xs ++ left)
changes_run pr c before n [] left s fresh few t fits k = k before (s ∙ omega arith) fresh
changes_run pr c before n (x ∷ xs) left s fresh few t fits k =
    let row = change_row (n + 1, x) in
    let fit = head_all (IsFit pr c) x xs fits in
    let is = change_line pr (n + 1) x fit.0 in
    let kept : first_broken (change_rules c (count_by (is_change pr) before) (kind_of x.item) row) ≡ None = rw s (change_kept c n (kind_of x.item) (identifier (kind_of x.item)) x.action (item_texts x.item) x.item (omega arith) (fields-back x.item (head_all (λ x. is_item x.item ≡ true) x xs t)) fit.1) in
    let count : count_by (is_change pr) (before ++ (row ∷ [])) ≡ n + 1 = count_push (is_change pr) before row ∙ rw is (omega (arith, s)) in (
      line_kept c (before_of pr before) row (line.Change (kind_of x.item)) is fresh kept,
      changes_run pr c (before ++ (row ∷ [])) (n + 1) xs left count (any_push (is_trailer pr) before row fresh ∙ rw is refl) (omega (arith, few))
          (tail_all (λ x. is_item x.item ≡ true) x xs t) (tail_all (IsFit pr c) x xs fits) (λ after q. k after (q ∙ omega arith)),
    )

trailer_run : (pr c : ℕ) (before : List Fields) (n : ℕ) → count_by (is_change pr) before ≡ n → list_any (is_trailer pr) before ≡ false → n ≤ 5000 → Runs pr c before (trailer_row n ∷ [])
unfolding later_rules
trailer_run pr c before n s fresh few =
    let ended : list_any (is_trailer pr) (before ++ (trailer_row n ∷ [])) ≡ true = any_push (is_trailer pr) before (trailer_row n) fresh ∙ rw (trailer_line pr n) refl in
    (line_kept c (before_of pr before) (trailer_row n) line.Trailer (trailer_line pr n) fresh (rw s (trailer_kept n few)), rw ended refl)

header_stands : (pr c v : ℕ) (d : CivilDay) → Stands pr (header_row pr c v d ∷ []) 0 None
header_stands pr c v d = record {
  bases_are = rw (header_other pr c v d) refl;
  changes_are = rw (header_other pr c v d) refl;
  last_is = rw (header_other pr c v d) refl;
  fresh = rw (header_other pr c v d) refl;
}

file_runs : (pr c v : ℕ) (f : Contents) → IsTyped f → AreBases c f.bases → ArePlaced f.bases f.changes → All (IsFit pr c) f.changes
    → Runs pr c (header_row pr c v f.date ∷ []) (map basis_row f.bases ++ (change_rows 1 f.changes ++ (trailer_row (length f.changes) ∷ [])))
file_runs pr c v f t b p fits =
    let trailer = trailer_row (length f.changes) ∷ [] in
    bases_run pr c (header_row pr c v f.date ∷ []) [] f.bases (change_rows 1 f.changes ++ trailer) (header_stands pr c v f.date) b t.bases (λ before none fresh.
    changes_run pr c before 0 f.changes trailer none fresh (omega (arith, p.few)) t.items fits (λ after count still.
    trailer_run pr c after (length f.changes) (count ∙ omega arith) still p.few))

pub header_names : (pr c v : ℕ) (d : CivilDay) (rest : List Fields) → 1 ≤ pr → pr ≤ 2 → profile_named (header_row pr c v d ∷ rest) ≡ pr
unfolding field_at
header_names pr c v d rest p1 p2 = rw (profile_back pr p1 p2) refl

pub file_faults : (c v : ℕ) (f : Contents) → 1 ≤ c → c ≤ 9999 → 1 ≤ v → v ≤ last_volume → IsTyped f → AreBases c f.bases → ArePlaced f.bases f.changes → AreAllowed c f.changes
    → faults c v (file_rows c v f) ≡ []
unfolding rules_at
file_faults c v f c1 c2 v1 v2 t b p allowed =
    let any = list_any (λ x. not (is_entry x.item)) f.changes in
    let pr = profile_for f.changes in
    let header = header_row pr c v f.date in
    let rest = map basis_row f.bases ++ (change_rows 1 f.changes ++ (trailer_row (length f.changes) ∷ [])) in
    let first : fault_at c v (header ∷ rest) 0 ≡ None = no_fault c v (header ∷ rest) 0 (header_rules c v header) refl (header_kept pr c v f.date (for_from any) (for_to any) (for_known any) c1 c2 v1 v2 t.date) in
    let n : length (header ∷ rest) ≡ length rest + 1 = omega arith in
    rw n (not_here (fault_at c v (header ∷ rest)) 0 (length rest + 1) first ∙ no_faults pr c v (header ∷ rest) (header ∷ []) rest (header_names pr c v f.date rest (for_from any) (for_to any)) refl (omega arith) (file_runs pr c v f t b p (all_have c any f.changes refl allowed)))
