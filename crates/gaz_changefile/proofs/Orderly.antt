-- A good file is orderly: its bases rise, and its changes are placed by their records.
use Rattle.std.proofs.Common.{◌≡◌, ◌≢◌, ◌⊎◌, ℕ, zero, suc, ◌+◌, ◌<◌, ◌≤◌, Bool, true, false, cond, List, [], ◌∷◌, ◌++◌, length, map, refl, arith, Option, Some, None, Result, Ok, Err, ap, ◌∙◌, sym, inl, inr, count_by, drop, length-append, append_assoc}
use Rattle.std.specs.Prelude.{◌==◌, ◌&&◌, not, nat_le, nat_lt, slice_index, codes}
use Rattle.std.specs.List.{All, last_or, list_any, range_with_len}
use Rattle.std.specs.List.Sorted.{IsStrictlyIncreasing}
use Rattle.std.specs.Option.{option_and_then, option_map, option_to_list}
use Rattle.std.proofs.Math.Seq.{get_or-append_seam}
use Rattle.std.proofs.lemmas.Bool.Decides.{nat_tests}
use Rattle.std.proofs.lemmas.List.{append-nil, get_or_append_left, map-append}
use Rattle.std.proofs.lemmas.List.Elements.{All-append}
use Rattle.std.proofs.lemmas.Slice.Eq.{bytes_eq-Decides}
use Rattle.gaz_ids.specs.Numbers.{read_code, read_volume}
use Rattle.gaz_rows.specs.Rows.{Fields, rows_of}
use Rattle.gaz_fields.specs.declared.fields.FieldFault.{FieldFault}
use Rattle.gaz_fields.proofs.Both.{and-left}
use Rattle.gaz_records.specs.Items.{read_item}
use Rattle.gaz_records.specs.declared.item.Item.{Item}
use Rattle.gaz_records.specs.declared.item.Kind.{Kind}
use Rattle.gaz_changefile.specs.Allowed.{AreAllowed, is_allowed}
use Rattle.gaz_changefile.specs.Contents.{Contents, bases_in, basis_in, basis_of, change_from, change_of, changes_in, contents_of}
use Rattle.gaz_changefile.specs.Files.{AreBases, ArePlaced}
use Rattle.gaz_changefile.specs.Laws.{AreKept, BasesRise, ChangesAreAllowed, ChangesArePlaced, IsGood}
use Rattle.gaz_changefile.specs.Lines.{action_of, field, is_basis, is_basis_line, is_change, is_change_line, is_trailer, is_trailer_line, is_value, line_of, profile_named, read_order}
use Rattle.gaz_changefile.specs.Reading.{Good, reading}
use Rattle.gaz_changefile.specs.Rules.{basis_rules, before_of, change_rules, custodian_at, first_broken, header_rules, is_above, is_allowed_if_read, is_header, is_miscounted, is_next_basis, later_rules, line_rules, rules_at}
use Rattle.gaz_changefile.specs.declared.action.Action.{Action}
use Rattle.gaz_changefile.specs.declared.change.Basis.{Basis}
use Rattle.gaz_changefile.specs.declared.change.Change.{Change}
use Rattle.gaz_changefile.specs.declared.line.Line.{Line}
use Rattle.gaz_changefile.specs.declared.line.Line.TheVariants as line
use Rattle.gaz_changefile.proofs.Least.{least-fault}
use Rattle.gaz_changefile.proofs.Runs.{any_push, bases_push, changes_push, count_push, last_push, rules_next}

-- rules that are kept
not_broken : (rules : List (ℕ × Bool)) → AreKept rules → first_broken rules ≡ None
not_broken [] h = refl
not_broken ((n, b) ∷ rules) h = rw h.0 (not_broken rules h.1)

kept_first : (n : ℕ) (b : Bool) (rules : List (ℕ × Bool)) → first_broken ((n, b) ∷ rules) ≡ None → (b ≡ false) × (first_broken rules ≡ None)
kept_first n true rules h = cc h
kept_first n false rules h = (refl, h)

four_kept : (k l m n : ℕ) (a b c d : Bool) → first_broken ((k, a) ∷ (l, b) ∷ (m, c) ∷ (n, d) ∷ []) ≡ None → (a ≡ false) × (b ≡ false) × (c ≡ false) × (d ≡ false)
four_kept k l m n a b c d h =
    let first = kept_first k a ((l, b) ∷ (m, c) ∷ (n, d) ∷ []) h in
    let second = kept_first l b ((m, c) ∷ (n, d) ∷ []) first.1 in
    let third = kept_first m c ((n, d) ∷ []) second.1 in
    (first.0, second.0, third.0, (kept_first n d [] third.1).0)

all_four : (a b c d : Bool) → (a && b && c && d) ≡ true → (a ≡ true) × (b ≡ true) × (c ≡ true) × (d ≡ true)
all_four true true true true h = (refl, refl, refl, refl)
all_four true true true false h = cc h
all_four true true false d h = cc h
all_four true false c d h = cc h
all_four false b c d h = cc h

pub not_false : (b : Bool) → not b ≡ false → b ≡ true
not_false true h = refl
not_false false h = cc h

-- a number at the end that is above the last
pub last_at : (xs : List ℕ) (k : ℕ) → k + 1 ≡ length xs → last_or None xs ≡ Some (slice_index xs k)
last_at [] k h = absurd (omega arith)
last_at (x ∷ []) zero h = refl
last_at (x ∷ []) (suc k) h = absurd (omega arith)
last_at (x ∷ y ∷ ys) zero h = absurd (omega arith)
last_at (x ∷ y ∷ ys) (suc k) h = last_at (y ∷ ys) k (omega arith)

above_last : (xs : List ℕ) (y k : ℕ) → k + 1 ≡ length xs → is_above (last_or None xs) y ≡ true → slice_index xs k < y
above_last xs y k e h = let a = rw (last_at xs k e) at h in grind (arith, nat_tests, a)

rises_on : (xs : List ℕ) (y : ℕ) → IsStrictlyIncreasing xs → is_above (last_or None xs) y ≡ true → IsStrictlyIncreasing (xs ++ (y ∷ []))
rises_on xs y h above k l =
    let len = length-append xs (y ∷ []) in
    elim (at_end (k + 1) (length xs) (omega (arith, len))) [
      | inl before ↦ rw (get_or_append_left xs (y ∷ []) 0 k (omega arith), get_or_append_left xs (y ∷ []) 0 (k + 1) before) (h k before)
      | inr end ↦ rw (get_or_append_left xs (y ∷ []) 0 k (omega arith), end, get_or-append_seam xs y [] 0) (above_last xs y k end above)
    ]
  where
    at_end : (m n : ℕ) → m ≤ n → (m < n) ⊎ (m ≡ n)
    at_end zero zero h = inr refl
    at_end zero (suc n) h = inl (omega arith)
    at_end (suc m) zero h = absurd (omega arith)
    at_end (suc m) (suc n) h = elim (at_end m n (omega arith)) [
      | inl l ↦ inl (omega arith)
      | inr e ↦ inr (ap suc e)
    ]

one_all : {X : Type 0} (P : X → Type 0) (x : X) → P x → All P (x ∷ [])
one_all P x p zero d h = p
one_all P x p (suc k) d h = absurd (omega arith)

one_basis_more : (c : ℕ) (bs : List Basis) (b : Basis) → AreBases c bs → b.custodian ≢ c → is_above (last_or None (map (λ b. b.custodian) bs)) b.custodian ≡ true
    → length bs < 16 → AreBases c (bs ++ (b ∷ []))
one_basis_more c bs b h other above room = record {
  few = rw (length-append bs (b ∷ [])) (omega arith);
  rise = rw (map-append (λ (b : Basis). b.custodian) bs (b ∷ [])) (rises_on (map (λ b. b.custodian) bs) b.custodian h.rise above);
  others = All-append (λ b. b.custodian ≢ c) bs (b ∷ []) h.others (one_all (λ b. b.custodian ≢ c) b other);
}

range_push : (a n : ℕ) → range_with_len a (n + 1) ≡ range_with_len a n ++ ((a + n) ∷ [])
range_push a zero = let e : a + 0 ≡ a = omega arith in rw e refl
range_push a (suc n) = let e : a + suc n ≡ (a + 1) + n = omega arith in let s : suc n + 1 ≡ suc (n + 1) = omega arith in rw (s, e, range_push (a + 1) n) refl

one_change_more : (bs : List Basis) (xs : List Change) (x : Change) → ArePlaced bs xs → x.place ≡ (length bs + 2) + length xs → length xs < 5000
    → ArePlaced bs (xs ++ (x ∷ []))
one_change_more bs xs x h e room =
    let n = length-append xs (x ∷ []) in record {
      few = rw n (omega arith);
      places = rw (map-append (λ (x : Change). x.place) xs (x ∷ []), n, h.places, e) (sym (range_push (length bs + 2) (length xs)));
    }

-- the records so far are orderly
record Built (c p : ℕ) (before : List Fields) : Type 0 where
  base_count : length (bases_in p before) ≡ count_by (is_basis p) before
  count : length (changes_in p before) ≡ count_by (is_change p) before
  bases : AreBases c (bases_in p before)
  changes : ArePlaced (bases_in p before) (changes_in p before)
  allowed : AreAllowed c (changes_in p before)
  len : list_any (is_trailer p) before ≡ false → length before ≡ 1 + length (bases_in p before) + length (changes_in p before)
  last : list_any (is_trailer p) before ≡ false → changes_in p before ≡ [] → option_and_then (custodian_at p) (last_or None before) ≡ last_or None (map (λ b. b.custodian) (bases_in p before))

-- one record more
build : (c p : ℕ) (before : List Fields) (row : Fields) (l : Line) (ob : Option Basis) (oc : Option Change) → line_of p row ≡ l → basis_of row l ≡ ob
    → change_of (length before + 1) row l ≡ oc → Built c p before → list_any (is_trailer p) before ≡ false
    → length (option_to_list ob) ≡ cond (is_basis_line l) 1 0 → length (option_to_list oc) ≡ cond (is_change_line l) 1 0
    → AreBases c (bases_in p before ++ option_to_list ob) → ArePlaced (bases_in p before ++ option_to_list ob) (changes_in p before ++ option_to_list oc)
    → AreAllowed c (option_to_list oc) → (is_trailer_line l ≡ false → length (option_to_list ob) + length (option_to_list oc) ≡ 1)
    → (is_trailer_line l ≡ false → changes_in p before ++ option_to_list oc ≡ [] → option_map (λ b. b.custodian) ob ≡ last_or None (map (λ b. b.custodian) (bases_in p before ++ option_to_list ob)))
    → Built c p (before ++ (row ∷ []))
build c p before row l ob oc e b x k fresh one_b one_x bases placed allowed one last =
    let eb : bases_in p (before ++ (row ∷ [])) ≡ bases_in p before ++ option_to_list ob = bases_push p before row ∙ ap (λ (o : Option Basis). bases_in p before ++ option_to_list o) (ap (basis_of row) e ∙ b) in
    let ex : changes_in p (before ++ (row ∷ [])) ≡ changes_in p before ++ option_to_list oc =
    changes_push p before row (length before + 1) refl ∙ ap (λ (o : Option Change). changes_in p before ++ option_to_list o) (ap (change_of (length before + 1) row) e ∙ x) in
    let et : list_any (is_trailer p) (before ++ (row ∷ [])) ≡ is_trailer_line l = any_push (is_trailer p) before row fresh ∙ ap is_trailer_line e in
    let ec : option_and_then (custodian_at p) (last_or None (before ++ (row ∷ []))) ≡ option_map (λ b. b.custodian) ob =
    ap (option_and_then (custodian_at p)) (last_push None before row) ∙ ap (option_map (λ (b : Basis). b.custodian)) (ap (basis_of row) e ∙ b) in
    let nb = length-append (bases_in p before) (option_to_list ob) in
    let nx = length-append (changes_in p before) (option_to_list oc) in
    let cb : count_by (is_basis p) (before ++ (row ∷ [])) ≡ count_by (is_basis p) before + cond (is_basis_line l) 1 0 =
    count_push (is_basis p) before row ∙ ap (λ (l : Line). count_by (is_basis p) before + cond (is_basis_line l) 1 0) e in
    let cx : count_by (is_change p) (before ++ (row ∷ [])) ≡ count_by (is_change p) before + cond (is_change_line l) 1 0 =
    count_push (is_change p) before row ∙ ap (λ (l : Line). count_by (is_change p) before + cond (is_change_line l) 1 0) e in
    record {
      base_count = ap length eb ∙ nb ∙ omega (arith, k.base_count, one_b, cb);
      count = ap length ex ∙ nx ∙ omega (arith, k.count, one_x, cx);
      bases = rw eb bases;
      changes = rw (eb, ex) placed;
      allowed = rw ex (All-append (λ x. is_allowed c x ≡ true) (changes_in p before) (option_to_list oc) k.allowed allowed);
      len = λ t. rw (eb, ex, nb, nx, length-append before (row ∷ [])) (omega (arith, k.len fresh, one (sym et ∙ t)));
      last = λ t none. ec ∙ rw eb (last (sym et ∙ t) (sym ex ∙ none));
    }

no_changes : (xs : List Change) → length xs ≡ 0 → xs ≡ []
no_changes [] h = refl
no_changes (x ∷ xs) h = absurd (omega arith)

not_empty : (xs : List Change) (x : Change) → xs ++ (x ∷ []) ≡ [] → ⊥
not_empty xs x e = let n = length-append xs (x ∷ []) in let z : length (xs ++ (x ∷ [])) ≡ 0 = ap length e in omega (arith, n, z)

other_code : (a b : ℕ) → not (a == b) ≡ true → a ≢ b
other_code a b h e = let s : (a == b) ≡ true = grind (arith, nat_tests, e) in cc (rw s at h)

none_allowed : (c : ℕ) → AreAllowed c []
none_allowed c k d l = absurd (omega arith)

-- a basis line that keeps its rule
basis_more : (c p : ℕ) (before : List Fields) (row : Fields) (o : Option Basis) → line_of p row ≡ line.Basis → basis_in row ≡ o → Built c p before
    → list_any (is_trailer p) before ≡ false → is_next_basis c (before_of p before) o ≡ true → Built c p (before ++ (row ∷ []))
basis_more c p before row None e b k fresh h = cc h
basis_more c p before row (Some b) e is k fresh h =
    let last = option_and_then (custodian_at p) (last_or None before) in
    let all = all_four (not (b.custodian == c)) (is_above last b.custodian) (nat_lt (count_by (is_basis p) before) 16) (count_by (is_change p) before == 0) h in
    let no_change : count_by (is_change p) before ≡ 0 = let q = all.3 in grind (arith, nat_tests, q) in
    let room : count_by (is_basis p) before < 16 = let q = all.2 in grind (arith, nat_tests, q) in
    let none : changes_in p before ≡ [] = no_changes (changes_in p before) (k.count ∙ no_change) in
    let above : is_above (last_or None (map (λ b. b.custodian) (bases_in p before))) b.custodian ≡ true =
    ap (λ (o : Option ℕ). is_above o b.custodian) (sym (k.last fresh none)) ∙ all.1 in
    build c p before row line.Basis (Some b) None e is refl k fresh refl refl
    (one_basis_more c (bases_in p before) b k.bases (other_code b.custodian c all.0) above (omega (arith, k.base_count)))
    (rw none (record { few = omega arith; places = refl }))
    (none_allowed c)
    (λ t. refl)
    (λ t q. sym (rw (map-append (λ (b : Basis). b.custodian) (bases_in p before) (b ∷ [])) (last_push None (map (λ b. b.custodian) (bases_in p before)) b.custodian)))

-- a change record that keeps its rules
made_some : (c place : ℕ) (a : Option Action) (r : Result Item FieldFault) → is_allowed_if_read c a r ≡ true
    → (x : Change) × (change_from place a r ≡ Some x) × (x.place ≡ place) × (is_allowed c x ≡ true)
made_some c place None r h = cc h
made_some c place (Some a) (Err e) h = cc h
made_some c place (Some a) (Ok i) h = (record { place = place; action = a; item = i }, refl, refl, h)

change_more : (c p : ℕ) (before : List Fields) (row : Fields) (kind : Kind) → line_of p row ≡ line.Change kind → Built c p before → list_any (is_trailer p) before ≡ false
    → first_broken (change_rules c (count_by (is_change p) before) kind row) ≡ None → Built c p (before ++ (row ∷ []))
unfolding change_rules
change_more c p before row kind e k fresh h =
    let item = read_item kind (drop 3 row) in
    let action = action_of (field row 1) in
    let n = count_by (is_change p) before in
    let kept = four_kept 9 5 6 7 (nat_le 5000 n) (is_miscounted item) (not (is_allowed_if_read c action item)) (not (is_value (n + 1) (read_order (field row 2)))) h in
    let room : count_by (is_change p) before < 5000 = let q = kept.0 in grind (arith, nat_tests, q) in
    let x = made_some c (length before + 1) action item (not_false (is_allowed_if_read c action item) kept.2) in
    let same = append-nil (bases_in p before) in
    build c p before row (line.Change kind) None (Some x.0) e refl x.1 k fresh refl refl (rw same k.bases)
    (rw same (one_change_more (bases_in p before) (changes_in p before) x.0 k.changes (x.2 ∙ omega (arith, k.len fresh)) (omega (arith, k.count))))
    (one_all (λ x. is_allowed c x ≡ true) x.0 x.3)
    (λ t. refl)
    (λ t q. absurd (not_empty (changes_in p before) x.0 q))

by_line : (c p : ℕ) (before : List Fields) (row : Fields) (l : Line) → line_of p row ≡ l → Built c p before → list_any (is_trailer p) before ≡ false
    → first_broken (line_rules c (before_of p before) row l) ≡ None → Built c p (before ++ (row ∷ []))
unfolding basis_rules
by_line c p before row (line.Change kind) e k fresh h = change_more c p before row kind e k fresh h
by_line c p before row line.Basis e k fresh h =
    let kept = kept_first 4 (not (is_next_basis c (before_of p before) (basis_in row))) [] h in
    basis_more c p before row (basis_in row) e refl k fresh (not_false (is_next_basis c (before_of p before) (basis_in row)) kept.0)
by_line c p before row line.Trailer e k fresh h =
    let same = append-nil (bases_in p before) in
    build c p before row line.Trailer None None e refl refl k fresh refl refl (rw same k.bases) (rw (same, append-nil (changes_in p before)) k.changes)
    (none_allowed c)
    (λ t. cc t) (λ t q. cc t)
by_line c p before row line.Other e k fresh h = cc h

grow : (c p : ℕ) (before : List Fields) (row : Fields) → Built c p before → first_broken (later_rules c (before_of p before) (Some row)) ≡ None → Built c p (before ++ (row ∷ []))
unfolding later_rules
grow c p before row k h =
    let fresh = kept_first 8 (list_any (is_trailer p) before) (line_rules c (before_of p before) row (line_of p row)) h in
    by_line c p before row (line_of p row) refl k fresh.0 fresh.1

all_built : (c v p : ℕ) (rows before left : List Fields) → rows ≡ before ++ left → 1 ≤ length before → profile_named rows ≡ p → ((i : ℕ) → i ≤ length rows → AreKept (rules_at c v rows i))
    → Built c p before → Built c p rows
all_built c v p rows before [] e some named kept k = rw (e, append-nil before) k
all_built c v p rows before (row ∷ left) e some named kept k =
    let len : length rows ≡ length before + length (row ∷ left) = ap length e ∙ length-append before (row ∷ left) in
    let at = not_broken _ (kept (length before) (omega (arith, len))) in
    let next = rw (e, rules_next c v p before row left some (rw e at named)) at at in
    all_built c v p rows (before ++ (row ∷ [])) left (e ∙ sym (append_assoc before (row ∷ []) left)) (rw (length-append before (row ∷ [])) (omega arith)) named kept (grow c p before row k next)

-- a header is no line of another kind
header_line : (p : ℕ) (row : Fields) → is_header row ≡ true → line_of p row ≡ line.Other
header_line p row h =
    let e : field row 0 ≡ codes "10" = (bytes_eq-Decides (field row 0) (codes "10")).0 (and-left _ _ (and-left _ _ (and-left _ _ (and-left _ _ (and-left _ _ h))))) in
    rw e refl

header_is : (c p : ℕ) (row : Fields) → line_of p row ≡ line.Other → Built c p (row ∷ [])
header_is c p row other = record {
  base_count = rw other refl;
  count = rw other refl;
  bases = rw other (record { few = omega arith; rise = λ k l. absurd (omega arith); others = λ k d l. absurd (omega arith) });
  changes = rw other (record { few = omega arith; places = refl });
  allowed = rw other (none_allowed c);
  len = λ t. rw other refl;
  last = λ t none. rw other refl;
}

header_built : (c v p : ℕ) (row : Fields) → first_broken (header_rules c v row) ≡ None → Built c p (row ∷ [])
unfolding header_rules
header_built c v p row h =
    let address : List (ℕ × Bool) = (3, not (is_value c (read_code (field row 2)) && is_value v (read_volume (field row 3)))) ∷ [] in
    let first = kept_first 2 (not (is_header row)) address h in
    header_is c p row (header_line p row (not_false (is_header row) first.0))

rows_built : (c v : ℕ) (rows : List Fields) → ((i : ℕ) → i ≤ length rows → AreKept (rules_at c v rows i)) → Built c (profile_named rows) rows
unfolding rules_at
rows_built c v [] kept = let k = kept 0 (omega arith) in cc k.0
rows_built c v (row ∷ rows) kept =
    let p = profile_named (row ∷ rows) in
    all_built c v p (row ∷ rows) (row ∷ []) rows refl (omega arith) refl kept (header_built c v p row (not_broken _ (kept 0 (omega arith))))

pub good_built : (bytes : List ℕ) (c v : ℕ) (contents : Contents) → reading bytes c v ≡ Good contents → IsGood c v bytes contents
good_built bytes c v contents e = rw e at (least-fault bytes c v)

pub bases-rise : BasesRise
unfolding contents_of
bases-rise bytes c v contents e =
    let good = good_built bytes c v contents e in
    rw good.contents_are ((rows_built c v (rows_of bytes) good.kept).bases)

pub changes-are-placed : ChangesArePlaced
unfolding contents_of
changes-are-placed bytes c v contents e =
    let good = good_built bytes c v contents e in
    rw good.contents_are ((rows_built c v (rows_of bytes) good.kept).changes)

pub changes-are-allowed : ChangesAreAllowed
unfolding contents_of
changes-are-allowed bytes c v contents e =
    let good = good_built bytes c v contents e in
    rw good.contents_are ((rows_built c v (rows_of bytes) good.kept).allowed)
