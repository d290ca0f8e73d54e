-- How a reading goes on record by record.
use Rattle.std.proofs.Common.{◌≡◌, ℕ, suc, ◌+◌, ◌≤◌, ◌||◌, Bool, true, false, cond, List, [], ◌∷◌, ◌++◌, length, take, refl, arith, add-one, Option, Some, None, Result, Ok, Err, IfOk, OnOk, ap, ◌∙◌, sym, inl, inr, slice_get, count_by, length-append, append_assoc}
use Rattle.std.proofs.lemmas.Bool.{cases_Bool}
use Rattle.std.proofs.lemmas.List.{append-nil}
use Rattle.std.proofs.lemmas.List.Elements.{filter_map-append}
use Rattle.std.proofs.lemmas.List.Sums.{sum_by-append}
use Rattle.std.proofs.lemmas.Str.{IsUtf8-from_is_utf8, is_utf8-from_IsUtf8}
use Rattle.std.specs.List.{enumerate_from, filter_map, last_or, list_any, range_with_len}
use Rattle.std.specs.Option.{option_and_then, option_to_list}
use Rattle.std.specs.Str.{IsUtf8, is_utf8}
use Rattle.gaz_rows.specs.Rows.{Fields, rows_of}
use Rattle.gaz_changefile.specs.Contents.{Contents, bases_in, basis_at, change_at, changes_in, contents_of, date_in}
use Rattle.gaz_changefile.specs.Lines.{is_basis, is_change, is_trailer, line_of, profile_named}
use Rattle.gaz_changefile.specs.Reading.{Bad, Good, by_faults, fault_at, faults, reading}
use Rattle.gaz_changefile.specs.Rules.{before_of, custodian_at, first_broken, header_rules, later_rules, rules_at}
use Rattle.gaz_changefile.specs.Fault.{IsFault}
use Rattle.gaz_changefile.specs.Steps.{Adds, IsFirstOf, ReadsOn, before_in}
use Rattle.gaz_changefile.specs.declared.change.Basis.{Basis}
use Rattle.gaz_changefile.specs.declared.draft.FileDraft.{FileDraft}
use Rattle.gaz_changefile.specs.declared.file.FileFault.{FileFault}
use Rattle.gaz_changefile.specs.declared.file.FileFault.TheVariants as fault
use Rattle.gaz_changefile.specs.declared.line.Line.TheVariants as line

-- a list before another
take_before : {X : Type 0} (xs ys : List X) → take (length xs) (xs ++ ys) ≡ xs
take_before [] ys = refl
take_before (x ∷ xs) ys = ap (λ l. x ∷ l) (take_before xs ys)

next_is : {X : Type 0} (xs : List X) (y : X) (ys : List X) → slice_get (xs ++ (y ∷ ys)) (length xs) ≡ Some y
next_is [] y ys = refl
next_is (x ∷ xs) y ys = next_is xs y ys

none_next : {X : Type 0} (xs : List X) → slice_get xs (length xs) ≡ None
none_next [] = refl
none_next (x ∷ xs) = none_next xs

take_all : {X : Type 0} (xs : List X) → take (length xs) xs ≡ xs
take_all [] = refl
take_all (x ∷ xs) = ap (λ l. x ∷ l) (take_all xs)

-- the rules at a record behind others
pub rules_next : (c v p : ℕ) (before : List Fields) (row : Fields) (rest : List Fields) → 1 ≤ length before → profile_named (before ++ (row ∷ rest)) ≡ p
    → rules_at c v (before ++ (row ∷ rest)) (length before) ≡ later_rules c (before_of p before) (Some row)
unfolding rules_at
rules_next c v p [] row rest h e = absurd (omega arith)
rules_next c v p (b ∷ bs) row rest h e =
    let at : rules_at c v ((b ∷ bs) ++ (row ∷ rest)) (length (b ∷ bs)) ≡ later_rules c (before_of (profile_named ((b ∷ bs) ++ (row ∷ rest))) (b ∷ bs)) (Some row) =
    rw (take_before bs (row ∷ rest), next_is bs row rest) refl in
    at ∙ ap (λ (q : ℕ). later_rules c (before_of q (b ∷ bs)) (Some row)) e

pub rules_end : (c v p : ℕ) (before : List Fields) → 1 ≤ length before → profile_named before ≡ p
    → rules_at c v before (length before) ≡ later_rules c (before_of p before) None
unfolding rules_at
rules_end c v p [] h e = absurd (omega arith)
rules_end c v p (b ∷ bs) h e =
    let at : rules_at c v (b ∷ bs) (length (b ∷ bs)) ≡ later_rules c (before_of (profile_named (b ∷ bs)) (b ∷ bs)) None = rw (take_all bs, none_next bs) refl in
    at ∙ ap (λ (q : ℕ). later_rules c (before_of q (b ∷ bs)) None) e

-- what is known once the records before a place broke no rule: the faults are those of what is left
pub record Kept (c v : ℕ) (rows before left : List Fields) (place : ℕ) (draft : FileDraft) : Type 0 where
  pub split : rows ≡ before ++ left
  pub some : 1 ≤ length before
  pub place_is : place ≡ length before + 1
  pub faults_left : faults c v rows ≡ filter_map (fault_at c v rows) (range_with_len (length before) (length left + 1))
  pub own : draft.own ≡ c
  pub named : profile_named rows ≡ draft.profile
  pub date : date_in rows ≡ draft.date
  pub base_count : length draft.bases.items ≡ count_by (is_basis draft.profile) before
  pub count : length draft.changes.items ≡ count_by (is_change draft.profile) before
  pub last : draft.last ≡ option_and_then (custodian_at draft.profile) (last_or None before)
  pub ended : draft.ended ≡ list_any (is_trailer draft.profile) before
  pub bases : draft.bases.items ≡ bases_in draft.profile before
  pub changes : draft.changes.items ≡ changes_in draft.profile before
  pub few : length draft.changes.items ≤ 5000

-- what may come first in a list of faults
here : {A : Type 0} (f : ℕ → Option A) (i n : ℕ) (x : A) → f i ≡ Some x → (rest : List A) × (filter_map f (range_with_len i (n + 1)) ≡ x ∷ rest)
here f i n x e = (filter_map f (range_with_len (i + 1) n), rw (add-one, e) refl)

pub not_here : {A : Type 0} (f : ℕ → Option A) (i n : ℕ) → f i ≡ None → filter_map f (range_with_len i (n + 1)) ≡ filter_map f (range_with_len (i + 1) n)
not_here f i n e = rw (add-one, e) refl

fault_is : (c v : ℕ) (rows : List Fields) (i : ℕ) (rules : List (ℕ × Bool)) (rule : ℕ) → rules_at c v rows i ≡ rules → first_broken rules ≡ Some rule
    → fault_at c v rows i ≡ Some (record { place = i + 1; rule = rule })
fault_is c v rows i rules rule e h = rw (e, h) refl

pub no_fault : (c v : ℕ) (rows : List Fields) (i : ℕ) (rules : List (ℕ × Bool)) → rules_at c v rows i ≡ rules → first_broken rules ≡ None → fault_at c v rows i ≡ None
no_fault c v rows i rules e h = rw (e, h) refl

-- the first of the faults decides
bad_here : (c v : ℕ) (rows : List Fields) (contents : Contents) (i n rule : ℕ) (rules : List (ℕ × Bool))
    → faults c v rows ≡ filter_map (fault_at c v rows) (range_with_len i (n + 1)) → rules_at c v rows i ≡ rules → first_broken rules ≡ Some rule
    → by_faults contents (faults c v rows) ≡ Bad (i + 1) rule
bad_here c v rows contents i n rule rules all e h =
    let found = here (fault_at c v rows) i n _ (fault_is c v rows i rules rule e h) in
    ap (by_faults contents) (all ∙ found.1)

-- one record more at the end
pub last_push : {X : Type 0} (o : Option X) (xs : List X) (x : X) → last_or o (xs ++ (x ∷ [])) ≡ Some x
last_push o [] x = refl
last_push o (y ∷ ys) x = last_push (Some y) ys x

pub count_push : (p : Fields → Bool) (xs : List Fields) (x : Fields) → count_by p (xs ++ (x ∷ [])) ≡ count_by p xs + cond (p x) 1 0
count_push p xs x = sum_by-append (λ y. cond (p y) 1 0) xs (x ∷ []) ∙ omega arith

pub any_push : (p : Fields → Bool) (xs : List Fields) (x : Fields) → list_any p xs ≡ false → list_any p (xs ++ (x ∷ [])) ≡ p x
any_push p [] x e = or_false (p x)
  where
    or_false : (a : Bool) → (a || false) ≡ a
    or_false true = refl
    or_false false = refl
any_push p (y ∷ ys) x e = rw (or_none (p y) (list_any p ys) e) (any_push p ys x (or_rest (p y) (list_any p ys) e))
  where
    or_none : (a b : Bool) → (a || b) ≡ false → a ≡ false
    or_none false b h = refl
    or_none true b h = cc h

    or_rest : (a b : Bool) → (a || b) ≡ false → b ≡ false
    or_rest false b h = h
    or_rest true b h = cc h

one_listed : {A : Type 0} (o : Option A) → filter_map {X = ℕ} (λ _. o) (0 ∷ []) ≡ option_to_list o
one_listed None = refl
one_listed (Some x) = refl

cons_listed : (p place : ℕ) (row : Fields) → filter_map (change_at p) ((place, row) ∷ []) ≡ option_to_list (change_at p (place, row))
cons_listed p place row = one_listed (change_at p (place, row))

pub bases_push : (p : ℕ) (rows : List Fields) (row : Fields) → bases_in p (rows ++ (row ∷ [])) ≡ bases_in p rows ++ option_to_list (basis_at p row)
bases_push p rows row = rw (filter_map-append (basis_at p) rows (row ∷ [])) (ap (λ (l : List Basis). bases_in p rows ++ l) (one_listed (basis_at p row)))

pub enumerate_push : {X : Type 0} (n : ℕ) (xs : List X) (x : X) → enumerate_from n (xs ++ (x ∷ [])) ≡ enumerate_from n xs ++ ((n + length xs, x) ∷ [])
enumerate_push n [] x = let e : n + 0 ≡ n = omega arith in rw e refl
enumerate_push n (y ∷ ys) x = let e : n + suc (length ys) ≡ (n + 1) + length ys = omega arith in rw (e, enumerate_push (n + 1) ys x) refl

pub changes_push : (p : ℕ) (rows : List Fields) (row : Fields) (place : ℕ) → place ≡ length rows + 1
    → changes_in p (rows ++ (row ∷ [])) ≡ changes_in p rows ++ option_to_list (change_at p (place, row))
changes_push p rows row place e =
    let n : 1 + length rows ≡ place = omega arith in
    rw (enumerate_push 1 rows row, n, filter_map-append (change_at p) (enumerate_from 1 rows) ((place, row) ∷ []), cons_listed p place row) refl

-- the header broke no rule
pub kept_start : (c v : ℕ) (rows : List Fields) (row : Fields) (rest : List Fields) (draft : FileDraft) → rows ≡ row ∷ rest
    → first_broken (header_rules c v row) ≡ None → line_of draft.profile row ≡ line.Other → draft.own ≡ c → profile_named (row ∷ rest) ≡ draft.profile → date_in (row ∷ []) ≡ draft.date → draft.bases.items ≡ []
    → draft.changes.items ≡ [] → draft.last ≡ None → draft.ended ≡ false → Kept c v rows (row ∷ []) rest 2 draft
unfolding rules_at
kept_start c v rows row rest draft e fault other own named date bases changes last ended =
    let f = fault_at c v rows in
    let r : rules_at c v rows 0 ≡ header_rules c v row = rw e refl in
    let len : length rows ≡ length rest + 1 = rw e (omega arith) in
    record {
      split = e;
      some = omega arith;
      place_is = refl;
      faults_left = rw len (not_here f 0 (length rest + 1) (no_fault c v rows 0 (header_rules c v row) r fault));
      own = own;
      named = rw e named;
      date = rw e date;
      base_count = rw (bases, other) refl;
      count = rw (changes, other) refl;
      last = rw (last, other) refl;
      ended = rw (ended, other) refl;
      bases = rw (bases, other) refl;
      changes = rw (changes, other) refl;
      few = rw changes (omega arith);
    }

-- what stands before is told by the file as far as it was read
before_is : (c v : ℕ) (rows before left : List Fields) (place : ℕ) (draft : FileDraft) → Kept c v rows before left place draft → before_in draft ≡ before_of draft.profile before
before_is c v rows before left place draft k = rw (k.base_count, k.count, k.last, k.ended) refl

-- the rules of the next record, and of the end
rules_here : (c v : ℕ) (rows before : List Fields) (row : Fields) (rest : List Fields) (place : ℕ) (draft : FileDraft) → Kept c v rows before (row ∷ rest) place draft
    → rules_at c v rows (length before) ≡ later_rules draft.own (before_in draft) (Some row)
rules_here c v rows before row rest place draft k =
    rw (k.split, rules_next c v draft.profile before row rest k.some (rw k.split at k.named), k.own, before_is c v rows before (row ∷ rest) place draft k) refl

rules_over : (c v : ℕ) (rows before : List Fields) (place : ℕ) (draft : FileDraft) → Kept c v rows before [] place draft
    → rules_at c v rows (length before) ≡ later_rules draft.own (before_in draft) None
rules_over c v rows before place draft k =
    rw (k.split, append-nil before, rules_end c v draft.profile before k.some (rw (k.split, append-nil before) at k.named), k.own, before_is c v rows before [] place draft k) refl

-- one more record broke no rule
pub kept_more : (c v : ℕ) (rows before : List Fields) (row : Fields) (rest : List Fields) (place : ℕ) (old new : FileDraft)
    → Kept c v rows before (row ∷ rest) place old → Adds old new place row → Kept c v rows (before ++ (row ∷ [])) rest (place + 1) new
kept_more c v rows before row rest place old new k a =
    let f = fault_at c v rows in
    let len : length (before ++ (row ∷ [])) ≡ length before + 1 = length-append before (row ∷ []) in
    let n : length (row ∷ rest) + 1 ≡ (length rest + 1) + 1 = omega arith in
    let none = no_fault c v rows (length before) _ (rules_here c v rows before row rest place old k) a.kept in
    record {
      split = k.split ∙ sym (append_assoc before (row ∷ []) rest);
      some = omega (arith, len);
      place_is = omega (arith, len, k.place_is);
      faults_left = rw (len, ← not_here f (length before) (length rest + 1) none, ← n) k.faults_left;
      own = a.own ∙ k.own;
      named = k.named ∙ sym a.profile;
      date = k.date ∙ sym a.date;
      base_count = rw (a.base_count, k.base_count, a.profile) (sym (count_push (is_basis old.profile) before row));
      count = rw (a.count, k.count, a.profile) (sym (count_push (is_change old.profile) before row));
      last = rw (a.last, a.profile, last_push None before row) refl;
      ended = rw (a.ended, a.profile) (sym (any_push (is_trailer old.profile) before row (sym k.ended ∙ a.open_before)));
      bases = rw (a.bases, k.bases, a.profile) (sym (bases_push old.profile before row));
      changes = rw (a.changes, k.changes, a.profile) (sym (changes_push old.profile before row place k.place_is));
      few = a.few;
    }

-- the next record breaks a rule
pub bad_next : (c v : ℕ) (rows before : List Fields) (row : Fields) (rest : List Fields) (place : ℕ) (draft : FileDraft) (contents : Contents) (rule : ℕ)
    → Kept c v rows before (row ∷ rest) place draft → first_broken (later_rules draft.own (before_in draft) (Some row)) ≡ Some rule
    → by_faults contents (faults c v rows) ≡ Bad place rule
bad_next c v rows before row rest place draft contents rule k h =
    rw k.place_is (bad_here c v rows contents (length before) (length (row ∷ rest)) rule _ k.faults_left (rules_here c v rows before row rest place draft k) h)

-- the end breaks one
pub bad_end : (c v : ℕ) (rows before : List Fields) (place : ℕ) (draft : FileDraft) (contents : Contents) (rule : ℕ)
    → Kept c v rows before [] place draft → first_broken (later_rules draft.own (before_in draft) None) ≡ Some rule
    → by_faults contents (faults c v rows) ≡ Bad place rule
bad_end c v rows before place draft contents rule k h =
    rw k.place_is (bad_here c v rows contents (length before) 0 rule _ k.faults_left (rules_over c v rows before place draft k) h)

-- it breaks none
pub good_end : (c v : ℕ) (rows before : List Fields) (place : ℕ) (draft : FileDraft)
    → Kept c v rows before [] place draft → first_broken (later_rules draft.own (before_in draft) None) ≡ None
    → by_faults (contents_of rows) (faults c v rows) ≡ Good (record { date = draft.date; bases = draft.bases.items; changes = draft.changes.items })
unfolding contents_of
good_end c v rows before place draft k h =
    let none = no_fault c v rows (length before) _ (rules_over c v rows before place draft k) h in
    let all : faults c v rows ≡ [] = k.faults_left ∙ not_here (fault_at c v rows) (length before) 0 none in
    let whole : rows ≡ before = k.split ∙ append-nil before in
    rw (all, k.named, ← k.date, k.bases, k.changes, ← whole) refl

-- the header breaks a rule, or there is none
pub bad_first : (c v : ℕ) (rows : List Fields) (contents : Contents) (rule : ℕ) (rules : List (ℕ × Bool)) → rules_at c v rows 0 ≡ rules
    → first_broken rules ≡ Some rule → by_faults contents (faults c v rows) ≡ Bad 1 rule
bad_first c v rows contents rule rules e h = bad_here c v rows contents 0 (length rows) rule rules refl e h

pub bad_header : (c v : ℕ) (rows : List Fields) (row : Fields) (rest : List Fields) (contents : Contents) (rule : ℕ) → rows ≡ row ∷ rest
    → first_broken (header_rules c v row) ≡ Some rule → by_faults contents (faults c v rows) ≡ Bad 1 rule
unfolding rules_at
bad_header c v rows row rest contents rule e h = bad_first c v rows contents rule (header_rules c v row) (rw e refl) h

pub no_record : (c v : ℕ) (rows : List Fields) (contents : Contents) → rows ≡ [] → by_faults contents (faults c v rows) ≡ Bad 1 1
unfolding rules_at
no_record c v rows contents e = bad_first c v rows contents 1 ((1, true) ∷ []) (rw e refl) refl

-- bytes that are text, and bytes that aren't
pub read_text : (bytes : List ℕ) (c v : ℕ) → IsUtf8 bytes → reading bytes c v ≡ by_faults (contents_of (rows_of bytes)) (faults c v (rows_of bytes))
unfolding reading
read_text bytes c v h = rw (is_utf8-from_IsUtf8 bytes h) refl

pub no_text : (bytes : List ℕ) (c v : ℕ) → (IsUtf8 bytes → ⊥) → reading bytes c v ≡ Bad 1 1
unfolding reading
no_text bytes c v h = elim (cases_Bool (is_utf8 bytes)) [
  | inl is ↦ absurd (h (IsUtf8-from_is_utf8 bytes is))
  | inr isnt ↦ rw isnt refl
]

-- a fault that a step named is the reading's
pub told : (bytes : List ℕ) (c v place : ℕ) (rules : List (ℕ × Bool)) (f : FileFault) → IsFirstOf place rules f
    → ((rule : ℕ) → first_broken rules ≡ Some rule → reading bytes c v ≡ Bad place rule) → IsFault bytes c v f
told bytes c v place rules (fault.Bad p rule) h k = rw h.0 (k rule h.1)
told bytes c v place rules fault.Memory h k = tt

-- ---- one step

-- where no row was found none was left
pub on_end : (c v : ℕ) (rows before left : List Fields) (after : Option (List Fields)) (place : ℕ) (old new : FileDraft) (found : Bool) → found ≡ false
    → ReadsOn place left after old new (Ok found) → Kept c v rows before left place old → Kept c v rows before [] place new
on_end c v rows before [] after place old new found is h k = rw h.2 k
on_end c v rows before (row ∷ rest) after place old new found is h k = absurd (let no = sym h.0 ∙ is in cc)

-- where one was found it was read, and the others are left
pub on_row : (c v : ℕ) (rows before left : List Fields) (after : Option (List Fields)) (place : ℕ) (old new : FileDraft) (found : Bool) → found ≡ true
    → ReadsOn place left after old new (Ok found) → Kept c v rows before left place old
    → (now : List Fields) × (rest : List Fields) × Kept c v rows now rest (place + 1) new × (after ≡ Some rest)
on_row c v rows before [] after place old new found is h k = absurd (let no = sym h.0 ∙ is in cc)
on_row c v rows before (row ∷ rest) after place old new found is h k =
    (before ++ (row ∷ []), rest, kept_more c v rows before row rest place old new k h.2, h.1)

-- a fault is the reading's
pub on_fault : (bytes : List ℕ) (c v : ℕ) (before left : List Fields) (after : Option (List Fields)) (place : ℕ) (old new : FileDraft) (f : FileFault) → IsUtf8 bytes
    → ReadsOn place left after old new (Err f) → Kept c v (rows_of bytes) before left place old → IsFault bytes c v f
on_fault bytes c v before [] after place old new f text h k = rw h tt
on_fault bytes c v before (row ∷ rest) after place old new f text h k =
    told bytes c v place (later_rules old.own (before_in old) (Some row)) f h (λ rule broken.
    read_text bytes c v text ∙ bad_next c v (rows_of bytes) before row rest place old _ rule k broken)

-- two clauses on an `Ok`
pub ok_both : {T E : Type 0} (r : Result T E) (P : T → Type 0) (Q : Type 0) (R : T → Type 0) → IfOk r P → OnOk r Q → ((x : T) → P x → Q → R x) → IfOk r R
ok_both (Ok x) P Q R p q f = f x p q
ok_both (Err e) P Q R p q f = tt
