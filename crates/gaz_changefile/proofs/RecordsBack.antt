-- The records of a file that was written, each by itself: how it is told, and what it says.
use Rattle.std.proofs.Common.{◌≡◌, ℕ, zero, suc, ◌≤◌, ◌||◌, Bool, true, false, List, [], ◌∷◌, get_or, refl, arith, Some, Ok, lit<}
use Rattle.std.specs.Prelude.{◌==◌, not, if◌then◌else◌, decimal}
use Rattle.std.specs.List.{All, list_any}
use Rattle.std.proofs.lemmas.Bool.Decides.{nat_tests}
use Rattle.csv.specs.Records.{field_at}
use Rattle.gaz_ids.specs.Limits.{last_volume}
use Rattle.gaz_ids.proofs.Numerals.{read_decimal}
use Rattle.gaz_ids.specs.Numbers.{read_code, read_volume}
use Rattle.gaz_rows.specs.Rows.{Fields}
use Rattle.gaz_fields.specs.Days.{CivilDay}
use Rattle.gaz_records.specs.Items.{is_entry, is_item, item_texts, kind_of, read_item}
use Rattle.gaz_records.specs.declared.item.Item.{Item}
use Rattle.gaz_records.specs.declared.item.Kind.{Kind}
use Rattle.gaz_records.specs.declared.item.Kind.TheVariants as kind
use Rattle.gaz_records.proofs.ItemsBack.{fields-back}
use Rattle.gaz_records.specs.Kinds.{identifier, is_entry_kind}
use Rattle.gaz_changefile.specs.Allowed.{AreAllowed, is_allowed}
use Rattle.gaz_changefile.specs.Contents.{basis_at, basis_in, change_at, change_of}
use Rattle.gaz_changefile.specs.Files.{IsBasis}
use Rattle.gaz_changefile.specs.Lines.{action_of, has_kind, is_known_profile, line_of, read_count, read_order, read_profile}
use Rattle.gaz_changefile.specs.Writing.{action_text, basis_row, change_row, header_row, trailer_row}
use Rattle.gaz_changefile.specs.declared.action.Action.{Action}
use Rattle.gaz_changefile.specs.declared.action.Action.TheVariants.{Insert, Update, Delete}
use Rattle.gaz_changefile.specs.declared.change.Basis.{Basis}
use Rattle.gaz_changefile.specs.declared.change.Change.{Change}
use Rattle.gaz_changefile.specs.declared.line.Line.TheVariants as line

-- ---- numbers, dates and codes

pub code_back : (n : ℕ) → 1 ≤ n → n ≤ 9999 → read_code (decimal n) ≡ Some n
code_back n a b = rw (read_decimal 4 1 9999 n (lit< tt) (omega arith) (omega arith) a b) refl

pub profile_back : (n : ℕ) → 1 ≤ n → n ≤ 2 → read_profile (decimal n) ≡ Some n
profile_back n a b = rw (read_decimal 4 1 9999 n (lit< tt) (omega arith) (omega arith) a (omega arith)) refl

pub volume_back : (n : ℕ) → 1 ≤ n → n ≤ last_volume → read_volume (decimal n) ≡ Some n
volume_back n a b = rw (read_decimal 6 1 last_volume n (lit< tt) (omega arith) (omega arith) a b) refl

pub order_back : (n : ℕ) → 1 ≤ n → n ≤ 5000 → read_order (decimal n) ≡ Some n
order_back n a b = rw (read_decimal 4 1 5000 n (lit< tt) (omega arith) (omega arith) a b) refl

pub count_back : (n : ℕ) → n ≤ 5000 → read_count (decimal n) ≡ Some n
count_back n b = rw (read_decimal 4 0 5000 n (lit< tt) (omega arith) (omega arith) (omega arith) b) refl

pub action_back : (a : Action) → action_of (action_text a) ≡ Some a
action_back Insert = refl
action_back Update = refl
action_back Delete = refl

pub same : (n : ℕ) → (n == n) ≡ true
same n = grind (arith, nat_tests)

pub head_all : {X : Type 0} (P : X → Type 0) (x : X) (xs : List X) → All P (x ∷ xs) → P x
head_all P x xs h = h 0 x (omega arith)

pub tail_all : {X : Type 0} (P : X → Type 0) (x : X) (xs : List X) → All P (x ∷ xs) → All P xs
tail_all P x xs h k d l = h (suc k) d (omega (arith, l))

pub cons_all : {X : Type 0} (P : X → Type 0) (x : X) (xs : List X) → P x → All P xs → All P (x ∷ xs)
cons_all P x xs h t zero d l = h
cons_all P x xs h t (suc k) d l = t k d (omega arith)

-- ---- the profile that is written has a record for each change

pub for_known : (any : Bool) → is_known_profile (if any then 2 else 1) ≡ true
for_known true = refl
for_known false = refl

pub for_from : (any : Bool) → 1 ≤ (if any then 2 else 1)
for_from true = omega arith
for_from false = omega arith

pub for_to : (any : Bool) → (if any then 2 else 1) ≤ 2
for_to true = omega arith
for_to false = omega arith

-- a profile has a record for a change, and a file of the custodian may hold it
abbrev pub IsFit : ℕ → ℕ → Change → Type 0
IsFit pr c x = (has_kind pr (kind_of x.item) ≡ true) × (is_allowed c x ≡ true)

or_true : (a : Bool) → (a || true) ≡ true
or_true true = refl
or_true false = refl

has_first : (a b : Bool) (n : Bool) → (not a || b) ≡ false → (a || n) ≡ true
has_first true b n h = refl
has_first false b n h = cc h

has_rest : (a b : Bool) → (not a || b) ≡ false → b ≡ false
has_rest true b h = h
has_rest false b h = cc h

pub all_have : (c : ℕ) (any : Bool) (xs : List Change) → list_any (λ x. not (is_entry x.item)) xs ≡ any → AreAllowed c xs → All (IsFit (if any then 2 else 1) c) xs
all_have c any [] e h = λ k d l. absurd (omega arith)
all_have c true (x ∷ xs) e h = λ k d l. (or_true (is_entry_kind (kind_of (get_or (x ∷ xs) k d).item)), h k d l)
all_have c false (x ∷ xs) e h =
    let here = has_first (is_entry x.item) (list_any (λ x. not (is_entry x.item)) xs) (1 == 2) e in
    let rest = has_rest (is_entry x.item) (list_any (λ x. not (is_entry x.item)) xs) e in
    cons_all (IsFit 1 c) x xs (here, head_all (λ x. is_allowed c x ≡ true) x xs h) (all_have c false xs rest (tail_all (λ x. is_allowed c x ≡ true) x xs h))

-- ---- records are told by their first field

pub header_other : (pr c v : ℕ) (d : CivilDay) → line_of pr (header_row pr c v d) ≡ line.Other
unfolding field_at
header_other pr c v d = refl

pub basis_line : (pr : ℕ) (b : Basis) → line_of pr (basis_row b) ≡ line.Basis
unfolding field_at
basis_line pr b = refl

kind_line : (pr : ℕ) (k : Kind) (rest : Fields) → has_kind pr k ≡ true → line_of pr (identifier k ∷ rest) ≡ line.Change k
unfolding field_at
kind_line pr kind.Street rest h = refl
kind_line pr kind.Descriptor rest h = refl
kind_line pr kind.Blpu rest h = refl
kind_line pr kind.Xref rest h = refl
kind_line pr kind.Lpi rest h = refl
kind_line pr kind.Release rest h = rw h refl
kind_line pr kind.Adopt rest h = rw h refl

pub change_line : (pr n : ℕ) (x : Change) → has_kind pr (kind_of x.item) ≡ true → line_of pr (change_row (n, x)) ≡ line.Change (kind_of x.item)
change_line pr n x h = kind_line pr (kind_of x.item) _ h

pub trailer_line : (pr n : ℕ) → line_of pr (trailer_row n) ≡ line.Trailer
unfolding field_at
trailer_line pr n = refl

-- ---- what the records say

pub basis_said : (b : Basis) → IsBasis b → basis_in (basis_row b) ≡ Some b
unfolding field_at
basis_said b h = rw (code_back b.custodian h.code_from h.code_to, volume_back b.volume h.volume_from h.volume_to) refl

pub basis_told : (pr : ℕ) (b : Basis) → IsBasis b → basis_at pr (basis_row b) ≡ Some b
basis_told pr b h = rw (basis_line pr b) (basis_said b h)

change_fields : (place : ℕ) (k : Kind) (id order : List ℕ) (a : Action) (texts : Fields) (x : Item) → read_item k texts ≡ Ok x
    → change_of place (id ∷ action_text a ∷ order ∷ texts) (line.Change k) ≡ Some (record { place = place; action = a; item = x })
unfolding field_at
change_fields place k id order a texts x h = rw (action_back a, h) refl

pub change_told : (pr place n : ℕ) (x : Change) → has_kind pr (kind_of x.item) ≡ true → is_item x.item ≡ true → place ≡ x.place → change_at pr (place, change_row (n, x)) ≡ Some x
change_told pr place n x k h e =
    rw (change_line pr n x k, e) (change_fields x.place (kind_of x.item) (identifier (kind_of x.item)) (decimal n) x.action (item_texts x.item) x.item (fields-back x.item h))
