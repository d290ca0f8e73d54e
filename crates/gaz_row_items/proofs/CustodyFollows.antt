-- Cells that say what became of a number are the cells of that.
use Rattle.std.proofs.Common.{◌≡◌, ◌∙◌, ◌==◌, ◌&&◌, ◌+◌, ◌-◌, ◌*◌, ◌/◌, ◌%◌, ◌<◌, ◌≤◌, ◌++◌, ℕ, zero, suc, pos, Bool, true, false, not, cond, nat_lt, List, [], ◌∷◌, length, refl, sym, ap, subst, arith, eqb-true}
use Rattle.std.proofs.lemmas.Bool.{and_from, and_parts}
use Rattle.std.proofs.lemmas.Bool.Decides.{nat_tests}
use Rattle.std.proofs.lemmas.Int.Digits.{digits_value_push}
use Rattle.std.proofs.lemmas.List.{length-append}
use Rattle.std.specs.Prelude.{Option, Some, None, Ok, Err, option_map}
use Rattle.std.specs.Result.{result_ok}
use Rattle.std.specs.Char.{digit_value, is_ascii_digit}
use Rattle.std.specs.Str.{all_ascii_digits}
use Rattle.std.specs.Str.Parse.{digits_value}
use Rattle.sqlite.specs.declared.types.Value.TheVariants.{Int}
use Rattle.sqlite.specs.Order.{Row}
use Rattle.gaz_ids.proofs.Numerals.{digit_is}
use Rattle.gaz_ids.specs.Numbers.{in_range, of_id, read_id}
use Rattle.gaz_ids.specs.declared.fault.IdFault.TheVariants.{Empty, NotDigits, OutOfRange, TooLong}
use Rattle.gaz_records.specs.Blpus.{is_uprn}
use Rattle.gaz_views.specs.Custody.{hop_in}
use Rattle.gaz_views.specs.declared.custody.Custody.{Custody}
use Rattle.gaz_views.specs.declared.custody.Custody.TheVariants.{Adopted, Released}
use Rattle.gaz_cells.specs.Custody.{CustodyValue, custody_cells, custody_in, custody_kind, custody_told, is_custody, is_plain, number_told, other_in, taken_in, told_in}
use Rattle.gaz_cells.specs.Digits.{digits_in}
use Rattle.gaz_cells.specs.Ids.{uprn_in}
use Rattle.gaz_cells.specs.Reading.{kind_numbered, read_cells, said_in}
use Rattle.gaz_tables.specs.Versions as table
use Rattle.gaz_row_items.specs.Versions.{cells_in, custody_cells_in, item_in, number_in}

pub no_answer : {X A : Type 0} {o : Option X} {x : X} → o ≡ Some x → o ≡ None → A
no_answer {x = x} some none = let clash : None ≡ Some x = sym none ∙ some in absurd (cc)

-- ---- digits

-- the last of a list that isn't empty
record Split (ds : List ℕ) : Type 0 where
  front : List ℕ
  last : ℕ
  is : ds ≡ front ++ last ∷ []

split : (d : ℕ) (ds : List ℕ) → Split (d ∷ ds)
split d [] = record { front = []; last = d; is = refl }
split d (e ∷ ds) = let s = split e ds in record { front = d ∷ s.front; last = s.last; is = ap (λ (l : List ℕ). d ∷ l) s.is }

all_front : (ds : List ℕ) (c : ℕ) → all_ascii_digits (ds ++ c ∷ []) ≡ true → (all_ascii_digits ds ≡ true) × (is_ascii_digit c ≡ true)
all_front [] c h = (refl, (and_parts (is_ascii_digit c) true h).0)
all_front (d ∷ ds) c h =
    let both = and_parts (is_ascii_digit d) (all_ascii_digits (ds ++ c ∷ [])) h in
    let rest = all_front ds c both.1 in
    (and_from (is_ascii_digit d) (all_ascii_digits ds) both.0 rest.0, rest.1)

digit_small : (c : ℕ) → is_ascii_digit c ≡ true → (48 ≤ c) × (c < 58)
digit_small c h = (grind (arith, nat_tests), grind (arith, nat_tests))

-- digits of a width are those of their number
digits_again : (w : ℕ) (ds : List ℕ) → length ds ≡ w → all_ascii_digits ds ≡ true → digits_in w (digits_value 10 ds) ≡ ds
unfolding digits_in
digits_again zero [] size all = refl
digits_again zero (d ∷ ds) size all = absurd (omega (arith, size))
digits_again (suc w) [] size all = absurd (omega (arith, size))
digits_again (suc w) (d ∷ ds) size all =
    let s = split d ds in
    let size_is : length (s.front ++ s.last ∷ []) ≡ suc w = ap length (sym s.is) ∙ size in
    let shorter : length s.front ≡ w = omega (arith, length-append s.front (s.last ∷ []), size_is) in
    let both = all_front s.front s.last (ap all_ascii_digits (sym s.is) ∙ all) in
    let small = digit_small s.last both.1 in
    let value : digits_value 10 (d ∷ ds) ≡ digits_value 10 s.front * 10 + digit_value s.last = ap (digits_value 10) s.is ∙ digits_value_push 10 s.front s.last in
    let digit : digit_value s.last ≡ s.last - 48 = digit_is s.last both.1 in
    let low = small.0 in
    let high = small.1 in
    let tens : digits_value 10 (d ∷ ds) / 10 ≡ digits_value 10 s.front = omega (arith, value, digit, low, high) in
    let ones : 48 + digits_value 10 (d ∷ ds) % 10 ≡ s.last = omega (arith, value, digit, low, high) in
    (λ i. digits_in w (tens i) ++ ones i ∷ [])
    ∙ ap (λ (l : List ℕ). l ++ s.last ∷ []) (digits_again w s.front shorter both.0)
    ∙ sym s.is

-- a number that is read in full, with its digits
record InFull (text : List ℕ) (n : ℕ) : Type 0 where
  is : digits_in 12 n ≡ text
  range : in_range 1 999_999_999_999 n ≡ true

-- what a text that is read says
pub record Reads (high : ℕ) (text : List ℕ) (n : ℕ) : Type 0 where
  pub all : all_ascii_digits text ≡ true
  pub range : in_range 1 high n ≡ true
  pub value : digits_value 10 text ≡ n

pub reads : (width high : ℕ) (text : List ℕ) (n : ℕ) → result_ok (read_id width 1 high text) ≡ Some n → Reads high text n
unfolding read_id
reads width high text n is = by_empty (length text == 0) is
  where
    by_range : all_ascii_digits text ≡ true → (b : Bool) → in_range 1 high (digits_value 10 text) ≡ b → result_ok (cond (not b) (Err OutOfRange) (Ok (digits_value 10 text))) ≡ Some n → Reads high text n
    by_range all true range e =
        let same : digits_value 10 text ≡ n = cc in
        record { all = all; range = subst (λ m. in_range 1 high m ≡ true) same range; value = same }
    by_range all false range e = no_answer e refl

    by_width : all_ascii_digits text ≡ true → (b : Bool) → result_ok (cond b (Err TooLong) (cond (not (in_range 1 high (digits_value 10 text))) (Err OutOfRange) (Ok (digits_value 10 text)))) ≡ Some n → Reads high text n
    by_width all true e = no_answer e refl
    by_width all false e = by_range all (in_range 1 high (digits_value 10 text)) refl e

    by_digits : (b : Bool) → all_ascii_digits text ≡ b → result_ok (cond (not b) (Err NotDigits) (cond (nat_lt width (length text)) (Err TooLong) (cond (not (in_range 1 high (digits_value 10 text))) (Err OutOfRange) (Ok (digits_value 10 text))))) ≡ Some n → Reads high text n
    by_digits true all e = by_width all (nat_lt width (length text)) e
    by_digits false all e = no_answer e refl

    by_empty : (b : Bool) → result_ok (cond b (Err Empty) (cond (not (all_ascii_digits text)) (Err NotDigits) (cond (nat_lt width (length text)) (Err TooLong) (cond (not (in_range 1 high (digits_value 10 text))) (Err OutOfRange) (Ok (digits_value 10 text)))))) ≡ Some n → Reads high text n
    by_empty true e = no_answer e refl
    by_empty false e = by_digits (all_ascii_digits text) refl e

in_full : (text : List ℕ) (n : ℕ) → uprn_in text ≡ Some n → InFull text n
in_full text n is = by_size (length text == 12) refl is
  where
    by_size : (b : Bool) → (length text == 12) ≡ b → cond b (result_ok (read_id 12 1 999_999_999_999 text)) None ≡ Some n → InFull text n
    by_size true size e =
        let r = reads 12 999_999_999_999 text n e in
        record { is = ap (digits_in 12) (sym r.value) ∙ digits_again 12 text (eqb-true (length text) 12 size) r.all; range = r.range }
    by_size false size e = no_answer e refl

-- ---- the cells

no_text : (text : List ℕ) → (length text == 0) ≡ true → text ≡ []
no_text [] h = refl
no_text (c ∷ text) h = absurd (omega (arith, eqb-true (length (c ∷ text)) 0 h))

in_bounds : (n m : ℕ) → of_id 1 9999 n ≡ Some m → (n ≡ m) × (in_range 1 9999 m ≡ true)
in_bounds n m is = by_range (in_range 1 9999 n) refl is
  where
    by_range : (b : Bool) → in_range 1 9999 n ≡ b → cond b (Some n) None ≡ Some m → (n ≡ m) × (in_range 1 9999 m ≡ true)
    by_range true range e = let same : n ≡ m = cc in (same, subst (λ k. in_range 1 9999 k ≡ true) same range)
    by_range false range e = no_answer e refl

-- what is told of a code and a hop
record IsTold (live other hop : ℕ) (x : Custody) : Type 0 where
  of_other : other_in x ≡ other
  of_live : taken_in x ≡ live
  of_hop : hop_in x ≡ hop
  such : is_custody x ≡ true

told : (live other hop : ℕ) (x : Custody) → custody_told live (of_id 1 9999 other) (of_id 1 9999 hop) ≡ Some x → IsTold live other hop x
told live other hop x is = by_both (of_id 1 9999 other) refl (of_id 1 9999 hop) refl is
  where
    by_live : (o h : ℕ) → (other ≡ o) × (in_range 1 9999 o ≡ true) → (hop ≡ h) × (in_range 1 9999 h ≡ true) → (a b : Bool) → (live == 0) ≡ a → (live == 1) ≡ b
        → cond a (Some (Released o h)) (cond b (Some (Adopted o h)) None) ≡ Some x → IsTold live other hop x
    by_live o h one two true b given lives e =
        let same : Released o h ≡ x = cc in
        subst (IsTold live other hop) same (record { of_other = sym one.0; of_live = sym (eqb-true live 0 given); of_hop = sym two.0; such = and_from (in_range 1 9999 o) (in_range 1 9999 h) one.1 two.1 })
    by_live o h one two false true given lives e =
        let same : Adopted o h ≡ x = cc in
        subst (IsTold live other hop) same (record { of_other = sym one.0; of_live = sym (eqb-true live 1 lives); of_hop = sym two.0; such = and_from (in_range 1 9999 o) (in_range 1 9999 h) one.1 two.1 })
    by_live o h one two false false given lives e = no_answer e refl

    by_both : (a : Option ℕ) → of_id 1 9999 other ≡ a → (b : Option ℕ) → of_id 1 9999 hop ≡ b → custody_told live a b ≡ Some x → IsTold live other hop x
    by_both None one b two e = no_answer e refl
    by_both (Some o) one None two e = no_answer e refl
    by_both (Some o) one (Some h) two e = by_live o h (in_bounds other o one) (in_bounds hop h two) (live == 0) (live == 1) refl refl e

-- cells that say what became of a number
pub record CustodyFollows (v : CustodyValue) (n : ℕ) (x : Custody) : Type 0 where
  pub cells : custody_cells n x ≡ v
  pub number : is_uprn n ≡ true
  pub such : is_custody x ≡ true

pub custody_follows : (v : CustodyValue) (n : ℕ) (x : Custody) → custody_in v ≡ Some (n, x) → CustodyFollows v n x
custody_follows v n x is = by_plain (is_plain v) refl is
  where
    by_told : is_plain v ≡ true → (m : ℕ) → uprn_in v.cells.id ≡ Some m → (m == v.cells.links.blpu) ≡ true → (o : Option Custody) → told_in v ≡ o → option_map {U = ℕ × Custody} (λ y. (m, y)) o ≡ Some (n, x) → CustodyFollows v n x
    by_told plain m id blpu None so e = no_answer e refl
    by_told plain m id blpu (Some y) so e =
        let pair : (m, y) ≡ (n, x) = cc in
        subst (λ (p : ℕ × Custody). CustodyFollows v p.0 p.1) pair (
        let one = and_parts (v.cells.kind == custody_kind) ((v.cells.links.lang == 0) && (length v.cells.body == 0)) plain in
        let two = and_parts (v.cells.links.lang == 0) (length v.cells.body == 0) one.1 in
        let f = in_full v.cells.id m id in
        let t = told v.cells.links.live v.cells.links.street v.hop y so in
        let kind = eqb-true v.cells.kind custody_kind one.0 in
        let lang = eqb-true v.cells.links.lang 0 two.0 in
        let number = eqb-true m v.cells.links.blpu blpu in
        let body = no_text v.cells.body two.1 in
        record {
          cells = λ i. record {
            cells = record {
              kind = sym kind i;
              id = f.is i;
              links = record { blpu = number i; street = t.of_other i; lang = sym lang i; live = t.of_live i };
              body = sym body i;
            };
            hop = t.of_hop i;
          };
          number = f.range;
          such = t.such;
        }
        )

    by_number : is_plain v ≡ true → (o : Option ℕ) → uprn_in v.cells.id ≡ o → number_told v o ≡ Some (n, x) → CustodyFollows v n x
    by_number plain None id e = no_answer e refl
    by_number plain (Some m) id e = by_blpu (m == v.cells.links.blpu) refl e
      where
        by_blpu : (b : Bool) → (m == v.cells.links.blpu) ≡ b → cond b (option_map {U = ℕ × Custody} (λ y. (m, y)) (told_in v)) None ≡ Some (n, x) → CustodyFollows v n x
        by_blpu true blpu e = by_told plain m id blpu (told_in v) refl e
        by_blpu false blpu e = no_answer e refl

    by_plain : (b : Bool) → is_plain v ≡ b → cond b (number_told v (uprn_in v.cells.id)) None ≡ Some (n, x) → CustodyFollows v n x
    by_plain true plain e = by_number plain (uprn_in v.cells.id) refl e
    by_plain false plain e = no_answer e refl

-- ---- a row is of one sort

-- of kind 92 it says no item
pub no_item : (r : Row) → number_in (table.kind_of r) ≡ 92 → item_in r ≡ None
unfolding read_cells
no_item r kind = ap (λ k. result_ok (said_in (cells_in r) (kind_numbered k))) kind

-- without a hop it says of no number what became of it
pub no_passage : (r : Row) → table.hop_of r ≡ Int (pos 0) → custody_in (custody_cells_in r) ≡ None
no_passage r hop = by_plain (is_plain (custody_cells_in r))
  where
    nothing : told_in (custody_cells_in r) ≡ None
    nothing = ap (λ h. custody_told (number_in (table.live_of r)) (of_id 1 9999 (number_in (table.street_of r))) (of_id 1 9999 (number_in h))) hop ∙ by_other (of_id 1 9999 (number_in (table.street_of r)))
      where
        by_other : (o : Option ℕ) → custody_told (number_in (table.live_of r)) o None ≡ None
        by_other None = refl
        by_other (Some x) = refl

    by_number : (o : Option ℕ) → number_told (custody_cells_in r) o ≡ None
    by_number None = refl
    by_number (Some n) = by_blpu (n == number_in (table.blpu_of r))
      where
        by_blpu : (b : Bool) → cond b (option_map {U = ℕ × Custody} (λ x. (n, x)) (told_in (custody_cells_in r))) None ≡ None
        by_blpu true = ap (option_map {U = ℕ × Custody} (λ x. (n, x))) nothing
        by_blpu false = refl

    by_plain : (b : Bool) → cond b (number_told (custody_cells_in r) (uprn_in (custody_cells_in r).cells.id)) None ≡ None
    by_plain true = by_number (uprn_in (custody_cells_in r).cells.id)
    by_plain false = refl
