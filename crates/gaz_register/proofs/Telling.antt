-- Equal canonical texts mean equal registers.
use Rattle.std.proofs.Common.{◌≡◌, ℕ, ◌^◌, ◌<◌, Bool, true, List, [], ◌∷◌, ◌++◌, map, refl, sym, ap, ◌∙◌, arith, lit<}
use Rattle.std.specs.Prelude.{◌==◌, ◌&&◌, not, nat_le, decimal}
use Rattle.std.proofs.lemmas.Bool.{and_from, and_parts}
use Rattle.std.proofs.lemmas.Bool.Decides.{nat_tests}
use Rattle.std.proofs.lemmas.List.Folds.{list_all-append}
use Rattle.std.proofs.lemmas.Fmt.{decimal_injective, digits_decimal}
use Rattle.std.specs.Char.{is_ascii_digit}
use Rattle.std.specs.List.{list_all}
use Rattle.std.specs.Str.{all_ascii_digits}
use Rattle.csv.specs.Reading.{default_config, records}
use Rattle.gaz_ids.specs.Limits.{last_uprn, last_usrn}
use Rattle.gaz_ids.specs.Numbers.{in_range}
use Rattle.gaz_ids.proofs.Numerals.{own}
use Rattle.gaz_rows.specs.Rows.{AllFilled}
use Rattle.gaz_rows.proofs.Back.{rows-read-back}
use Rattle.gaz_register.specs.Laws.{TextsTell}
use Rattle.gaz_register.specs.Registers.{CustodianValue, RegisterValue, are_blocks, is_custodian}
use Rattle.gaz_register.specs.Texts.{block_text, blocks_text, row_of}
use Rattle.gaz_register.proofs.Upward.{uprn-blocks, usrn-blocks}

-- ---- texts that are cut at a byte

abbrev lacks : ℕ → List ℕ → Bool
lacks stop bs = list_all (λ b. not (b == stop)) bs

not-itself : (a b : ℕ) → a ≡ b → not (a == b) ≡ true → ⊥
not-itself a b e h = grind (arith, nat_tests)

cut : (stop : ℕ) (a b s t : List ℕ) → lacks stop a ≡ true → lacks stop b ≡ true → a ++ (stop ∷ s) ≡ b ++ (stop ∷ t) → (a ≡ b) × (s ≡ t)
cut stop [] [] s t la lb e = let same : s ≡ t = cc e in (refl, same)
cut stop [] (y ∷ ys) s t la lb e = let same : stop ≡ y = cc e in absurd (not-itself y stop (sym same) ((and_parts _ _ lb).0))
cut stop (x ∷ xs) [] s t la lb e = let same : x ≡ stop = cc e in absurd (not-itself x stop same ((and_parts _ _ la).0))
cut stop (x ∷ xs) (y ∷ ys) s t la lb e =
    let heads : x ≡ y = cc e in
    let tails : xs ++ (stop ∷ s) ≡ ys ++ (stop ∷ t) = cc e in
    let (same, rest) = cut stop xs ys s t ((and_parts _ _ la).1) ((and_parts _ _ lb).1) tails in
    (ap (λ z. z ∷ xs) heads ∙ ap (λ zs. y ∷ zs) same, rest)

-- a text without the byte is no longer text that has it
no-cut : (stop : ℕ) (a b t : List ℕ) → lacks stop a ≡ true → a ≡ b ++ (stop ∷ t) → ⊥
no-cut stop [] [] t la e = cc e
no-cut stop [] (y ∷ ys) t la e = cc e
no-cut stop (x ∷ xs) [] t la e = let same : x ≡ stop = cc e in not-itself x stop same ((and_parts _ _ la).0)
no-cut stop (x ∷ xs) (y ∷ ys) t la e = let tails : xs ≡ ys ++ (stop ∷ t) = cc e in no-cut stop xs ys t ((and_parts _ _ la).1) tails

-- ---- numbers and blocks

no-digit : (stop d : ℕ) → stop < 48 → is_ascii_digit d ≡ true → not (d == stop) ≡ true
no-digit stop d h e = grind (arith, nat_tests)

digits-lack : (stop : ℕ) (ds : List ℕ) → stop < 48 → all_ascii_digits ds ≡ true → lacks stop ds ≡ true
digits-lack stop [] h e = refl
digits-lack stop (d ∷ ds) h e =
    let (first, more) = and_parts (is_ascii_digit d) (all_ascii_digits ds) e in
    and_from _ _ (no-digit stop d h first) (digits-lack stop ds h more)

decimal-lacks : (stop n : ℕ) → stop < 48 → n < 2 ^ 64 → lacks stop (decimal n) ≡ true
decimal-lacks stop n h k = digits-lack stop (decimal n) h (digits_decimal own n k)

abbrev pub Small : (ℕ × ℕ) → Type 0
Small b = (b.0 < 2 ^ 64) × (b.1 < 2 ^ 64)

block-lacks : (b : ℕ × ℕ) → Small b → lacks 32 (block_text b) ≡ true
block-lacks b small = list_all-append (λ c. not (c == 32)) (decimal b.0) (45 ∷ decimal b.1)
    ∙ rw (decimal-lacks 32 b.0 (omega arith) (small.0), decimal-lacks 32 b.1 (omega arith) (small.1)) refl

block-told : (b c : ℕ × ℕ) → Small b → Small c → block_text b ≡ block_text c → b ≡ c
block-told b c sb sc e =
    let (first, last) = cut 45 (decimal b.0) (decimal c.0) (decimal b.1) (decimal c.1) (decimal-lacks 45 b.0 (omega arith) (sb.0)) (decimal-lacks 45 c.0 (omega arith) (sc.0)) e in
    let one = decimal_injective b.0 c.0 (sb.0) (sc.0) first in
    let other = decimal_injective b.1 c.1 (sb.1) (sc.1) last in
    ap (λ x. (x, b.1)) one ∙ ap (λ y. (c.0, y)) other

abbrev pub AllSmall : List (ℕ × ℕ) → Type 0
AllSmall [] = Unit {0}
AllSmall (b ∷ bs) = Small b × AllSmall bs

filled : (b : ℕ × ℕ) → block_text b ≡ [] → ⊥
filled b e = no-text (decimal b.0) (decimal b.1) e
  where
    no-text : (x y : List ℕ) → x ++ (45 ∷ y) ≡ [] → ⊥
    no-text [] y q = cc q
    no-text (z ∷ zs) y q = cc q

longer : (b : ℕ × ℕ) (t : List ℕ) → block_text b ++ t ≡ [] → ⊥
longer b t e = no-text (decimal b.0) (decimal b.1) t e
  where
    no-text : (x y t : List ℕ) → (x ++ (45 ∷ y)) ++ t ≡ [] → ⊥
    no-text [] y t q = cc q
    no-text (z ∷ zs) y t q = cc q

blocks-told : (bs cs : List (ℕ × ℕ)) → AllSmall bs → AllSmall cs → blocks_text bs ≡ blocks_text cs → bs ≡ cs
blocks-told [] [] sb sc e = refl
blocks-told [] (c ∷ []) sb sc e = absurd (filled c (sym e))
blocks-told [] (c ∷ d ∷ cs) sb sc e = absurd (longer c _ (sym e))
blocks-told (b ∷ []) [] sb sc e = absurd (filled b e)
blocks-told (b ∷ b' ∷ bs) [] sb sc e = absurd (longer b _ e)
blocks-told (b ∷ []) (c ∷ []) sb sc e = ap (λ x. x ∷ []) (block-told b c (sb.0) (sc.0) e)
blocks-told (b ∷ []) (c ∷ d ∷ cs) sb sc e = absurd (no-cut 32 (block_text b) (block_text c) (blocks_text (d ∷ cs)) (block-lacks b (sb.0)) e)
blocks-told (b ∷ b' ∷ bs) (c ∷ []) sb sc e = absurd (no-cut 32 (block_text c) (block_text b) (blocks_text (b' ∷ bs)) (block-lacks c (sc.0)) (sym e))
blocks-told (b ∷ b' ∷ bs) (c ∷ d ∷ cs) sb sc e =
    let (first, rest) = cut 32 (block_text b) (block_text c) (blocks_text (b' ∷ bs)) (blocks_text (d ∷ cs)) (block-lacks b (sb.0)) (block-lacks c (sc.0)) e in
    let one = block-told b c (sb.0) (sc.0) first in
    let more = blocks-told (b' ∷ bs) (d ∷ cs) (sb.1) (sc.1) rest in
    ap (λ x. x ∷ b' ∷ bs) one ∙ ap (λ xs. c ∷ xs) more

-- ---- custodians and registers

small-block : (most a b : ℕ) → most < 2 ^ 64 → (nat_le 1 a && nat_le a b && nat_le b most) ≡ true → (a < 2 ^ 64) × (b < 2 ^ 64)
small-block most a b h e = (below-a most a b h e, below-b most a b h e)
  where
    below-a : (most a b : ℕ) → most < 2 ^ 64 → (nat_le 1 a && nat_le a b && nat_le b most) ≡ true → a < 2 ^ 64
    below-a most a b h e = grind (arith, nat_tests)

    below-b : (most a b : ℕ) → most < 2 ^ 64 → (nat_le 1 a && nat_le a b && nat_le b most) ≡ true → b < 2 ^ 64
    below-b most a b h e = grind (arith, nat_tests)

small-list : (most : ℕ) (bs : List (ℕ × ℕ)) → most < 2 ^ 64 → list_all (λ b. nat_le 1 b.0 && nat_le b.0 b.1 && nat_le b.1 most) bs ≡ true → AllSmall bs
small-list most [] h e = tt
small-list most (b ∷ bs) h e = (small-block most b.0 b.1 h ((and_parts _ _ e).0), small-list most bs h ((and_parts _ _ e).1))

pub small-blocks : (most : ℕ) (bs : List (ℕ × ℕ)) → most < 2 ^ 64 → are_blocks most bs ≡ true → AllSmall bs
small-blocks most bs h e = small-list most bs h ((and_parts _ _ e).1)

pub small-code : (n : ℕ) → in_range 1 9999 n ≡ true → n < 2 ^ 64
small-code n e = grind (arith, nat_tests)

pub code-lawful : (c : CustodianValue) → is_custodian c ≡ true → in_range 1 9999 c.code ≡ true
code-lawful c e = (and_parts _ _ ((and_parts _ _ ((and_parts _ _ e).0)).0)).0

custodian-told : (c d : CustodianValue) → is_custodian c ≡ true → is_custodian d ≡ true → row_of c ≡ row_of d → c ≡ d
custodian-told c d lc ld e =
    let code-text : decimal c.code ≡ decimal d.code = cc e in
    let name : c.name ≡ d.name = cc e in
    let uprn-text : blocks_text c.own.uprn ≡ blocks_text d.own.uprn = cc e in
    let usrn-text : blocks_text c.own.usrn ≡ blocks_text d.own.usrn = cc e in
    let code = decimal_injective c.code d.code (small-code c.code (code-lawful c lc)) (small-code d.code (code-lawful d ld)) code-text in
    let uprn = blocks-told c.own.uprn d.own.uprn (small-blocks last_uprn _ (lit< tt) (uprn-blocks c lc)) (small-blocks last_uprn _ (lit< tt) (uprn-blocks d ld)) uprn-text in
    let usrn = blocks-told c.own.usrn d.own.usrn (small-blocks last_usrn _ (lit< tt) (usrn-blocks c lc)) (small-blocks last_usrn _ (lit< tt) (usrn-blocks d ld)) usrn-text in
    let whole : record { code = c.code; name = c.name; own = record { uprn = c.own.uprn; usrn = c.own.usrn } } ≡ record { code = d.code; name = d.name; own = record { uprn = d.own.uprn; usrn = d.own.usrn } } = cc in
    whole

rows-told : (r s : RegisterValue) → list_all is_custodian r ≡ true → list_all is_custodian s ≡ true → map row_of r ≡ map row_of s → r ≡ s
rows-told [] [] lr ls e = refl
rows-told [] (d ∷ ds) lr ls e = cc e
rows-told (c ∷ cs) [] lr ls e = cc e
rows-told (c ∷ cs) (d ∷ ds) lr ls e =
    let row : row_of c ≡ row_of d = cc e in
    let rows : map row_of cs ≡ map row_of ds = cc e in
    let one = custodian-told c d ((and_parts _ _ lr).0) ((and_parts _ _ ls).0) row in
    let more = rows-told cs ds ((and_parts _ _ lr).1) ((and_parts _ _ ls).1) rows in
    ap (λ x. x ∷ cs) one ∙ ap (λ xs. d ∷ xs) more

rows-filled : (r : RegisterValue) → AllFilled (map row_of r)
rows-filled [] = tt
rows-filled (c ∷ cs) = (omega arith, rows-filled cs)

pub texts-tell : TextsTell
texts-tell r s lr ls e =
    rows-told r s lr.lawful ls.lawful
    (sym (rows-read-back (map row_of r) (rows-filled r)) ∙ ap (records default_config) e ∙ rows-read-back (map row_of s) (rows-filled s))
