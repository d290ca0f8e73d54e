-- What a reading gives is lawful.
use Rattle.std.proofs.Common.{◌≡◌, inl, inr, ℕ, suc, ℤ, pos, negsuc, cond, ◌+◌, Bool, true, false, List, [], ◌∷◌, length, map, Option, Some, None, Ok, Err, refl, ap, ◌∙◌, arith}
use Rattle.std.specs.Prelude.{Result, ◌&&◌, not, nat_le, nat_lt}
use Rattle.std.proofs.lemmas.Bool.{cases_Bool, and_from, and_parts, not-false}
use Rattle.std.proofs.lemmas.Bool.Decides.{nat_tests}
use Rattle.std.specs.List.{fold, list_all}
use Rattle.std.specs.Option.{ok_or}
use Rattle.gaz_ids.specs.Limits.{last_uprn, last_usrn}
use Rattle.gaz_ids.specs.Numbers.{in_range}
use Rattle.gaz_register.specs.Drafts.{◌then◌, all_good, DraftValue}
use Rattle.gaz_register.specs.Lists.{by_key, place}
use Rattle.gaz_register.specs.Names.{is_name}
use Rattle.gaz_register.specs.Reading.{block_from, blocks_from, custodian_from, custodians_from, number_from}
use Rattle.gaz_register.specs.Registers.{CustodianValue, RegisterValue, are_blocks, is_custodian}
use Rattle.gaz_register.specs.declared.fault.RegFault.{RegFault}
use Rattle.gaz_register.specs.declared.fault.RegFault.TheVariants.{BadBlock, BadCode, BadName}

-- ---- places

swap-and : (a b c : Bool) → (a && (b && c)) ≡ (b && (a && c))
swap-and true true c = refl
swap-and true false c = refl
swap-and false true c = refl
swap-and false false c = refl

pub list_all-place : {X : Type 0} (key : X → ℕ) (p : X → Bool) (x : X) (xs : List X) → list_all p (place key x xs) ≡ (p x && list_all p xs)
list_all-place key p x [] = refl
list_all-place key p x (y ∷ ys) = elim (cases_Bool (nat_lt (key x) (key y))) [
  | inl before ↦ rw before refl
  | inr behind ↦ rw (behind, list_all-place key p x ys) (swap-and (p y) (p x) (list_all p ys))
]

length-place : {X : Type 0} (key : X → ℕ) (x : X) (xs : List X) → length (place key x xs) ≡ length xs + 1
length-place key x [] = omega arith
length-place key x (y ∷ ys) = elim (cases_Bool (nat_lt (key x) (key y))) [
  | inl before ↦ rw before (omega arith)
  | inr behind ↦ rw behind (omega (arith, length-place key x ys))
]

list_all-fold : {X : Type 0} (key : X → ℕ) (p : X → Bool) (done xs : List X) → list_all p done ≡ true → list_all p xs ≡ true → list_all p (fold (λ sorted x. place key x sorted) done xs) ≡ true
list_all-fold key p done [] a b = a
list_all-fold key p done (x ∷ xs) a b =
    let (here, more) = and_parts (p x) (list_all p xs) b in
    list_all-fold key p (place key x done) xs (list_all-place key p x done ∙ rw (here, a) refl) more

length-fold : {X : Type 0} (key : X → ℕ) (done xs : List X) → length (fold (λ sorted x. place key x sorted) done xs) ≡ length done + length xs
length-fold key done [] = omega arith
length-fold key done (x ∷ xs) = length-fold key (place key x done) xs ∙ omega (arith, length-place key x done)

pub list_all-by_key : {X : Type 0} (key : X → ℕ) (p : X → Bool) (xs : List X) → list_all p xs ≡ true → list_all p (by_key key xs) ≡ true
list_all-by_key key p xs h = list_all-fold key p [] xs refl h

pub length-by_key : {X : Type 0} (key : X → ℕ) (xs : List X) → length (by_key key xs) ≡ length xs
length-by_key key xs = length-fold key [] xs ∙ omega arith

-- ---- steps that gave a value

pub then-ok : {A B P : Type 0} (r : Result A RegFault) (next : A → Result B RegFault) (b : B) → r then next ≡ Ok b → ((a : A) → r ≡ Ok a → next a ≡ Ok b → P) → P
then-ok (Ok a) next b e f = f a refl e
then-ok (Err fault) next b e f = cc e

some-ok : {A : Type 0} (o : Option A) (fault : RegFault) (a : A) → ok_or o fault ≡ Ok a → o ≡ Some a
some-ok None fault a e = cc e
some-ok (Some x) fault a e = let same : x ≡ a = cc e in ap Some same

pub if-ok : {A P : Type 0} (t : Bool) (fault : RegFault) (r : Result A RegFault) (a : A) → cond t (Err fault) r ≡ Ok a → (t ≡ false → r ≡ Ok a → P) → P
if-ok true fault r a e f = cc e
if-ok false fault r a e f = f refl e

-- the values are as many, and pass a test that each value passes
record Good {A : Type 0} (p : A → Bool) (n : ℕ) (vs : List A) : Type 0 where
  count : length vs ≡ n
  each : list_all p vs ≡ true

all_good-values : {X A : Type 0} (f : X → Result A RegFault) (p : A → Bool) → ((x : X) (a : A) → f x ≡ Ok a → p a ≡ true)
    → (xs : List X) (vs : List A) → all_good (map f xs) ≡ Ok vs → Good p (length xs) vs
all_good-values f p good [] vs e = let none : [] ≡ vs = cc e in rw (← none) (record { count = refl; each = refl })
all_good-values f p good (x ∷ xs) vs e =
    then-ok (f x) _ vs e (λ a first rest. then-ok (all_good (map f xs)) _ vs rest (λ more those all.
    let both : a ∷ more ≡ vs = cc all in
    let later = all_good-values f p good xs more those in
    rw (← both) (record { count = ap suc later.count; each = and_from (p a) (list_all p more) (good x a first) later.each })))

-- ---- the parts of a custodian

number-within : (low high n : ℕ) (z : ℤ) → number_from low high z ≡ Some n → in_range low high n ≡ true
number-within low high n (pos m) e = elim (cases_Bool (in_range low high m)) [
  | inl within ↦ let same : m ≡ n = cc (rw within at e) in rw (← same) within
  | inr out ↦ cc (rw out at e)
]
number-within low high n (negsuc m) e = cc e

is-block : (most a b : ℕ) → in_range 1 most a ≡ true → in_range 1 most b ≡ true → nat_lt b a ≡ false → (nat_le 1 a && nat_le a b && nat_le b most) ≡ true
is-block most a b h k l = grind (arith, nat_tests)

block-lawful : (most : ℕ) (pair : ℤ × ℤ) (b : ℕ × ℕ) → block_from most pair ≡ Ok b → (nat_le 1 b.0 && nat_le b.0 b.1 && nat_le b.1 most) ≡ true
block-lawful most pair b e =
    then-ok (ok_or (number_from 1 most pair.0) BadBlock) _ b e (λ first one rest.
    then-ok (ok_or (number_from 1 most pair.1) BadBlock) _ b rest (λ last other end.
    if-ok (nat_lt last first) BadBlock (Ok (first, last)) b end (λ order made.
    let both : (first, last) ≡ b = cc made in
    rw (← both) (is-block most first last (number-within 1 most first pair.0 (some-ok _ BadBlock first one)) (number-within 1 most last pair.1 (some-ok _ BadBlock last other)) order))))

few-enough : (a n : ℕ) → nat_lt 8 a ≡ false → n ≡ a → nat_le n 8 ≡ true
few-enough a n h e = grind (arith, nat_tests)

blocks-lawful : (most : ℕ) (pairs : List (ℤ × ℤ)) (bs : List (ℕ × ℕ)) → blocks_from most pairs ≡ Ok bs → are_blocks most bs ≡ true
unfolding blocks_from
blocks-lawful most pairs bs e =
    let test : (ℕ × ℕ) → Bool = λ b. nat_le 1 b.0 && nat_le b.0 b.1 && nat_le b.1 most in
    let first : (ℕ × ℕ) → ℕ = λ b. b.0 in
    if-ok (nat_lt 8 (length pairs)) BadBlock _ bs e (λ few rest.
    then-ok (all_good (map (block_from most) pairs)) _ bs rest (λ found those made.
    let good = all_good-values (block_from most) test (block-lawful most) pairs found those in
    let same : by_key first found ≡ bs = cc made in
    rw (← same) (and_from (nat_le (length (by_key first found)) 8) (list_all test (by_key first found))
    (few-enough (length pairs) _ few (length-by_key first found ∙ good.count))
    (list_all-by_key first test found good.each))))

custodian-lawful : (d : DraftValue) (c : CustodianValue) → custodian_from d ≡ Ok c → is_custodian c ≡ true
unfolding custodian_from
custodian-lawful d c e =
    then-ok (ok_or (number_from 1 9999 d.code) BadCode) _ c e (λ code one rest.
    if-ok (not (is_name d.name)) BadName _ c rest (λ name more.
    then-ok (blocks_from last_uprn d.uprn) _ c more (λ uprn these others.
    then-ok (blocks_from last_usrn d.usrn) _ c others (λ usrn those made.
    let same : record { code = code; name = d.name; own = record { uprn = uprn; usrn = usrn } } ≡ c = cc made in
    rw (← same) (and_from _ _ (and_from _ _ (and_from _ _
    (number-within 1 9999 code d.code (some-ok _ BadCode code one)) (not-false (is_name d.name) name))
    (blocks-lawful last_uprn d.uprn uprn these)) (blocks-lawful last_usrn d.usrn usrn those))))))

-- the custodians that a reading gives, as many as there are drafts
pub record AreLawful (drafts : List DraftValue) (register : RegisterValue) : Type 0 where
  pub count : length register ≡ length drafts
  pub each : list_all is_custodian register ≡ true

pub custodians-lawful : (drafts : List DraftValue) (register : RegisterValue) → custodians_from drafts ≡ Ok register → AreLawful drafts register
unfolding custodians_from
custodians-lawful drafts register e =
    let code : CustodianValue → ℕ = λ c. c.code in
    then-ok (all_good (map custodian_from drafts)) _ register e (λ found those made.
    let good = all_good-values custodian_from is_custodian custodian-lawful drafts found those in
    let same : by_key code found ≡ register = cc made in
    rw (← same) (record { count = length-by_key code found ∙ good.count; each = list_all-by_key code is_custodian found good.each }))
