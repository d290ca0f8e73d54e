-- The ids of keys.
use Rattle.std.proofs.Common.{◌≡◌, ℕ, ◌^◌, ◌<◌, ◌≤◌, true, ◌++◌, length, take, drop, refl, sym, ap, ◌∙◌, arith, Some}
use Rattle.std.proofs.lemmas.Bool.Decides.{nat_tests}
use Rattle.std.proofs.lemmas.List.{length-append}
use Rattle.std.proofs.Math.Seq.{drop-append_seam, take-append_seam}
use Rattle.std.specs.Cmp.Lexicographic.{slice_cmp}
use Rattle.std.specs.Ordering.{nat_cmp, ordering_then}
use Rattle.gaz_ids.specs.Codes.{lang_of, lang_text}
use Rattle.gaz_ids.specs.declared.lang.Lang.{Lang}
use Rattle.gaz_ids.specs.declared.lang.Lang.TheVariants.{Cym, Eng}
use Rattle.gaz_records.specs.Blpus.{is_uprn}
use Rattle.gaz_records.specs.Streets.{is_usrn}
use Rattle.gaz_records.specs.declared.key.Key.TheVariants as key
use Rattle.gaz_cells.specs.Digits.{digits_in}
use Rattle.gaz_cells.specs.Ids.{id_of, key_named, kind_in, uprn_in, usrn_in}
use Rattle.gaz_cells.specs.Laws.{IdsAreApart, IdsAreOrdered, IdsReadBack}
use Rattle.gaz_cells.proofs.Digits.{digits_size, number_back}
use Rattle.gaz_cells.proofs.Order.{cmp_append, digits_order, then_equal}

usrn_short : (n : ℕ) → is_usrn n ≡ true → n < 10 ^ 8
usrn_short n h = grind (arith, nat_tests)

uprn_short : (n : ℕ) → is_uprn n ≡ true → n < 10 ^ 12
uprn_short n h = grind (arith, nat_tests)

usrn_back : (n : ℕ) → is_usrn n ≡ true → usrn_in (digits_in 8 n) ≡ Some n
usrn_back n h =
    let from : 1 ≤ n = grind (arith, nat_tests) in
    let to : n ≤ 99_999_999 = grind (arith, nat_tests) in
    rw (digits_size 8 n, number_back 8 99_999_999 n (omega arith) (usrn_short n h) from to) refl

pub uprn_back : (n : ℕ) → is_uprn n ≡ true → uprn_in (digits_in 12 n) ≡ Some n
uprn_back n h =
    let from : 1 ≤ n = grind (arith, nat_tests) in
    let to : n ≤ 999_999_999_999 = grind (arith, nat_tests) in
    rw (digits_size 12 n, number_back 12 999_999_999_999 n (omega arith) (uprn_short n h) from to) refl

name_size : (n : ℕ) (l : Lang) → length (digits_in 8 n ++ lang_text l) ≡ 11
name_size n Cym = omega (arith, length-append (digits_in 8 n) (lang_text Cym), digits_size 8 n)
name_size n Eng = omega (arith, length-append (digits_in 8 n) (lang_text Eng), digits_size 8 n)

lang_back : (l : Lang) → lang_of (lang_text l) ≡ Some l
lang_back Cym = refl
lang_back Eng = refl

pub ids_back : IdsReadBack
ids_back (key.Street n) h = rw (usrn_back n h) refl
ids_back (key.Descriptor n l) h =
    let size = digits_size 8 n in
    let front : take 8 (digits_in 8 n ++ lang_text l) ≡ digits_in 8 n = rw size at (take-append_seam (digits_in 8 n) (lang_text l)) in
    let rest : drop 8 (digits_in 8 n ++ lang_text l) ≡ lang_text l = rw size at (drop-append_seam (digits_in 8 n) (lang_text l)) in
    rw (name_size n l, front, rest, usrn_back n h, lang_back l) refl
ids_back (key.Blpu n) h = rw (uprn_back n h) refl
ids_back (key.Xref t) h = rw h refl
ids_back (key.Lpi t) h = rw h refl

pub ids_apart : IdsAreApart
ids_apart a b h i kinds ids =
    let one = ids_back a h in
    let other = ids_back b i in
    let same : key_named (kind_in a) (id_of a) ≡ key_named (kind_in b) (id_of b) = λ j. key_named (kinds j) (ids j) in
    cc

pub ids_order : IdsAreOrdered
ids_order (key.Street n) (key.Street m) h i = then_equal (nat_cmp n m) ∙ sym (digits_order 8 n m (usrn_short n h) (usrn_short m i))
ids_order (key.Descriptor n l) (key.Descriptor m g) h i =
    let size : length (digits_in 8 n) ≡ length (digits_in 8 m) = digits_size 8 n ∙ sym (digits_size 8 m) in
    let texts = cmp_append (digits_in 8 n) (digits_in 8 m) (lang_text l) (lang_text g) size in
    let numbers = digits_order 8 n m (usrn_short n h) (usrn_short m i) in
    sym (texts ∙ ap (λ o. ordering_then o (slice_cmp nat_cmp (lang_text l) (lang_text g))) numbers)
ids_order (key.Blpu n) (key.Blpu m) h i = then_equal (nat_cmp n m) ∙ sym (digits_order 12 n m (uprn_short n h) (uprn_short m i))
ids_order (key.Xref t) (key.Xref u) h i = refl
ids_order (key.Lpi t) (key.Lpi u) h i = refl
ids_order a b h i = refl
