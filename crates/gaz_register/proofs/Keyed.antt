-- Lists by a key are in order, and keep their items; and so a reading gives a register.
use Rattle.std.proofs.Common.{◌≡◌, inl, inr, ℕ, zero, suc, ◌<◌, ◌≤◌, Bool, true, false, List, [], ◌∷◌, ◌++◌, length, map, get_or, Ok, refl, ◌∙◌, arith}
use Rattle.std.specs.Prelude.{◌&&◌, not, nat_le, nat_lt}
use Rattle.std.proofs.lemmas.Bool.{and_from, and_parts, cases_Bool, cases_order, not-false}
use Rattle.std.proofs.lemmas.Bool.Decides.{nat_tests}
use Rattle.std.proofs.lemmas.List.{append-nil}
use Rattle.std.proofs.lemmas.List.Sorted.{IsPermutation-append, IsPermutation-cons, IsPermutation-middle, IsPermutation-refl, IsPermutation-sym, IsPermutation-trans}
use Rattle.std.specs.List.{fold, list_all}
use Rattle.std.specs.List.Sorted.{IsNonDecreasingBy, IsPermutation}
use Rattle.std.specs.Option.{ok_or}
use Rattle.gaz_register.specs.Drafts.{all_good, drafts_in, DraftValue}
use Rattle.gaz_register.specs.Laws.{ReadsRegisters, SortsBlocks, SortsCustodians}
use Rattle.gaz_register.specs.Lists.{by_key, each_two, place}
use Rattle.gaz_register.specs.Reading.{checked, custodian_from, custodians_from, document, register_of}
use Rattle.gaz_register.specs.Registers.{CustodianValue, RegisterValue, IsRegister, has_own_codes, is_custodian, is_disjoint}
use Rattle.gaz_register.specs.declared.fault.RegFault.TheVariants.{NotToml, Overlap, SameCode, TooMany}
use Rattle.gaz_register.proofs.EachTwo.{list_all-get_or}
use Rattle.gaz_register.proofs.Lawful.{custodians-lawful, if-ok, list_all-place, then-ok}
use Rattle.gaz_register.proofs.Registered.{codes-rise}

module _ {X : Type 0} (key : X → ℕ) where
  -- x is no higher than y
  abbrev low : X → X → Bool
  low x y = nat_le (key x) (key y)

  low-from-below : (x y : X) → nat_lt (key x) (key y) ≡ true → low x y ≡ true
  low-from-below x y e = grind (arith, nat_tests)

  low-from-not : (x y : X) → nat_lt (key x) (key y) ≡ false → low y x ≡ true
  low-from-not x y e = grind (arith, nat_tests)

  low-trans : (x y z : X) → low x y ≡ true → low y z ≡ true → low x z ≡ true
  low-trans x y z e f = grind (arith, nat_tests)

  lower : (x y : X) (ys : List X) → low x y ≡ true → list_all (low y) ys ≡ true → list_all (low x) ys ≡ true
  lower x y [] e h = refl
  lower x y (z ∷ zs) e h =
      let (here, more) = and_parts (low y z) (list_all (low y) zs) h in
      and_from (low x z) (list_all (low x) zs) (low-trans x y z e here) (lower x y zs e more)

  place-up : (x : X) (ys : List X) → each_two low ys ≡ true → each_two low (place key x ys) ≡ true
  place-up x [] h = refl
  place-up x (y ∷ ys) h =
      let (here, more) = and_parts (list_all (low y) ys) (each_two low ys) h in
      elim (cases_Bool (nat_lt (key x) (key y))) [
        | inl before ↦
            let less = low-from-below x y before in
            rw before (and_from _ _ (and_from (low x y) (list_all (low x) ys) less (lower x y ys less here)) h)
        | inr behind ↦
            rw behind (and_from _ _ (list_all-place key (low y) x ys ∙ rw (low-from-not x y behind, here) refl) (place-up x ys more))
      ]

  fold-up : (done xs : List X) → each_two low done ≡ true → each_two low (fold (λ sorted x. place key x sorted) done xs) ≡ true
  fold-up done [] h = h
  fold-up done (x ∷ xs) h = fold-up (place key x done) xs (place-up x done h)

  in-order : (xs : List X) → each_two low xs ≡ true → (i j : ℕ) (d : X) → i < j → j < length xs → low (get_or xs i d) (get_or xs j d) ≡ true
  in-order [] h i j d less k = absurd (omega arith)
  in-order (x ∷ xs) h i zero d less k = absurd (omega arith)
  in-order (x ∷ xs) h zero (suc j) d less k = list_all-get_or (low x) xs j d ((and_parts _ _ h).0) (omega arith)
  in-order (x ∷ xs) h (suc i) (suc j) d less k = in-order xs ((and_parts _ _ h).1) i j d (omega arith) (omega arith)

  at-most : (a b : ℕ) → nat_le a b ≡ true → a ≤ b
  at-most a b e = grind (arith, nat_tests)

  pub by_key-up : (xs : List X) → IsNonDecreasingBy key (by_key key xs)
  by_key-up xs = λ i j d le k. elim (cases_order i j) [
    | inl same ↦ rw same (omega arith)
    | inr (inl less) ↦ at-most _ _ (in-order (by_key key xs) (fold-up [] xs refl) i j d less k)
    | inr (inr more) ↦ absurd (omega arith)
  ]

  place-moves : (x : X) (ys : List X) → IsPermutation (x ∷ ys) (place key x ys)
  place-moves x [] = IsPermutation-refl (x ∷ [])
  place-moves x (y ∷ ys) = elim (cases_Bool (nat_lt (key x) (key y))) [
    | inl before ↦ rw before (IsPermutation-refl (x ∷ y ∷ ys))
    | inr behind ↦ rw behind (IsPermutation-trans (x ∷ y ∷ ys) (y ∷ x ∷ ys) (y ∷ place key x ys)
        (IsPermutation-sym (y ∷ x ∷ ys) (x ∷ y ∷ ys) (IsPermutation-middle (y ∷ []) x ys))
        (IsPermutation-cons y (x ∷ ys) (place key x ys) (place-moves x ys)))
  ]

  fold-moves : (done xs : List X) → IsPermutation (done ++ xs) (fold (λ sorted x. place key x sorted) done xs)
  fold-moves done [] = rw (append-nil done) (IsPermutation-refl done)
  fold-moves done (x ∷ xs) =
      IsPermutation-trans (done ++ x ∷ xs) (place key x done ++ xs) (fold (λ sorted x. place key x sorted) (place key x done) xs)
      (IsPermutation-trans (done ++ x ∷ xs) ((x ∷ done) ++ xs) (place key x done ++ xs)
      (IsPermutation-middle done x xs)
      (IsPermutation-append (x ∷ done) (place key x done) xs xs (place-moves x done) (IsPermutation-refl xs)))
      (fold-moves (place key x done) xs)

  pub by_key-moves : (xs : List X) → IsPermutation xs (by_key key xs)
  by_key-moves xs = fold-moves [] xs

pub sorts-blocks : SortsBlocks
sorts-blocks bs = (by_key-moves (λ (b : ℕ × ℕ). b.0) bs, by_key-up (λ (b : ℕ × ℕ). b.0) bs)

pub sorts-custodians : SortsCustodians
sorts-custodians cs = (by_key-moves (λ (c : CustodianValue). c.code) cs, by_key-up (λ (c : CustodianValue). c.code) cs)

custodians-up : (drafts : List DraftValue) (register : RegisterValue) → custodians_from drafts ≡ Ok register → IsNonDecreasingBy (λ c. c.code) register
unfolding custodians_from
custodians-up drafts register e =
    let code : CustodianValue → ℕ = λ c. c.code in
    then-ok (all_good (map custodian_from drafts)) _ register e (λ found those made.
    let same : by_key code found ≡ register = cc made in
    rw (← same) (by_key-up code found))

few-enough : (a n : ℕ) → nat_lt 400 a ≡ false → n ≡ a → n ≤ 400
few-enough a n h e = grind (arith, nat_tests)

checked-register : (register r : RegisterValue) → checked register ≡ Ok r → IsNonDecreasingBy (λ c. c.code) register → length register ≤ 400
    → list_all is_custodian register ≡ true → IsRegister r
unfolding checked
checked-register register r e up few lawful =
    if-ok (not (has_own_codes register)) SameCode _ r e (λ codes rest.
    if-ok (not (is_disjoint (λ b. b.uprn) register && is_disjoint (λ b. b.usrn) register)) Overlap (Ok register) r rest (λ apart made.
    let same : register ≡ r = cc made in
    let (uprn, usrn) = and_parts _ _ (not-false _ apart) in
    rw (← same) (record {
      few = few;
      codes_rise = codes-rise register up (not-false (has_own_codes register) codes);
      lawful = lawful;
      uprn_disjoint = uprn;
      usrn_disjoint = usrn;
    })))

pub reads-registers : ReadsRegisters
unfolding register_of
reads-registers text r e =
    then-ok (ok_or (document text) NotToml) _ r e (λ members here rest.
    then-ok (drafts_in members) _ r rest (λ drafts there more.
    if-ok (nat_lt 400 (length drafts)) TooMany _ r more (λ many last.
    then-ok (custodians_from drafts) checked r last (λ register those made.
    let lawful = custodians-lawful drafts register those in
    checked-register register r made (custodians-up drafts register those) (few-enough (length drafts) (length register) many lawful.count) lawful.each))))
