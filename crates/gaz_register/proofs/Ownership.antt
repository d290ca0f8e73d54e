-- A number is in the own blocks of its owner, and of nobody else.
use Rattle.std.proofs.Common.{◌≡◌, inl, inr, ℕ, Bool, true, false, List, [], ◌∷◌, ◌++◌, Some, refl, sym, ap, ◌∙◌, arith}
use Rattle.std.specs.Prelude.{◌==◌, ◌&&◌, ◌||◌, not, nat_le, nat_lt}
use Rattle.std.proofs.lemmas.Bool.{and_parts, cases_Bool, eqb-true, or_left, or_right, true≢false}
use Rattle.std.proofs.lemmas.Bool.Decides.{nat_tests}
use Rattle.std.proofs.lemmas.List.Folds.{list_all-append, list_any-append}
use Rattle.std.specs.List.{list_all, list_any}
use Rattle.gaz_register.specs.Laws.{OneOwner}
use Rattle.gaz_register.specs.Lists.{each_two}
use Rattle.gaz_register.specs.Registers.{Blocks, CustodianValue, RegisterValue, all_blocks, blocks_of, has_own_codes, is_apart, is_disjoint, no_blocks, owner_in, within}
use Rattle.gaz_register.proofs.Registered.{codes-own}

abbrev in_block : ℕ → (ℕ × ℕ) → Bool
in_block n b = nat_le b.0 n && nat_le n b.1

elsewhere : (a b c d n : ℕ) → (nat_le a n && nat_le n b) ≡ true → (nat_lt b c || nat_lt d a) ≡ true → (nat_le c n && nat_le n d) ≡ false
elsewhere a b c d n e f = grind (arith, nat_tests)

-- a number of a block is in none that is apart from it
apart-from : (b : ℕ × ℕ) (n : ℕ) (rest : List (ℕ × ℕ)) → in_block n b ≡ true → list_all (is_apart b) rest ≡ true → within rest n ≡ false
apart-from b n [] here e = refl
apart-from b n (c ∷ cs) here e =
    let (first, more) = and_parts (is_apart b c) (list_all (is_apart b) cs) e in
    rw (elsewhere b.0 b.1 c.0 c.1 n here first) (apart-from b n cs here more)

none-beyond : (bs rest : List (ℕ × ℕ)) (n : ℕ) → each_two is_apart (bs ++ rest) ≡ true → within bs n ≡ true → within rest n ≡ false
none-beyond [] rest n e h = cc h
none-beyond (b ∷ bs) rest n e h =
    let (here, more) = and_parts (list_all (is_apart b) (bs ++ rest)) (each_two is_apart (bs ++ rest)) e in
    elim (cases_Bool (in_block n b)) [
      | inl mine ↦ apart-from b n rest mine ((and_parts _ _ (sym (list_all-append (is_apart b) bs rest) ∙ here)).1)
      | inr other ↦ none-beyond bs rest n more (rw other at h)
    ]

each_two-right : (bs rest : List (ℕ × ℕ)) → each_two is_apart (bs ++ rest) ≡ true → each_two is_apart rest ≡ true
each_two-right [] rest e = e
each_two-right (b ∷ bs) rest e = each_two-right bs rest ((and_parts _ _ e).1)

module _ (kind : Blocks → List (ℕ × ℕ)) (none : kind no_blocks ≡ []) where
  -- the blocks of a custodian are among all blocks
  among-all : (cs : RegisterValue) (code n : ℕ) → within (kind (blocks_of cs code)) n ≡ true → within (all_blocks kind cs) n ≡ true
  among-all [] code n h = cc (rw none at h)
  among-all (c ∷ cs) code n h = elim (cases_Bool (c.code == code)) [
    | inl same ↦ list_any-append (in_block n) (kind c.own) (all_blocks kind cs) ∙ or_left _ _ (rw same at h)
    | inr other ↦ list_any-append (in_block n) (kind c.own) (all_blocks kind cs) ∙ or_right _ _ (among-all cs code n (rw other at h))
  ]

  some-code : (c : CustodianValue) (code : ℕ) → Some c.code ≡ Some code → (c.code == code) ≡ true
  some-code c code e = let same : c.code ≡ code = cc e in grind (arith, nat_tests)

  -- an owner's code is that of a custodian
  owner-known : (cs : RegisterValue) (n code : ℕ) → owner_in kind cs n ≡ Some code → list_any (λ d. d.code == code) cs ≡ true
  owner-known [] n code e = cc e
  owner-known (c ∷ cs) n code e = elim (cases_Bool (within (kind c.own) n)) [
    | inl mine ↦ or_left _ _ (some-code c code (rw mine at e))
    | inr other ↦ or_right _ _ (owner-known cs n code (rw other at e))
  ]

  not-shared : (c : CustodianValue) (cs : RegisterValue) (code : ℕ) → (c.code == code) ≡ true → list_all (λ d. not (c.code == d.code)) cs ≡ true → list_any (λ d. d.code == code) cs ≡ true → ⊥
  not-shared c [] code e own there = cc there
  not-shared c (d ∷ ds) code e own there =
      let (here, more) = and_parts (not (c.code == d.code)) (list_all (λ (d : CustodianValue). not (c.code == d.code)) ds) own in
      elim (cases_Bool (d.code == code)) [
        | inl same ↦ clash c.code d.code code e same here
        | inr other ↦ not-shared c ds code e more (rw other at there)
      ]
    where
      clash : (a b x : ℕ) → (a == x) ≡ true → (b == x) ≡ true → not (a == b) ≡ true → ⊥
      clash a b x p q r = grind (arith, nat_tests)

  pub owns : (cs : RegisterValue) (code n : ℕ) → has_own_codes cs ≡ true → is_disjoint kind cs ≡ true
      → ((within (kind (blocks_of cs code)) n ≡ true) → (owner_in kind cs n ≡ Some code)) × ((owner_in kind cs n ≡ Some code) → (within (kind (blocks_of cs code)) n ≡ true))
  owns [] code n codes apart = (λ h. cc (rw none at h), λ e. cc e)
  owns (c ∷ cs) code n codes apart =
      let (own, others) = and_parts (list_all (λ (d : CustodianValue). not (c.code == d.code)) cs) (has_own_codes cs) codes in
      let rest = each_two-right (kind c.own) (all_blocks kind cs) apart in
      let later = owns cs code n others rest in
      elim (cases_Bool (c.code == code)) [
        | inl same ↦ elim (cases_Bool (within (kind c.own) n)) [
          | inl mine ↦ rw (same, mine) (λ h. ap Some (eqb-true c.code code same), λ e. refl)
          | inr not-mine ↦ rw (same, not-mine) (λ h. cc h, λ e. absurd (not-shared c cs code same own (owner-known cs n code e)))
        ]
        | inr other ↦ elim (cases_Bool (within (kind c.own) n)) [
          | inl mine ↦ rw (other, mine) (
            λ h. absurd (true≢false (sym (among-all cs code n h) ∙ none-beyond (kind c.own) (all_blocks kind cs) n apart mine)),
            λ e. absurd (true≢false (sym (some-code c code e) ∙ other)),
          )
          | inr not-mine ↦ rw (other, not-mine) later
        ]
      ]

pub one-owner : OneOwner
one-owner r lawful code n =
    let codes = codes-own r lawful.codes_rise in
    (owns (λ b. b.uprn) refl r code n codes lawful.uprn_disjoint, owns (λ b. b.usrn) refl r code n codes lawful.usrn_disjoint)
