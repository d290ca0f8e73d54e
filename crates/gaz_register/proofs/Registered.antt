-- A register and its indexes.
use Rattle.std.proofs.Common.{◌≡◌, ◌⊎◌, inl, inr, ℕ, ◌<◌, ◌≤◌, true, false, List, length, option_map, Ok, Err, refl, sym, ap, ◌∙◌, arith}
use Rattle.std.specs.Prelude.{◌==◌, ◌||◌, not, nat_lt}
use Rattle.std.proofs.lemmas.Bool.Decides.{nat_tests}
use Rattle.std.proofs.lemmas.List.Sorted.{All-permutation, IsNonDecreasingBy-from_all_adjacent, IsPermutation-refl}
use Rattle.std.specs.List.{All, AllAdjacentBelow, find, list_all}
use Rattle.std.specs.List.Sorted.{IsNonDecreasingBy, IsPermutation}
use Rattle.gaz_ids.specs.Limits.{last_uprn, last_usrn}
use Rattle.gaz_register.specs.Lists.{each_two}
use Rattle.gaz_register.specs.Registers.{Blocks, CustodianValue, RegisterValue, IsRegister, has_own_codes, is_custodian, is_disjoint, owner_in}
use Rattle.gaz_register.specs.Indexes.{IsIndex, Rises, blocks_in, holdings_of, is_in}
use Rattle.gaz_register.specs.Drafts.{OrMemory}
use Rattle.gaz_register.specs.Reading.{checked}
use Rattle.gaz_register.specs.declared.fault.RegFault.{RegFault}
use Rattle.gaz_register.specs.declared.fault.RegFault.TheVariants.{Memory, Overlap, SameCode}
use Rattle.gaz_register.specs.declared.index.Holding.{Holding}
use Rattle.gaz_register.specs.declared.index.Kind.{Kind}
use Rattle.gaz_register.specs.declared.index.Kind.TheVariants.{Uprn, Usrn}
use Rattle.gaz_register.proofs.EachTwo.{Everywhere, adjacent-each_two, apart, apart-comm, each_two-adjacent, each_two-agree, each_two-not, everywhere}
use Rattle.gaz_register.proofs.Owners.{disjoint-is, find-permuted, once-apart, owner-found}
use Rattle.gaz_register.proofs.Upward.{holdings-upward, uprn-blocks, usrn-blocks}

differ : (a b : ℕ) → not (a == b) ≡ (nat_lt a b || nat_lt b a)
differ a b = grind (arith, nat_tests)

own-codes : (register : RegisterValue) → has_own_codes register ≡ each_two (apart (λ c. c.code) (λ c. c.code)) register
own-codes register = each_two-agree (λ a b. not (a.code == b.code)) (apart (λ c. c.code) (λ c. c.code)) (λ a b. differ a.code b.code) register

pub codes-own : (register : RegisterValue) → AllAdjacentBelow (λ a b. a.code < b.code) register (length register) → has_own_codes register ≡ true
codes-own register up = own-codes register
    ∙ each_two-adjacent (λ c. c.code) (λ c. c.code) register register (IsPermutation-refl register) (λ k d h. omega arith) up

pub codes-shared : (register : RegisterValue) → IsNonDecreasingBy (λ c. c.code) register
    → (AllAdjacentBelow (λ a b. a.code < b.code) register (length register) → ⊥) → has_own_codes register ≡ false
codes-shared register sorted no-way = own-codes register
    ∙ each_two-not (λ c. c.code) (λ c. c.code) register register (IsPermutation-refl register) (λ k d h. omega arith) sorted no-way

pub codes-rise : (register : RegisterValue) → IsNonDecreasingBy (λ c. c.code) register → has_own_codes register ≡ true → AllAdjacentBelow (λ a b. a.code < b.code) register (length register)
codes-rise register sorted e =
    adjacent-each_two (λ c. c.code) (λ c. c.code) register register (IsPermutation-refl register) (λ k d h. omega arith) sorted (sym (own-codes register) ∙ e)

pub codes-sorted : (register : RegisterValue) → IsRegister register → IsNonDecreasingBy (λ c. c.code) register
codes-sorted register lawful = IsNonDecreasingBy-from_all_adjacent (λ (c : CustodianValue). c.code) register (λ k d h. let less = lawful.codes_rise k d h in omega arith)

upward-in : (kind : Kind) (register : RegisterValue) → list_all is_custodian register ≡ true → All (λ h. h.first ≤ h.last) (holdings_of (blocks_in kind) register)
upward-in Uprn register lawful = holdings-upward (λ b. b.uprn) last_uprn uprn-blocks register lawful
upward-in Usrn register lawful = holdings-upward (λ b. b.usrn) last_usrn usrn-blocks register lawful

upward-sorted : (kind : Kind) (register : RegisterValue) (holdings : List Holding) → list_all is_custodian register ≡ true → IsPermutation (holdings_of (blocks_in kind) register) holdings
    → All (λ h. h.first ≤ h.last) holdings
upward-sorted kind register holdings lawful same =
    All-permutation (λ (h : Holding). h.first ≤ h.last) (holdings_of (blocks_in kind) register) holdings same (upward-in kind register lawful)

pub rises-disjoint : (kind : Kind) (register : RegisterValue) (holdings : List Holding) → list_all is_custodian register ≡ true → IsPermutation (holdings_of (blocks_in kind) register) holdings
    → Rises holdings → is_disjoint (blocks_in kind) register ≡ true
rises-disjoint kind register holdings lawful same up =
    disjoint-is (blocks_in kind) register
    ∙ each_two-adjacent (λ h. h.first) (λ h. h.last) (holdings_of (blocks_in kind) register) holdings same (upward-sorted kind register holdings lawful same) up

pub overlaps : (kind : Kind) (register : RegisterValue) (holdings : List Holding) → list_all is_custodian register ≡ true → IsPermutation (holdings_of (blocks_in kind) register) holdings
    → IsNonDecreasingBy (λ h. h.first) holdings → (Rises holdings → ⊥) → is_disjoint (blocks_in kind) register ≡ false
overlaps kind register holdings lawful same sorted no-way =
    disjoint-is (blocks_in kind) register
    ∙ each_two-not (λ h. h.first) (λ h. h.last) (holdings_of (blocks_in kind) register) holdings same (upward-sorted kind register holdings lawful same) sorted no-way

-- what a look-up in an index finds is the owner
pub owner-indexed : (kind : Blocks → List (ℕ × ℕ)) (register : RegisterValue) (holdings : List Holding) (n : ℕ) → IsIndex kind register holdings → is_disjoint kind register ≡ true
    → option_map (λ h. h.owner) (find (is_in n) holdings) ≡ owner_in kind register n
owner-indexed kind register holdings n index disjoint =
    let flat = holdings_of kind register in
    let low : Holding → ℕ = λ h. h.first in
    let high : Holding → ℕ = λ h. h.last in
    let e : Everywhere (apart low high) flat = record { at = everywhere (apart low high) (apart-comm low high) flat (sym (disjoint-is kind register) ∙ disjoint) } in
    ap (option_map (λ (h : Holding). h.owner)) (sym (find-permuted (is_in n) flat holdings index.same (once-apart n flat e)))
    ∙ owner-found kind register n

-- ---- the faults of a check

pub same-code : (register : RegisterValue) → has_own_codes register ≡ false → OrMemory (Err SameCode) (checked register)
unfolding checked
same-code register e = inl (rw e refl)

pub overlap-uprn : (fault : RegFault) (register : RegisterValue) → has_own_codes register ≡ true
    → (fault ≡ Memory) ⊎ ((fault ≡ Overlap) × (is_disjoint (λ b. b.uprn) register ≡ false)) → OrMemory (Err fault) (checked register)
unfolding checked
overlap-uprn fault register codes (inl e) = inr (ap Err e)
overlap-uprn fault register codes (inr e) = inl (rw (codes, e.0, e.1) refl)

pub overlap-usrn : (fault : RegFault) (register : RegisterValue) → has_own_codes register ≡ true → is_disjoint (λ b. b.uprn) register ≡ true
    → (fault ≡ Memory) ⊎ ((fault ≡ Overlap) × (is_disjoint (λ b. b.usrn) register ≡ false)) → OrMemory (Err fault) (checked register)
unfolding checked
overlap-usrn fault register codes uprn (inl e) = inr (ap Err e)
overlap-usrn fault register codes uprn (inr e) = inl (rw (codes, uprn, e.0, e.1) refl)

pub no-fault : (register : RegisterValue) → has_own_codes register ≡ true → is_disjoint (λ b. b.uprn) register ≡ true → is_disjoint (λ b. b.usrn) register ≡ true
    → OrMemory (Ok register) (checked register)
unfolding checked
no-fault register codes uprn usrn = inl (rw (codes, uprn, usrn) refl)
