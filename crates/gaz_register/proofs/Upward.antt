-- The blocks of lawful custodians don't end before they begin.
use Rattle.std.proofs.Common.{◌≡◌, ℕ, ◌≤◌, true, List, [], ◌∷◌, map, arith}
use Rattle.std.specs.Prelude.{◌&&◌, nat_le}
use Rattle.std.proofs.lemmas.Bool.{and_parts}
use Rattle.std.proofs.lemmas.Bool.Decides.{nat_tests}
use Rattle.std.proofs.lemmas.List.Elements.{All-nil, All-cons, All-append}
use Rattle.std.specs.List.{All, list_all}
use Rattle.gaz_ids.specs.Limits.{last_uprn, last_usrn}
use Rattle.gaz_register.specs.Registers.{Blocks, CustodianValue, RegisterValue, are_blocks, is_custodian}
use Rattle.gaz_register.specs.Indexes.{holding, holdings_of}
use Rattle.gaz_register.specs.declared.index.Holding.{Holding}

pub uprn-blocks : (c : CustodianValue) → is_custodian c ≡ true → are_blocks last_uprn c.own.uprn ≡ true
uprn-blocks c e = (and_parts _ _ ((and_parts _ _ e).0)).1

pub usrn-blocks : (c : CustodianValue) → is_custodian c ≡ true → are_blocks last_usrn c.own.usrn ≡ true
usrn-blocks c e = (and_parts _ _ e).1

upward-one : (a b most : ℕ) → (nat_le 1 a && nat_le a b && nat_le b most) ≡ true → a ≤ b
upward-one a b most e = grind (arith, nat_tests)

abbrev IsUpward : Holding → Type 0
IsUpward h = h.first ≤ h.last

upward-own : (o most : ℕ) (bs : List (ℕ × ℕ)) → list_all (λ b. nat_le 1 b.0 && nat_le b.0 b.1 && nat_le b.1 most) bs ≡ true → All IsUpward (map (holding o) bs)
upward-own o most [] e = All-nil IsUpward
upward-own o most (b ∷ bs) e =
    All-cons IsUpward (holding o b) (map (holding o) bs) (upward-one b.0 b.1 most ((and_parts _ _ e).0)) (upward-own o most bs ((and_parts _ _ e).1))

pub holdings-upward : (kind : Blocks → List (ℕ × ℕ)) (most : ℕ) → ((c : CustodianValue) → is_custodian c ≡ true → are_blocks most (kind c.own) ≡ true)
    → (register : RegisterValue) → list_all is_custodian register ≡ true → All (λ h. h.first ≤ h.last) (holdings_of kind register)
holdings-upward kind most blocks [] e = All-nil IsUpward
holdings-upward kind most blocks (c ∷ cs) e =
    All-append IsUpward (map (holding c.code) (kind c.own)) (holdings_of kind cs)
    (upward-own c.code most (kind c.own) ((and_parts _ _ (blocks c ((and_parts _ _ e).0))).1))
    (holdings-upward kind most blocks cs ((and_parts _ _ e).1))
