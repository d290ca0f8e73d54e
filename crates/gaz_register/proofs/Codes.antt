-- The codes that a register has.
use Rattle.std.proofs.Common.{◌≡◌, ℕ, cond, Bool, true, false, [], ◌∷◌, Some, None, inl, inr, refl, sym, ◌∙◌, ap, true≢false, eqb-true}
use Rattle.std.specs.Prelude.{◌==◌}
use Rattle.std.specs.List.{list_all}
use Rattle.std.proofs.lemmas.Bool.{cases_Bool, and_parts}
use Rattle.gaz_ids.specs.Numbers.{in_range, of_id}
use Rattle.gaz_register.specs.Names.{is_name}
use Rattle.gaz_register.specs.Registers.{RegisterValue, is_custodian, knows}

no_code : (n : ℕ) → None ≡ of_id 1 9999 n → in_range 1 9999 n ≡ false
no_code n e = none_from (in_range 1 9999 n) e
  where
    none_from : (b : Bool) → None ≡ cond b (Some n) None → b ≡ false
    none_from true h = cc
    none_from false h = refl

-- a number out of range is no custodian's code
pub unknown_code : (r : RegisterValue) (n : ℕ) → list_all is_custodian r ≡ true → None ≡ of_id 1 9999 n → knows r n ≡ false
unknown_code [] n lawful e = refl
unknown_code (c ∷ cs) n lawful e =
    let (here, others) = and_parts (is_custodian c) (list_all is_custodian cs) lawful in
    let code = (and_parts (in_range 1 9999 c.code) (is_name c.name) (and_parts _ _ (and_parts _ _ here).0).0).0 in
    elim (cases_Bool (c.code == n)) [
      | inl same ↦ absurd (true≢false (sym code ∙ ap (in_range 1 9999) (eqb-true c.code n same) ∙ no_code n e))
      | inr other ↦ rw other (unknown_code cs n others e)
    ]
