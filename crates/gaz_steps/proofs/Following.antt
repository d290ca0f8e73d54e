-- Whom a look-up asks next, turn after turn.
use Rattle.std.proofs.Common.{◌≡◌, ◌≤◌, ◌<◌, ◌+◌, ◌-◌, ℕ, suc, Bool, sym, ap, ◌∙◌, arith}
use Rattle.std.specs.Option.{option_and_then, option_or}
use Rattle.std.specs.Prelude.{Option, Some, None}
use Rattle.gaz_chains.specs.Finding.{Asked, Here, Nobody, Next, asked, found}
use Rattle.gaz_extract.specs.Lookups.{said_by}
use Rattle.gaz_extract.specs.declared.found.Found.{Found}
use Rattle.gaz_keeper.specs.Board.{Board}
use Rattle.gaz_register.specs.Registers.{RegisterValue, owner_of_uprn}
use Rattle.gaz_views.specs.declared.custody.Custody.{Custody}
use Rattle.gaz_steps.specs.Chains.{holder_from}
use Rattle.gaz_steps.specs.Owners.{said_by_known, told_by_holder}

module _ (shown : ℕ → Option Custody) (own : ℕ → Bool) where
  abbrev after_asking : ℕ → ℕ → Asked → Option ℕ
  after_asking turns c answer = elim answer [ Here ↦ Some c | Nobody ↦ None | Next to ↦ found shown own turns to ]

  one_turn : (n turn c : ℕ) (answer : Asked) → turn < n → answer ≡ asked shown (own c) (shown c) → found shown own (n - turn) c ≡ after_asking (n - (turn + 1)) c answer
  one_turn n turn c answer more is =
      let one : n - turn ≡ suc (n - (turn + 1)) = omega (arith, more) in
      ap (λ turns. found shown own turns c) one ∙ ap (after_asking (n - (turn + 1)) c) (sym is)

  pub found_here : (n turn c : ℕ) → turn < n → Here ≡ asked shown (own c) (shown c) → Some c ≡ found shown own (n - turn) c
  found_here n turn c more is = sym (one_turn n turn c Here more is)

  pub found_nobody : (n turn c : ℕ) → turn < n → Nobody ≡ asked shown (own c) (shown c) → None ≡ found shown own (n - turn) c
  found_nobody n turn c more is = sym (one_turn n turn c Nobody more is)

  pub found_next : (n turn c to : ℕ) → turn < n → Next to ≡ asked shown (own c) (shown c) → found shown own (n - (turn + 1)) to ≡ found shown own (n - turn) c
  found_next n turn c to more is = sym (one_turn n turn c (Next to) more is)

  pub found_never : (n turn c : ℕ) → n ≤ turn → None ≡ found shown own (n - turn) c
  found_never n turn c last = let none : n - turn ≡ 0 = omega (arith, last) in sym (ap (λ turns. found shown own turns c) none)

-- where the owner has nothing to say, what the one says that is found further on
pub told_further : (B : Board) (register : RegisterValue) (uprn owner : ℕ) (u : Option Found) → owner_of_uprn register uprn ≡ Some owner → said_by B register uprn owner ≡ None
    → u ≡ option_and_then (said_by_known B register uprn) (holder_from B uprn owner) → u ≡ told_by_holder B register uprn
told_further B register uprn owner u own none is =
    let further = λ (w : ℕ). option_and_then (said_by_known B register uprn) (holder_from B uprn w) in
    is
    ∙ sym (ap (λ o. option_and_then (λ w. option_or (said_by B register uprn w) (further w)) o) own
    ∙ ap (λ o. option_or o (further owner)) none)
