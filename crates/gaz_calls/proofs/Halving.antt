-- What is known of the judged volumes while volumes are looked at.
use Rattle.std.proofs.Common.{◌≡◌, ◌≤◌, ◌<◌, ◌∙◌, ℕ, Bool, true, false, Result, Ok, arith, refl, sym}
use Rattle.std.specs.Prelude.{⊤, nat_le}
use Rattle.std.proofs.lemmas.Bool.{leb-false, leb-true}
use Rattle.sqlite.specs.Effect.{Database}
use Rattle.sqlite_trees.specs.declared.store.Store.{Ghosts}
use Rattle.gaz_keeper.specs.declared.fault.ShelfFault.{ShelfFault}
use Rattle.gaz_tables.specs.Schema.{received}
use Rattle.gaz_tables.specs.Tables.{rows_of}
use Rattle.gaz_kept.specs.Files.{reached_in}
use Rattle.gaz_calls.specs.Asking.{AsksTables}
use Rattle.gaz_calls.specs.declared.tables.Tables.{Tables}
use Rattle.gaz_calls.proofs.Answered.{answered_ok, asked_step}
use Rattle.gaz_calls.proofs.Composing.{asked_nothing}
use Rattle.gaz_calls.proofs.Waiting.{reached_within}

-- so many volumes are judged, or more
abbrev pub AtLeast : ℕ → ℕ → Database → ⊤ → Type 0
AtLeast c low db x = low ≤ reached_in (rows_of db received) c

-- the judged volumes end at the first of two or before the second
abbrev pub Within : ℕ → Database → ℕ × ℕ → Type 0
Within c db b = (b.0 ≤ reached_in (rows_of db received) c) × (reached_in (rows_of db received) c < b.1)

-- they do at these
abbrev pub Between : ℕ → ℕ → ℕ → Database → ⊤ → Type 0
Between c low beyond db x = Within c db (low, beyond)

-- whether a volume is one of them
abbrev pub IsReached : ℕ → ℕ → Database → Bool → Type 0
IsReached c volume db b = b ≡ nat_le volume (reached_in (rows_of db received) c)

module _ {S : Type 0} {store : Ghosts S} where
  -- ---- a volume of twice the number, as long as it is judged

  pub at_first : (t : Tables S store) (c : ℕ) → AsksTables t t (Ok tt) (AtLeast c 0)
  at_first t c = asked_nothing t tt (AtLeast c 0) (λ db kept. omega arith)

  module _ (old mid new : Tables S store) (c low next : ℕ) (one : Result Bool ShelfFault)
      (before : AsksTables old mid (Ok tt) (AtLeast c low)) (asks : AsksTables mid new one (IsReached c next)) where
    pub goes_further : (b : Bool) → one ≡ Ok b → b ≡ true → AsksTables old new (Ok tt) (AtLeast c next)
    goes_further b is held = asked_step old mid new (Ok tt) one b tt (AtLeast c low) (IsReached c next) (AtLeast c next) before asks is
        (λ db kept was told. leb-true next (reached_in (rows_of db received) c) (sym told ∙ held))

    pub goes_past : (b : Bool) → one ≡ Ok b → b ≡ false → AsksTables old new (Ok (low, next)) (Within c)
    goes_past b is past = asked_step old mid new (Ok tt) one b (low, next) (AtLeast c low) (IsReached c next) (Within c) before asks is
        (λ db kept was told. (was, leb-false next (reached_in (rows_of db received) c) (sym told ∙ past)))

  -- no custodian has more
  pub at_last : (old new : Tables S store) (c low : ℕ) → AsksTables old new (Ok tt) (AtLeast c low) → AsksTables old new (Ok (low, 1_000_000)) (Within c)
  at_last old new c low before = answered_ok old new (Ok tt) tt (low, 1_000_000) (AtLeast c low) (Within c) before refl (λ db kept was. let within = reached_within db kept c in (was, omega (arith, within)))

  -- ---- half of what is left

  pub bounded : (old new : Tables S store) (c : ℕ) (one : Result (ℕ × ℕ) ShelfFault) (b : ℕ × ℕ) → AsksTables old new one (Within c) → one ≡ Ok b → AsksTables old new (Ok tt) (Between c b.0 b.1)
  bounded old new c one b asks is = answered_ok old new one b tt (Within c) (Between c b.0 b.1) asks is (λ db kept was. was)

  module _ (old mid new : Tables S store) (c low beyond middle : ℕ) (one : Result Bool ShelfFault)
      (before : AsksTables old mid (Ok tt) (Between c low beyond)) (asks : AsksTables mid new one (IsReached c middle)) where
    pub is_reached : (b : Bool) → one ≡ Ok b → b ≡ true → AsksTables old new (Ok tt) (Between c middle beyond)
    is_reached b is held = asked_step old mid new (Ok tt) one b tt (Between c low beyond) (IsReached c middle) (Between c middle beyond) before asks is
        (λ db kept was told. (leb-true middle (reached_in (rows_of db received) c) (sym told ∙ held), was.1))

    pub is_beyond : (b : Bool) → one ≡ Ok b → b ≡ false → AsksTables old new (Ok tt) (Between c low middle)
    is_beyond b is past = asked_step old mid new (Ok tt) one b tt (Between c low beyond) (IsReached c middle) (Between c low middle) before asks is
        (λ db kept was told. (was.0, leb-false middle (reached_in (rows_of db received) c) (sym told ∙ past)))
