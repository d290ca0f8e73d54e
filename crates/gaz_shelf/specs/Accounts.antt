-- The accounts of all custodians.
use Rattle.std.specs.Prelude.{ℕ, List, unwrap_or}
use Rattle.std.specs.BTreeMap.{is_at}
use Rattle.std.specs.Map.{lookup}
use Rattle.std.specs.Ordering.{nat_cmp}
use Rattle.gaz_views.specs.Judgements.{view_behind}
use Rattle.gaz_views.specs.Lawful.{IsLawfulView, IsLawfulView-prop}
use Rattle.gaz_views.specs.Accounts.{Account, empty_account}
use Rattle.gaz_keeper.specs.Board.{Board}

-- a custodian without an account has an empty one
abbrev pub account_of : List (ℕ × Account) → ℕ → Account
account_of es c = unwrap_or (lookup (is_at (nat_cmp c)) es) empty_account

-- the judgements in them
abbrev pub board_of : List (ℕ × Account) → Board
board_of es = λ c. (account_of es c).judged

-- each view of a custodian is lawful
pub record IsLawfulAccount (a : Account) : Type 0 where
  pub judged : (volume : ℕ) → IsLawfulView (view_behind a.judged volume)
  pub working : IsLawfulView a.working

abbrev pub AreLawful : List (ℕ × Account) → Type 0
AreLawful es = (c : ℕ) → IsLawfulAccount (account_of es c)

-- they are so in one way
IsLawfulAccount-prop : (a : Account) → IsProp (IsLawfulAccount a)
IsLawfulAccount-prop a = λ p q i. record {
  judged = λ volume. IsLawfulView-prop _ (p.judged volume) (q.judged volume) i;
  working = IsLawfulView-prop a.working p.working q.working i;
}

pub AreLawful-prop : (es : List (ℕ × Account)) → IsProp (AreLawful es)
AreLawful-prop es = λ p q i c. IsLawfulAccount-prop (account_of es c) (p c) (q c) i
