-- What a keeper in memory keeps.
use Rattle.std.specs.Prelude.{◌≡◌, ◌≤◌, true, ℕ, ◌==◌, ◌^◌, ◌-◌, ⊤, List}
use Rattle.std.proofs.Common.{eqb-true, le_of_eq, sym}
use Rattle.gaz_views.specs.Lawful.{IsLawfulView}
use Rattle.gaz_views.specs.View.{View, empty_view}
use Rattle.gaz_views.specs.Accounts.{Account}
use Rattle.gaz_shelf.specs.Accounts.{AreLawful, account_of, board_of}
use Rattle.gaz_keeper.specs.Keeper.{Broken, Content, Idle, IsLawful, Open, Progress, Seen}
use Rattle.gaz_shelf.specs.declared.mem_shelf.Judging.{Judging}
use Rattle.gaz_shelf.specs.declared.mem_shelf.Judging.TheVariants as judging
use Rattle.gaz_shelf.specs.declared.mem_shelf.MemShelf.{MemShelf}

abbrev pub progress_of : Judging → Progress
progress_of judging.Idle = Idle
progress_of (judging.Open c) = Open c
progress_of judging.Broken = Broken

-- the working view of the custodian that is being judged
abbrev pub working_of : Judging → List (ℕ × Account) → View
working_of judging.Idle es = empty_view
working_of (judging.Open c) es = (account_of es c).working
working_of judging.Broken es = empty_view

abbrev pub content_in : MemShelf → Content
content_in s = record {
  files = s.files;
  board = board_of s.accounts.by_code.entries;
  working = working_of s.judging s.accounts.by_code.entries;
}

-- it is lawful, since each account is
lawful_working : (j : Judging) (es : List (ℕ × Account)) → AreLawful es
    → IsLawfulView (working_of j es)
lawful_working judging.Idle es all = (all 0).judged 0
lawful_working (judging.Open c) es all = (all c).working
lawful_working judging.Broken es all = (all 0).judged 0

pub lawful_in : (s : MemShelf) → IsLawful (content_in s)
lawful_in s = record {
  views = λ c volume. (s.accounts.lawful c).judged volume;
  working = lawful_working s.judging s.accounts.by_code.entries s.accounts.lawful;
}

pub full_in : (failures : ℕ) → (failures == 2 ^ 64 - 1) ≡ true → 2 ^ 64 - 1 ≤ failures
full_in failures full = le_of_eq (sym (eqb-true failures (2 ^ 64 - 1) full))

-- a keeper in memory, as it is seen: it always stands for its content, and nobody else can write on
-- it; a stop leaves nothing of it
abbrev pub seen_in : MemShelf → Seen
seen_in s = record {
  content = content_in s;
  stands = ⊤;
  lawful = λ _. lawful_in s;
  trusted = ⊤;
  unharmed = ⊤;
  progress = progress_of s.judging;
  failures = s.failures;
  is_full = s.failures == 2 ^ 64 - 1;
  full = full_in s.failures;
  leaves = λ _. ⊥;
  whole = ⊤;
  left_lawful = λ _ _ never. absurd never;
}
