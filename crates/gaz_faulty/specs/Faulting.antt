-- A keeper around another, as it is seen.
use Rattle.std.specs.Prelude.{◌≡◌, ◌≤◌, ⊤, ℕ, Bool, true, false, ◌+◌, ◌-◌, ◌^◌, ◌==◌, None, Err}
use Rattle.std.proofs.Common.{eqb-true, le-add_left, le_of_eq, le_trans, sym}
use Rattle.gaz_keeper.specs.Keeper.{Broken, Content, Goes, Idle, IsLawful, Open, Progress, Seen}
use Rattle.gaz_keeper.specs.Keeper.{after_abandon}
use Rattle.gaz_keeper.specs.declared.fault.ShelfFault.{ShelfFault}

-- the progress, where the outer keeper says itself whether a judgement is broken
abbrev pub progress_around : Bool → Progress → Progress
progress_around true p = Broken
progress_around false Idle = Idle
progress_around false (Open c) = Open c
progress_around false Broken = Idle

-- the content, where a working view stands only while a judgement is open
abbrev pub content_around : Progress → Content → Content
content_around Idle k = after_abandon k
content_around (Open c) k = k
content_around Broken k = after_abandon k

-- it is lawful where the inner one's is
pub lawful_around : (p : Progress) (k : Content) → IsLawful k → IsLawful (content_around p k)
lawful_around Idle k all = record { views = all.views; working = all.views 0 0 }
lawful_around (Open c) k all = all
lawful_around Broken k all = record { views = all.views; working = all.views 0 0 }

pub full_around : (inner own : ℕ) → (own == 2 ^ 64 - 1) ≡ true → 2 ^ 64 - 1 ≤ inner + own
full_around inner own full =
    le_trans (le_of_eq (sym (eqb-true own (2 ^ 64 - 1) full))) (le-add_left own inner)

-- the keeper around another, that holds a judgement as broken or not and failed so often itself
abbrev pub around : Seen → Bool → ℕ → Seen
around s broken failures = record {
  content = content_around (progress_around broken s.progress) s.content;
  stands = s.stands;
  lawful = λ stood. lawful_around (progress_around broken s.progress) s.content (s.lawful stood);
  trusted = s.trusted;
  unharmed = s.unharmed;
  progress = progress_around broken s.progress;
  failures = s.failures + failures;
  is_full = failures == 2 ^ 64 - 1;
  full = full_around s.failures failures;
  leaves = s.leaves;
  whole = s.whole;
  left_lawful = s.left_lawful;
}

-- a judgement over the inner keeper's content broke off, and a failure was counted
abbrev pub BreaksOff : Content → Seen → Seen → ShelfFault → Type 0
BreaksOff k old new fault = Goes {T = Unit {0}} old new (Err fault) ⊤ (after_abandon k) None Idle
