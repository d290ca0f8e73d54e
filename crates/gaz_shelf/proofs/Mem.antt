-- What a keeper in memory keeps while a judgement is in progress.
use Rattle.std.proofs.Common.{◌≡◌, ◌∙◌, ℕ, List, refl, sym, ap, subst}
use Rattle.std.proofs.Math.Path.{fun_ext}
use Rattle.gaz_keeper.specs.Board.{adds}
use Rattle.gaz_keeper.specs.Keeper.{Content, Idle, IsLeft, Keeps, Open, after_keep}
use Rattle.gaz_views.specs.Accounts.{Account}
use Rattle.gaz_shelf.specs.Accounts.{account_of, board_of}
use Rattle.gaz_shelf.specs.Mem.{content_in, progress_of, seen_in, working_of}
use Rattle.gaz_keeper.specs.Received.{Received}
use Rattle.gaz_views.specs.View.{empty_view}
use Rattle.gaz_shelf.specs.declared.mem_shelf.Judging.{Judging}
use Rattle.gaz_shelf.specs.declared.mem_shelf.Judging.TheVariants as judging
use Rattle.gaz_shelf.specs.declared.mem_shelf.MemShelf.{MemShelf}
use Rattle.gaz_views.specs.declared.verdict.Verdict.TheVariants.{Applied}

abbrev judged : Received → List (ℕ × Account) → ℕ → Content
judged files es c = record { files = files; board = adds (board_of es) c (record { verdict = Applied; view = (account_of es c).working }); working = empty_view }

pub kept_open : (j : Judging) (files : Received) (es : List (ℕ × Account)) (code : ℕ) → progress_of j ≡ Open code → judged files es code ≡ after_keep (progress_of j) (record { files = files; board = board_of es; working = working_of j es })
kept_open judging.Idle files es code e = cc
kept_open (judging.Open c) files es code e = let same : c ≡ code = cc in ap (judged files es) (sym same)
kept_open judging.Broken files es code e = cc

abbrev kept : Judging → Received → List (ℕ × Account) → Content
kept j files es = record { files = files; board = board_of es; working = working_of j es }

-- the same accounts again
pub same_content : (j : Judging) (files : Received) (es fs : List (ℕ × Account)) → ((c : ℕ) → account_of fs c ≡ account_of es c) → kept j files fs ≡ kept j files es
same_content j files es fs same =
    let board : board_of fs ≡ board_of es = fun_ext (λ c. ap (λ (a : Account). a.judged) (same c)) in
    λ i. record { files = files; board = board i; working = working j i }
  where
    working : (j : Judging) → working_of j fs ≡ working_of j es
    working judging.Idle = refl
    working (judging.Open c) = ap (λ (a : Account). a.working) (same c)
    working judging.Broken = refl

-- the same board again, where nothing is judged
pub same_board : (j : Judging) (files : Received) (es fs : List (ℕ × Account)) → progress_of j ≡ Idle → board_of fs ≡ board_of es → kept j files fs ≡ kept j files es
same_board judging.Idle files es fs idle same = λ i. record { files = files; board = same i; working = empty_view }
same_board (judging.Open c) files es fs idle same = cc
same_board judging.Broken files es fs idle same = cc

-- what goes on keeping where the content stays and so does the judgement in progress
pub keeps_on : (old mid new : MemShelf) → Keeps (seen_in old) (seen_in mid) → content_in new ≡ content_in mid → new.judging ≡ mid.judging → Keeps (seen_in old) (seen_in new)
keeps_on old mid new keeps same stays =
    record {
      harm = λ _. tt;
      stands = λ _ _. tt;
      content = λ _ _. same ∙ keeps.content tt tt;
      progress = subst (λ (j : Judging). IsLeft (progress_of old.judging) (progress_of j)) (sym stays) keeps.progress;
      leaves = λ _ k none. none;
      whole = λ _ _. tt;
    }
