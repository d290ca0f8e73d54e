use Rattle.std.proofs.Common.{rules, subst, sym}
use Rattle.std.specs.Prelude.{◌≢◌}
use Rattle.gaz_shelf.proofs.Mem.{keeps_on}
use Rattle.gaz_shelf.specs.Accounts.{board_of}
use Rattle.gaz_keeper.specs.Keeper.{Broken}
use Rattle.gaz_shelf.specs.Mem.{progress_of}
use Rattle.gaz_keeper.specs.Telling.{IsPageAt}
use Rattle.gaz_shelf.specs.declared.accounts.Accounts.{Accounts}
use Rattle.gaz_shelf.specs.declared.mem_shelf.Judging.{Judging}
use Rattle.gaz_shelf.proofs.mem_calls.MemShelfShelf.page.Goals as goal

pub returns-in_err-find_page : goal.returns-in_err-find_page
returns-in_err-find_page c = record {
  keeps = keeps_on c.args.self.now c.clear.new.self c.find_page.new.self c.clear.ensures.keeps c.find_page.ensures.content c.find_page.ensures.judging;
  right = search rules;
  cleared = search rules;
  counts = search rules;
}

pub returns : goal.returns
returns c = record {
  keeps = keeps_on c.args.self.now c.clear.new.self c.find_page.new.self c.clear.ensures.keeps c.find_page.ensures.content c.find_page.ensures.judging;
  right = λ _ _.
      subst (λ (b : Accounts). IsPageAt (board_of b.by_code.entries) c.args.code c.args.volume c.args.kind c.args.after c.args.most c.in_ok-find_page.field-0.items)
      c.clear.ensures.board c.in_ok-find_page.ensures.page;
  cleared = subst (λ (j : Judging). progress_of j ≢ Broken) (sym c.find_page.ensures.judging) c.clear.ensures.cleared;
  counts = search rules;
}
