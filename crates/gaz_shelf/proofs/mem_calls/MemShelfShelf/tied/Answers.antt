use Rattle.std.proofs.Common.{rules, ◌∙◌, ap, subst, sym}
use Rattle.std.specs.Prelude.{◌≢◌}
use Rattle.gaz_views.specs.View.{View}
use Rattle.gaz_views.specs.Words.{tied}
use Rattle.gaz_keeper.specs.Keeper.{Broken}
use Rattle.gaz_shelf.proofs.Mem.{keeps_on}
use Rattle.gaz_shelf.specs.Mem.{progress_of}
use Rattle.gaz_shelf.specs.declared.mem_shelf.Judging.{Judging}
use Rattle.gaz_shelf.proofs.mem_calls.MemShelfShelf.tied.Goals as goal

pub returns-in_err-find_tied : goal.returns-in_err-find_tied
returns-in_err-find_tied c = record {
  keeps = keeps_on c.args.self.now c.clear.new.self c.find_tied.new.self c.clear.ensures.keeps c.find_tied.ensures.content c.find_tied.ensures.judging;
  right = search rules;
  cleared = search rules;
  counts = search rules;
}

pub returns : goal.returns
returns c = record {
  keeps = keeps_on c.args.self.now c.clear.new.self c.find_tied.new.self c.clear.ensures.keeps c.find_tied.ensures.content c.find_tied.ensures.judging;
  right = λ _ _. c.in_ok-find_tied.ensures.tied ∙ ap (λ (v : View). tied v c.args.uprn) (c.clear.ensures.view c.args.code);
  cleared = subst (λ (j : Judging). progress_of j ≢ Broken) (sym c.find_tied.ensures.judging) c.clear.ensures.cleared;
  counts = search rules;
}
