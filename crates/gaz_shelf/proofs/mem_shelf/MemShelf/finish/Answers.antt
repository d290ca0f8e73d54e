use Rattle.std.proofs.Common.{◌∙◌, arith, refl}
use Rattle.gaz_shelf.proofs.Mem.{kept_open}
use Rattle.gaz_views.specs.View.{empty_view}
use Rattle.gaz_shelf.proofs.mem_shelf.MemShelf.finish.Goals as goal

pub returns-in-Ok : goal.returns-in-Ok
returns-in-Ok c =
    let files = c.args.self.now.files in
    record {
      harm = λ fine. fine;
      stands = λ _ _ _. tt;
      done = λ _ _ _. (λ i. record { files = files; board = c.in-Ok.ensures.ok i; working = empty_view }) ∙ kept_open c.args.self.now.judging files c.args.self.now.accounts.by_code.entries c.args.code c.requires;
      undone = λ _ _ _. tt;
      on = refl;
      broken = tt;
      counts = record { kept = omega arith; store = tt; trust = λ t. t };
      leaves = λ _ _ k left. absurd left;
      whole = λ _ _ whole. tt;
      committed = λ _ _ k left. absurd left;
    }
