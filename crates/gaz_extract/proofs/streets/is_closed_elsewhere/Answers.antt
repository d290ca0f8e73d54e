use Rattle.std.proofs.Common.{sym, arith}
use Rattle.gaz_keeper.proofs.Keeping.{keeps_itself}
use Rattle.gaz_extract.proofs.Remembering.{one_more}
use Rattle.gaz_extract.proofs.streets.is_closed_elsewhere.Goals as goal

pub returns-in-Some-clause-tells : goal.returns-in-Some-clause-tells
returns-in-Some-clause-tells g c =
    record {
      keeps = keeps_itself (g.K.Shelf.seen c.args.keeper.now);
      right = λ stood fine right. (right, right c.args.usrn c.in-Some.closed.now (sym c.in-Some.ensures.value));
      counts = record { kept = omega arith; store = tt; trust = λ t. t };
    }

pub returns-clause-tells : goal.returns-clause-tells
returns-clause-tells g c =
    let asked = c.in_ok-closed.ensures.tells in
    record {
      keeps = asked.keeps;
      right = λ stood fine right.
          let told = asked.right stood fine in
          (one_more (g.K.Shelf.seen c.args.keeper.now).content.board c.args.register.now c.args.code c.args.asked.now c.remember.new.asked c.args.usrn c.in_ok-closed.closed c.in_ok-remember.ensures told right, told);
      counts = record { kept = asked.counts.kept; store = tt; trust = asked.counts.trust };
    }
