use Rattle.std.proofs.Common.{refl, sym}
use Rattle.gaz_filing.specs.Filing.{NoConnection}
use Rattle.gaz_filing.proofs.Filing.{is_free, makes_none}
use Rattle.gaz_filing.proofs.stores.make_store.Goals as goal

pub returns-in-Err-clause-none : goal.returns-in-Err-clause-none
returns-in-Err-clause-none g c = rw (c.unconnected.ensures.left, c.unconnected.ensures.told) (NoConnection refl c.in-Err.ensures.none)

pub returns-in-Ok-create-clause-made : goal.returns-in-Ok-create-clause-made
returns-in-Ok-create-clause-made g c = (
  refl,
  record {
    conn = c.in-Ok.conn;
    after = c.into_connection.result;
    connects = c.in-Ok.ensures.had;
    does = record { free = is_free _ c.in-Ok-create.ensures.named; store = c.in-Ok-create.store; made = c.in-Ok-create.ensures.made; back = sym c.into_connection.ensures.conn };
    closes = c.close-left.ensures;
  },
)

pub returns-in-Err-create-clause-none : goal.returns-in-Err-create-clause-none
returns-in-Err-create-clause-none g c =
    makes_none _ c.args.files c.close-left-in-Err-create.result c.in-Ok.conn c.in-Err-create.conn c.in-Ok.ensures.had c.close-left-in-Err-create.ensures _ c.in-Err-create.ensures.refused
    c.create.ensures.named c.create.ensures.causes c.in-Err-create.ensures.untouched c.args.register.now c.in-Err-create.ensures.leaves _ c.in-Err-create.is
