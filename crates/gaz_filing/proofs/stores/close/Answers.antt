use Rattle.std.proofs.Common.{◌∙◌, ap, not}
use Rattle.gaz_filing.proofs.stores.close.Goals as goal

pub returns-in-Ok : goal.returns-in-Ok
returns-in-Ok g c = record {
  live = c.schema-schema.ensures.live;
  settled = c.is_autocommit-is_settled.ensures.settled (c.is_autocommit-is_settled.ensures.value ∙ ap not c.requires);
  files = c.in-Ok.ensures.copied;
}

pub returns-in-Err : goal.returns-in-Err
returns-in-Err g c = record {
  live = c.schema-schema.ensures.live;
  settled = c.is_autocommit-is_settled.ensures.settled (c.is_autocommit-is_settled.ensures.value ∙ ap not c.requires);
  files = (c.in-Err.store, (c.in-Err.field-0-0, (c.in-Err.ensures.err.0, c.in-Err.ensures.err.1)));
}
