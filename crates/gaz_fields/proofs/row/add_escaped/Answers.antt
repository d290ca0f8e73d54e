use Rattle.std.proofs.Common.{◌∙◌}
use Rattle.gaz_fields.proofs.Growing.{◌>>◌}
use Rattle.gaz_fields.proofs.Written.{escape_byte, escape_end}
use Rattle.gaz_fields.proofs.row.add_escaped.Goals as goal

pub loop-byte-preserved : goal.loop-byte-preserved
loop-byte-preserved c = record {
  row = rw c.in_ok-add_byte.ensures.row (escape_byte c.loop-byte.out.items c.args.field.now c.loop-byte.byte-index c.loop-byte-test.true ∙ c.loop-byte.invariant.row);
  kept = c.loop-byte.invariant.kept >> c.add_byte.ensures.kept;
}

pub returns-clause-row : goal.returns-clause-row
returns-clause-row c = escape_end _ _ _ c.loop-byte.byte-index c.loop-byte-test.false c.loop-byte.invariant.row
