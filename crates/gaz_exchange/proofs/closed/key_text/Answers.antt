use Rattle.gaz_fields.proofs.LabelBytes.{label_utf8}
use Rattle.gaz_exchange.proofs.closed.key_text.Goals as goal

pub unreachable-requires : goal.unreachable-requires
unreachable-requires c = c.in-Err.ensures.cases.0 (rw c.as_bytes.ensures.value (label_utf8 14 c.args.key.now c.as_bytes.ensures.form))
