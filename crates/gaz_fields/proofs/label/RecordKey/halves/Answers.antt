use Rattle.gaz_fields.proofs.LabelOrder.{padded_bytes, rest_of_bytes, word_below}
use Rattle.gaz_fields.proofs.label.RecordKey.halves.Goals as goal

pub seven_at-requires-clause-bytes : goal.seven_at-requires-clause-bytes
seven_at-requires-clause-bytes c = padded_bytes 14 _ _ c.self.invariant

pub seven_at-requires-2-clause-bytes : goal.seven_at-requires-2-clause-bytes
seven_at-requires-2-clause-bytes c = padded_bytes 14 _ _ c.self.invariant

pub returns-clause-below : goal.returns-clause-below
returns-clause-below c = rw c.seven_at.ensures (word_below 7 _ (rest_of_bytes 0 _ (padded_bytes 14 _ _ c.self.invariant)))
