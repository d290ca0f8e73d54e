use Rattle.std.proofs.Common.{arith, refl}
use Rattle.gaz_fields.proofs.LabelOrder.{by_padded, padded_bytes}
use Rattle.gaz_fields.proofs.label.LabelOrd.cmp.Goals as goal

pub compare_by_words-requires : goal.compare_by_words-requires
compare_by_words-requires g c = (omega arith, (padded_bytes g.row.MOST _ _ c.self.invariant, padded_bytes g.row.MOST _ _ c.other.invariant))

pub returns : goal.returns
returns g c = rw (c.compare_by_words.ensures, by_padded g.row.MOST _ _ _ _ c.self.invariant c.other.invariant, c.self.view_is, c.other.view_is) refl
