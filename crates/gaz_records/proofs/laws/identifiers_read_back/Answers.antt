use Rattle.std.proofs.Common.{refl}
use Rattle.std.specs.Fmt.{digits}
use Rattle.gaz_records.specs.Kinds.{IdentifiersReadBack}
use Rattle.gaz_records.specs.declared.item.Kind.TheVariants as kind
use Rattle.gaz_records.proofs.laws.identifiers_read_back.Goals as goal

each : IdentifiersReadBack
unfolding digits
each kind.Street = (refl, refl)
each kind.Descriptor = (refl, refl)
each kind.Blpu = (refl, refl)
each kind.Xref = (refl, refl)
each kind.Lpi = (refl, refl)
each kind.Release = (refl, refl)
each kind.Adopt = (refl, refl)

pub returns : goal.returns
returns c = each
