use Rattle.std.proofs.Common.{subst, sym}
use Rattle.std.specs.Prelude.{IsUtf8}
use Rattle.gaz_cells.proofs.Names.{id_utf8}
use Rattle.gaz_cells.proofs.id.id_of.Goals as goal

pub as_text-requires : goal.as_text-requires
as_text-requires c = subst IsUtf8 (sym c.in_ok-id.ensures.id) (id_utf8 c.args.key.now c.id_bytes.ensures.form)
