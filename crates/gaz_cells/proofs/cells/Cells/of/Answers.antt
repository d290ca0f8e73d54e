use Rattle.std.proofs.Common.{subst, sym}
use Rattle.std.specs.Prelude.{IsUtf8}
use Rattle.gaz_records.proofs.Texts.{item_utf8}
use Rattle.gaz_cells.proofs.cells.Cells.of.Goals as goal

pub as_text-requires : goal.as_text-requires
as_text-requires c = subst IsUtf8 (sym c.in_ok-body.ensures.text) (item_utf8 c.args.item.now c.known.ensures)
