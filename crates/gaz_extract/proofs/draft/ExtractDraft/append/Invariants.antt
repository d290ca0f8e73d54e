-- The draft with the items that are left is the one with all.
use Rattle.std.proofs.Common.{◌≡◌, drop}
use Rattle.gaz_extract.specs.Drafts.{with_items}
use Rattle.gaz_extract.proofs.draft.ExtractDraft.append.Given as goal

abbrev pub invariant-loop-item : goal.invariant-loop-item
invariant-loop-item l = with_items l.draft (drop l.item-index l.items) ≡ with_items l.fn.self l.items
