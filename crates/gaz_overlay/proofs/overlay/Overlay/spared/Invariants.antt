-- The keys so far and those of what is left are those of all.
use Rattle.std.proofs.Common.{◌≡◌, ◌++◌, drop}
use Rattle.std.specs.Prelude.{filter}
use Rattle.gaz_overlay.specs.Laid.{untouched}
use Rattle.gaz_overlay.proofs.overlay.Overlay.spared.Given as goal

abbrev pub invariant-loop-key : goal.invariant-loop-key
invariant-loop-key l = l.spared.items ++ filter (untouched l.self.view) (drop l.key-index l.keys) ≡ filter (untouched l.self.view) l.keys
