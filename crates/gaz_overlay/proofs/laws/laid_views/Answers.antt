use Rattle.gaz_overlay.proofs.Laid.{laid_views}
use Rattle.gaz_overlay.proofs.laws.laid_views.Goals as goal

pub returns : goal.returns
returns c = laid_views
