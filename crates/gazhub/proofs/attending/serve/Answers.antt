use Rattle.std.proofs.Common.{◌∙◌, sym, true≢false}
use Rattle.gazhub.specs.Serving.{Begins, NeverBegins, NeverTold}
use Rattle.gazhub.proofs.Serving.{speaks}
use Rattle.gazhub.proofs.attending.serve.Goals as goal

pub returns-in-Ok-Some-clause-serves : goal.returns-in-Ok-Some-clause-serves
returns-in-Ok-Some-clause-serves g c = Begins c.in-Ok-Some.served _ _ (rw c.in-Ok-Some.field-0-is at c.in-Ok-Some.ensures.served) c.serve_rest.ensures

pub returns-in-Ok-Some-clause-silent : goal.returns-in-Ok-Some-clause-silent
returns-in-Ok-Some-clause-silent g c = λ e. absurd (true≢false (sym e ∙ speaks g.S.Site.done g.S.Medium.Disk _ _ _ _ _ _ c.serve_rest.ensures))

pub returns-in-Ok-None-clause-serves : goal.returns-in-Ok-None-clause-serves
returns-in-Ok-None-clause-serves g c = NeverTold (rw c.in-Ok-None.field-0-is at c.in-Ok-None.ensures.served)

pub returns-in-Err-clause-serves : goal.returns-in-Err-clause-serves
returns-in-Err-clause-serves g c = NeverBegins c.in-Err.why c.in-Err.ensures.served
