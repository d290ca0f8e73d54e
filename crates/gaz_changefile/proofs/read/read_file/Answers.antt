use Rattle.std.proofs.lemmas.Result.{IfOk-weaker}
use Rattle.gaz_changefile.proofs.Orderly.{bases-rise, changes-are-allowed, changes-are-placed}
use Rattle.gaz_changefile.proofs.Runs.{no_text}
use Rattle.gaz_changefile.proofs.read.read_file.Goals as goal

pub returns-in_default-clause-bad : goal.returns-in_default-clause-bad
returns-in_default-clause-bad c = rw c.at.ensures (no_text c.args.bytes.now c.args.code c.args.volume c.in_default.ensures.cases.0)

pub returns-clause-good : goal.returns-clause-good
returns-clause-good c = (c.read_rows.ensures c.args.bytes.now c.in-Ok.ensures.cases.1 c.open_rows-rows.ensures).good

pub returns-clause-bad : goal.returns-clause-bad
returns-clause-bad c = (c.read_rows.ensures c.args.bytes.now c.in-Ok.ensures.cases.1 c.open_rows-rows.ensures).bad

pub returns-clause-bases : goal.returns-clause-bases
returns-clause-bases c = IfOk-weaker c.read_rows.result _ _ (λ f good. bases-rise c.args.bytes.now c.args.code c.args.volume f good) (returns-clause-good c)

pub returns-clause-changes : goal.returns-clause-changes
returns-clause-changes c = IfOk-weaker c.read_rows.result _ _ (λ f good. changes-are-placed c.args.bytes.now c.args.code c.args.volume f good) (returns-clause-good c)

pub returns-clause-allowed : goal.returns-clause-allowed
returns-clause-allowed c = IfOk-weaker c.read_rows.result _ _ (λ f good. changes-are-allowed c.args.bytes.now c.args.code c.args.volume f good) (returns-clause-good c)
