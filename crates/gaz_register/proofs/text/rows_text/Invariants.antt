use Rattle.std.proofs.Common.{◌≡◌, take}
use Rattle.gaz_register.specs.Texts.{register_text}
use Rattle.gaz_register.proofs.text.rows_text.Given as goal

abbrev pub invariant-loop-custodian : goal.invariant-loop-custodian
invariant-loop-custodian l = l.text.items ≡ register_text (take l.custodian-index l.custodians)
