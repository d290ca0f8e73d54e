use Rattle.gazhub.specs.Sites.{HasRegister, HasFiles}
use Rattle.gazhub.proofs.Sites.{without_files, without_register}
use Rattle.gazhub.proofs.attending.serve_once.Goals as goal

pub returns-in_err-register-clause-served : goal.returns-in_err-register-clause-served
returns-in_err-register-clause-served g c = without_register g.S.Site.done _ _ _ _ c.from_residual.result _ c.in_err-register.ensures c.from_residual.ensures.1

pub returns-in_err-files-clause-served : goal.returns-in_err-files-clause-served
returns-in_err-files-clause-served g c =
    HasRegister c.in_ok-register.register _ c.in_ok-register.ensures (without_files g.S.Site.done _ _ _ _ _ c.from_residual-in_err-files.result _ c.in_err-files.ensures.found c.from_residual-in_err-files.ensures.1)

pub returns-clause-served : goal.returns-clause-served
returns-clause-served g c = HasRegister c.in_ok-register.register _ c.in_ok-register.ensures (HasFiles c.in_ok-files.files _ c.in_ok-files.ensures.found c.serve_in.ensures.served)
