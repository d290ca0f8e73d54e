use Rattle.gazhub.specs.Sites.{HasRegister, HasFiles}
use Rattle.gazhub.proofs.Sites.{without_files, without_register}
use Rattle.gazhub.proofs.commands.extend.Goals as goal

pub returns-in_err-register : goal.returns-in_err-register
returns-in_err-register g c = without_register g.S.Site.done _ _ _ _ c.from_residual.result _ c.in_err-register.ensures c.from_residual.ensures.1

pub returns-in_err-grown : goal.returns-in_err-grown
returns-in_err-grown g c = HasRegister c.in_ok-register.register _ c.in_ok-register.ensures (without_register g.S.Site.done _ _ _ _ c.from_residual-in_err-grown.result _ c.in_err-grown.ensures c.from_residual-in_err-grown.ensures.1)

pub returns-in_err-files : goal.returns-in_err-files
returns-in_err-files g c =
    HasRegister c.in_ok-register.register _ c.in_ok-register.ensures (HasRegister c.in_ok-grown.grown _ c.in_ok-grown.ensures
    (without_files g.S.Site.done _ _ _ _ _ c.from_residual-in_err-files.result _ c.in_err-files.ensures.found c.from_residual-in_err-files.ensures.1))

pub returns : goal.returns
returns g c =
    HasRegister c.in_ok-register.register _ c.in_ok-register.ensures (HasRegister c.in_ok-grown.grown _ c.in_ok-grown.ensures (HasFiles c.in_ok-files.files _ c.in_ok-files.ensures.found
    (record { left = c.extend_store-left.result.left; held = c.extend_store-left.result.told; does = c.extend_store-left.ensures.extends; lacks = c.extend_store-left.ensures.none; told_is = c.said_of_growth.ensures; closed = c.close.ensures })))
