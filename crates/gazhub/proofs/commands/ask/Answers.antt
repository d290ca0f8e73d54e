use Rattle.std.proofs.Common.{IfOk, subst}
use Rattle.gaz_stored.specs.Asking.{asked}
use Rattle.gaz_filing.specs.Filing.{AsksStore}
use Rattle.gazhub.specs.Sites.{HasRegister, HasFiles, bytes_of}
use Rattle.gazhub.proofs.Sites.{without_files, without_register}
use Rattle.gazhub.proofs.commands.ask.Goals as goal

pub returns-in_err-register : goal.returns-in_err-register
returns-in_err-register g c = without_register g.S.Site.done _ _ _ _ c.from_residual.result _ c.in_err-register.ensures c.from_residual.ensures.1

pub returns-in_err-files : goal.returns-in_err-files
returns-in_err-files g c =
    HasRegister c.in_ok-register.register _ c.in_ok-register.ensures (without_files g.S.Site.done _ _ _ _ _ c.from_residual-in_err-files.result _ c.in_err-files.ensures.found c.from_residual-in_err-files.ensures.1)

pub returns : goal.returns
returns g c =
    let bytes = c.read_change_file-bytes in
    let told = c.ask_store-left in
    let does = subst (λ bytes. IfOk told.result.told (AsksStore g.S.Medium.Disk c.in_ok-files.files told.result.left c.in_ok-register.register (asked c.args.call bytes))) c.as_deref-file.ensures.value told.ensures.asked in
    HasRegister c.in_ok-register.register _ c.in_ok-register.ensures (HasFiles c.in_ok-files.files _ c.in_ok-files.ensures.found (record {
      bytes = bytes_of bytes.result;
      between = bytes.new.site;
      reads = bytes.ensures;
      asks = record { left = told.result.left; held = told.result.told; does = does; lacks = told.ensures.none; told_is = c.of_store.ensures; closed = c.close.ensures };
    }))
