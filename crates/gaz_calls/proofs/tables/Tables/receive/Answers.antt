use Rattle.std.proofs.Common.{refl}
use Rattle.gaz_calls.proofs.Receiving.{received_ok}
use Rattle.gaz_calls.proofs.tables.Tables.receive.Goals as goal

pub returns : goal.returns
returns g c =
    received_ok _ c.add_file.new.self _ c.add_file.result _ c.args.code c.args.volume c.args.bytes.now (rw c.number-2.ensures.value at c.number-2.ensures.range)
    (rw (c.number.ensures.value, c.number-2.ensures.value) at c.add_file.ensures) c.in_ok-add_file.was
    refl refl c.has_come.ensures
