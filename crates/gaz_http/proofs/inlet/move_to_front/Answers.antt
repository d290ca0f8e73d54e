use Rattle.std.proofs.Common.{arith, rules, ◌≡◌, length}
use Rattle.gaz_http.specs.Heads.{inlet_size}
use Rattle.gaz_http.proofs.Bytes.{moved}
use Rattle.gaz_http.proofs.inlet.move_to_front.Goals as goal

pub returns-clause-part : goal.returns-clause-part
returns-clause-part c =
    let long : length c.args.bytes.now ≡ inlet_size = search rules in
    moved c.args.start c.args.end c.args.bytes.now _ c.requires.0 (omega (arith, long, c.requires.1)) c.copy_within.ensures.after
