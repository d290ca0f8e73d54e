use Rattle.std.proofs.Common.{arith, length, rules, ◌-◌, ◌≡◌, take, ap, ◌∙◌, sym, ◌++◌, length-drop, length-take}
use Rattle.gaz_http.specs.Heads.{inlet_size}
use Rattle.gaz_http.proofs.Bytes.{filled}
use Rattle.gaz_http.proofs.inlet.Inlet.fill.Goals as goal

pub returns : goal.returns
returns g c =
    let a = c.in_ok-n.ensures in
    let start = c.self.inside.start in
    let end = c.self.inside.end in
    let m = c.move_to_front.ensures.part in
    let long = c.move_to_front.ensures.length in
    let room : length c.read_once.new.buf ≡ inlet_size - (end - start) = search rules in
    let f = filled (end - start) (inlet_size - (end - start)) c.in_ok-n.n c.move_to_front.new.bytes c.read_once.new.buf (omega (arith, c.self.invariant.1, long)) a.bound.0 in
    let was : length c.self.inside.bytes ≡ inlet_size = search rules in
    let size = ap length c.self.view_is in
    let read = take c.in_ok-n.n c.read_once.new.buf in
    record {
      read = (
        read,
        a.bytes.0,
        f ∙ ap (λ l. l ++ read) (m ∙ c.self.view_is),
        sym a.bound.1,
        λ e. a.bytes.1 e (omega (arith, room, c.requires, size, was, c.self.invariant.0, c.self.invariant.1, length-drop start (take end c.self.inside.bytes), length-take end c.self.inside.bytes)),
      );
      counted = a.counted;
      told = tt;
    }
