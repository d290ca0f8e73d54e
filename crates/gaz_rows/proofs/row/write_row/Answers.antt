use Rattle.std.proofs.Common.{◌≡◌, ◌∙◌, ◌≤◌, length, map, rules}
use Rattle.std.proofs.lemmas.List.{length-map}
use Rattle.std.specs.Vec.{vec_len}
use Rattle.gaz_rows.proofs.Back.{last-off}
use Rattle.gaz_rows.proofs.row.write_row.Goals as goal

pub returns-in-Ok : goal.returns-in-Ok
returns-in-Ok c =
    let fields = map (λ f. f.now) c.args.fields.now in
    let two : 2 ≤ length fields = search (rules, length-map) in
    let len : vec_len c.in-Ok.text ≡ length c.in-Ok.text.items = search rules in
    rw (len, c.in-Ok.ensures) at c.pop.ensures.rest ∙ last-off fields two
