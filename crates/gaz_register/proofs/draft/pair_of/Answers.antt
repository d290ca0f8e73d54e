use Rattle.std.proofs.Common.{◌≡◌, ◌∙◌, length, map, rules, sym}
use Rattle.std.proofs.lemmas.List.{length-map}
use Rattle.std.specs.Vec.{vec_len}
use Rattle.toml.specs.View.{array_view, view}
use Rattle.gaz_register.proofs.Documents.{is-array, pair-length}
use Rattle.gaz_register.proofs.draft.pair_of.Goals as goal

pub returns-then-len-ne2 : goal.returns-then-len-ne2
returns-then-len-ne2 c =
    let items = c.in-Some.items.now in
    let whole = is-array (view c.args.value.now) (array_view items) (rw c.in-Some.is at c.as_array.ensures) in
    let len : vec_len items ≡ length items.items = search rules in
    rw whole (sym (pair-length (map view items.items) (λ e. c.if-len-ne2.true (c.len.ensures ∙ len ∙ sym (length-map items.items view) ∙ e))))
