-- The file comes where none is there.
use Rattle.std.proofs.Common.{◌≡◌, ◌∙◌, ap, sym}
use Rattle.std.specs.FinMap as map
use Rattle.std.specs.Prelude.{None}
use Rattle.gaz_keeper.specs.Keeper.{Content, with_received}
use Rattle.gaz_shelf.specs.Mem.{content_in}
use Rattle.gaz_loaded.proofs.Copied.{nothing_there}
use Rattle.gaz_loaded.proofs.Entered.{on_ok}
use Rattle.gaz_loaded.proofs.copying.copy_bytes.Goals as goal

pub returns-clause-received : goal.returns-clause-received
returns-clause-received c =
    let k = content_in c.args.shelf.now in
    let l = content_in c.received.new.self in
    let m = content_in c.receive.new.self in
    let code = c.args.code in
    let volume = c.args.volume in
    let bytes = c.args.bytes.now in
    let same : l ≡ k = c.in_ok-received.ensures.keeps.content tt tt in
    let none : map.get k.files (code, volume) ≡ None = nothing_there c.in_ok-received.field-0 (map.get k.files (code, volume)) (c.in_ok-received.ensures.right tt tt) (sym c.is_some.ensures ∙ c.if-is_some.false) in
    let new : map.get l.files (code, volume) ≡ None = ap (λ (x : Content). map.get x.files (code, volume)) same ∙ none in
    let both : m ≡ with_received l code volume bytes → (map.get k.files (code, volume) ≡ None) × (m ≡ with_received k code volume bytes) =
    λ is. (none, is ∙ ap (λ x. with_received x code volume bytes) same) in
    on_ok c.receive.result both (c.receive.ensures.enters.done tt new tt)
