-- The file comes, and then its verdict, where there is one.
use Rattle.std.proofs.Common.{◌≡◌, ◌∙◌, ap, sym}
use Rattle.std.specs.FinMap as map
use Rattle.std.specs.Prelude.{None, Some}
use Rattle.gaz_keeper.specs.Board.{verdict_on}
use Rattle.gaz_keeper.specs.Keeper.{Content, with_received}
use Rattle.gaz_shelf.specs.Mem.{content_in}
use Rattle.gaz_loaded.proofs.Copied.{bytes_there, copied_held, copied_judged, now_there_by, still_there_by}
use Rattle.gaz_loaded.proofs.Entered.{on_ok}
use Rattle.gaz_loaded.proofs.Reading.{only_reads, reads_then}
use Rattle.gaz_loaded.proofs.copying.copy_volume.Goals as goal

pub enter-requires-clause-there : goal.enter-requires-clause-there
enter-requires-clause-there g c =
    let k = content_in c.args.shelf.now in
    let m = content_in c.copy_bytes.new.shelf in
    let code = c.args.code in
    let volume = c.args.volume in
    let bytes = c.deref.result.now in
    now_there_by k m code volume bytes c.in_ok-copy_bytes.ensures.received.1

pub returns-in-Some-2-clause-copies : goal.returns-in-Some-2-clause-copies
returns-in-Some-2-clause-copies g c =
    let a = g.L.Shelf.seen c.args.lower.now in
    let b = g.L.Shelf.seen c.received.new.self in
    let d = g.L.Shelf.seen c.verdict.new.self in
    let k = content_in c.args.shelf.now in
    let m = content_in c.copy_bytes.new.shelf in
    let code = c.args.code in
    let volume = c.args.volume in
    let bytes = c.deref.result.now in
    let none : map.get k.files (code, volume) ≡ None = c.in_ok-copy_bytes.ensures.received.0 in
    let becomes : m ≡ with_received k code volume bytes = c.in_ok-copy_bytes.ensures.received.1 in
    let reads = reads_then a b d (only_reads a b c.received.result _ c.received.ensures) (only_reads b d c.verdict.result _ c.verdict.ensures) in
    let there : a.stands → d.unharmed → map.get a.content.files (code, volume) ≡ Some bytes =
    λ stood fine. bytes_there c.in_ok-bytes.field-0 c.in-Some.bytes bytes (map.get a.content.files (code, volume)) (c.in_ok-bytes.ensures.right stood (c.verdict.ensures.keeps.harm fine)) c.in-Some.is c.deref.ensures.value in
    let told : a.stands → d.unharmed → Some c.in-Some-2.verdict ≡ verdict_on a.content.board code volume =
    λ stood fine.
    let mid = c.verdict.ensures.keeps.harm fine in
    sym c.in-Some-2.is
    ∙ c.in_ok-verdict.ensures.right (c.received.ensures.keeps.stands stood mid) fine
    ∙ ap (λ (x : Content). verdict_on x.board code volume) (c.received.ensures.keeps.content stood mid) in
    on_ok c.enter.result (copied_judged a d k m code volume bytes reads none becomes there (content_in c.enter.new.shelf) c.in-Some-2.verdict told) c.enter.ensures.enters

pub returns-in-Some-2-clause-there : goal.returns-in-Some-2-clause-there
returns-in-Some-2-clause-there g c =
    let k = content_in c.args.shelf.now in
    let m = content_in c.copy_bytes.new.shelf in
    let code = c.args.code in
    let volume = c.args.volume in
    let bytes = c.deref.result.now in
    let there = now_there_by k m code volume bytes c.in_ok-copy_bytes.ensures.received.1 in
    on_ok c.enter.result (still_there_by m (content_in c.enter.new.shelf) code volume c.in-Some-2.verdict there) c.enter.ensures.enters

pub returns-clause-copies : goal.returns-clause-copies
returns-clause-copies g c =
    let a = g.L.Shelf.seen c.args.lower.now in
    let b = g.L.Shelf.seen c.received.new.self in
    let d = g.L.Shelf.seen c.verdict.new.self in
    let k = content_in c.args.shelf.now in
    let m = content_in c.copy_bytes.new.shelf in
    let code = c.args.code in
    let volume = c.args.volume in
    let bytes = c.deref.result.now in
    let none : map.get k.files (code, volume) ≡ None = c.in_ok-copy_bytes.ensures.received.0 in
    let becomes : m ≡ with_received k code volume bytes = c.in_ok-copy_bytes.ensures.received.1 in
    let reads = reads_then a b d (only_reads a b c.received.result _ c.received.ensures) (only_reads b d c.verdict.result _ c.verdict.ensures) in
    let there : a.stands → d.unharmed → map.get a.content.files (code, volume) ≡ Some bytes =
    λ stood fine. bytes_there c.in_ok-bytes.field-0 c.in-Some.bytes bytes (map.get a.content.files (code, volume)) (c.in_ok-bytes.ensures.right stood (c.verdict.ensures.keeps.harm fine)) c.in-Some.is c.deref.ensures.value in
    copied_held a d k m code volume bytes reads none becomes there

pub returns-clause-there : goal.returns-clause-there
returns-clause-there g c =
    let k = content_in c.args.shelf.now in
    let m = content_in c.copy_bytes.new.shelf in
    let code = c.args.code in
    let volume = c.args.volume in
    let bytes = c.deref.result.now in
    now_there_by k m code volume bytes c.in_ok-copy_bytes.ensures.received.1
