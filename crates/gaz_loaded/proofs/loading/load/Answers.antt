-- Files and verdicts come, then what became of numbers, and then lives.
use Rattle.std.proofs.Common.{subst, sym}
use Rattle.gaz_shelf.specs.Mem.{content_in}
use Rattle.gaz_loaded.specs.Restoring.{BringsLives, BringsPassages}
use Rattle.gaz_loaded.proofs.Loaded.{loaded, rests_bare}
use Rattle.gaz_loaded.proofs.Reading.{idle_then, reads_then}
use Rattle.gaz_loaded.proofs.loading.load.Goals as goal

pub returns-clause-loaded : goal.returns-clause-loaded
returns-clause-loaded g c = λ stood fine these.
    let a = g.L.Shelf.seen c.args.lower.now in
    let b = g.L.Shelf.seen c.copy_custodians.new.lower in
    let d = g.L.Shelf.seen c.bring_passages.new.lower in
    let e = g.L.Shelf.seen c.bring_lives.new.lower in
    let first = c.in_ok-copy_custodians.ensures in
    let next = c.in_ok-bring_passages.ensures in
    let last = c.in_ok-bring_lives.ensures in
    let shelf = c.bring_to_hand.new.shelf in
    let passages = g.L.Listed.passages c.bring_passages.new.lower in
    let late = last.reads.keeps.harm fine in
    let mid = next.reads.keeps.harm late in
    let stood_then = first.reads.keeps.stands stood mid in
    let passed = subst (λ ps. BringsPassages c.args.codes.now ps b d (content_in c.copy_custodians.new.shelf) (content_in c.bring_passages.new.shelf)) (sym (next.stays stood_then late)) next.brings in
    let brings = subst (λ k. BringsLives passages d e (content_in c.bring_passages.new.shelf) k) (sym c.bring_to_hand.ensures.same) last.brings in
    loaded c.args.codes.now a b d e (g.L.Listed.lives c.bring_passages.new.lower) passages (content_in c.new-shelf.result) (content_in c.copy_custodians.new.shelf) (content_in c.bring_passages.new.shelf) (content_in shelf)
    first.reads next.reads last.reads c.new-shelf.ensures.empty first.copies passed brings (g.met.L.Listed.made c.bring_passages.new.lower (next.reads.keeps.stands stood_then late)) stood fine these (rests_bare shelf c.bring_to_hand.ensures.idle)

pub returns-clause-rests : goal.returns-clause-rests
returns-clause-rests g c =
    let a = g.L.Shelf.seen c.args.lower.now in
    let b = g.L.Shelf.seen c.copy_custodians.new.lower in
    let d = g.L.Shelf.seen c.bring_passages.new.lower in
    let e = g.L.Shelf.seen c.bring_lives.new.lower in
    let reads = reads_then a b e c.in_ok-copy_custodians.ensures.reads (reads_then b d e c.in_ok-bring_passages.ensures.reads c.in_ok-bring_lives.ensures.reads) in
    idle_then a.progress e.progress reads.keeps.progress c.requires c.in_ok-bring_lives.ensures.cleared
