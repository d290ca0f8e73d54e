-- The upper keeper was asked, or there is none; then all came below, and the lower one was asked.
use Rattle.std.proofs.Common.{◌≡◌, ◌≤◌, ap, subst, sym}
use Rattle.gaz_keeper.specs.Keeper.{Keeps}
use Rattle.gaz_keeper.proofs.Keeping.{keeps_itself, keeps_then}
use Rattle.gaz_mirror.specs.Mirrored.{seen_mirrored}
use Rattle.gaz_mirror.specs.declared.mirror.Mirror.{Mirror}
use Rattle.gaz_mirror.proofs.Readings.{keeps_asked, reads_behind, reads_settled}
use Rattle.gaz_mirror.proofs.mirror.Mirror.read.Goals as goal
use Rattle.gaz_mirror.proofs.mirror.Mirror.read.Goals.{in_default-via-in-None-1, in_default-via-in-Some+in-Err-1}

pub returns-2-clause-reads : goal.returns-2-clause-reads
returns-2-clause-reads g c =
    let M : Type 0 = Mirror g.row.L.Denot g.row.U.Denot g.L.Shelf g.U.Shelf in
    let low = g.L.Shelf.seen in
    let up = g.U.Shelf.seen in
    let m = c.args.self.now in
    let behind = c.in_default.self in
    let settled = c.settle.new.self in
    let P = g.Q.Question.is_right c.args.question.now in
    let tried : Keeps (seen_mirrored m) (seen_mirrored behind) = elim c.in_default.branch [
      | in_default-via-in-None-1 w ↦ subst (λ (x : M). Keeps (seen_mirrored m) (seen_mirrored x)) (sym w.self-is) (keeps_itself (seen_mirrored m))
      | in_default-via-in-Some+in-Err-1 w ↦ subst (λ (x : M). Keeps (seen_mirrored m) (seen_mirrored x)) (sym w.self-is)
          (keeps_asked up g.met.U.Unshared.never_harmed (low m.lower) m.upper w.in-Some.upper w.ask.new.keeper m.gathered w.in-Some.is w.ask.ensures.keeps)
    ] in
    let same : behind.lower ≡ m.lower = elim c.in_default.branch [
      | in_default-via-in-None-1 w ↦ ap (λ (x : M). x.lower) w.self-is
      | in_default-via-in-Some+in-Err-1 w ↦ ap (λ (x : M). x.lower) w.self-is
    ] in
    reads_behind (seen_mirrored m) (seen_mirrored settled) _ c.ask-2.result P (keeps_then (seen_mirrored m) (seen_mirrored behind) (seen_mirrored settled) tried c.settle.ensures.keeps)
    (subst (λ l. (low l).failures ≤ (low settled.lower).failures) same c.settle.ensures.counts.kept)
    (subst (λ l. (low settled.lower).trusted → (low l).trusted) same c.settle.ensures.counts.trust)
    (reads_settled up (low settled.lower) (low c.ask-2.new.keeper) settled.upper settled.gathered c.ask-2.result P c.in_ok-settle.ensures.settled c.ask-2.ensures)
