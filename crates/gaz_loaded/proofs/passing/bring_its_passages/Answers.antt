-- One page after another, until there is none.
use Rattle.std.proofs.Common.{◌≡◌, ◌∙◌, ◌++◌, ℕ, List, [], ap, refl, subst, sym}
use Rattle.std.specs.Prelude.{None, Some}
use Rattle.gaz_overlay.specs.Passages.{PassageRow}
use Rattle.gaz_shelf.specs.Mem.{content_in}
use Rattle.gaz_loaded.specs.Passing.{AreToldBehind, AreToldInTurn}
use Rattle.gaz_loaded.specs.Restoring.{ArePutBack}
use Rattle.gaz_loaded.specs.Telling.{last_of}
use Rattle.gaz_loaded.proofs.Passed.{its_passages}
use Rattle.gaz_loaded.proofs.PutBack.{as_many_back, back_then, others_back, verdicts_back}
use Rattle.gaz_loaded.proofs.Reading.{only_reads, reads_nothing, reads_then}
use Rattle.gaz_loaded.proofs.ToldPassages.{place_next, turn_then}
use Rattle.gaz_loaded.proofs.passing.bring_its_passages.Goals as goal

pub loop-init : goal.loop-init
loop-init g c = record {
  reads = reads_nothing (g.L.Shelf.seen c.args.lower.now);
  idle = c.requires;
  files = refl;
  stays = λ _ _. refl;
  told = [];
  place = refl;
  turn = λ _ _. tt;
  back = refl;
}

pub loop-preserved : goal.loop-preserved
loop-preserved g c =
    let a = g.L.Shelf.seen c.args.lower.now in
    let b = g.L.Shelf.seen c.loop.lower in
    let d = g.L.Shelf.seen c.passages_behind.new.self in
    let code = c.args.code in
    let rows = g.L.Listed.passages c.args.lower.now code in
    let k = content_in c.args.shelf.now in
    let m = content_in c.loop.shelf in
    let n = content_in c.restore_passages.new.shelf in
    let passages = c.in_ok-passages.passages.items in
    let inv = c.loop.invariant in
    let tells = c.passages_behind.ensures in
    let next = c.in_ok-restore_passages.ensures in
    let reads = only_reads b d c.passages_behind.result _ tells.reads in
    let is : last_of passages ≡ Some c.in-Some.last.now = ap last_of (sym c.deref.ensures.value) ∙ sym c.in-Some.ensures.value in
    let back = subst (λ l. ArePutBack code m.board l n.board) c.deref-in-loop.ensures.value next.restored in
    record {
      reads = reads_then a b d inv.reads reads;
      idle = next.idle;
      files = next.files ∙ inv.files;
      stays = λ stood fine.
          let mid = reads.keeps.harm fine in
          tells.stays (inv.reads.keeps.stands stood mid) fine ∙ inv.stays stood mid;
      told = inv.told ++ passages;
      place = place_next None inv.told passages c.in-Some.last.now is;
      turn = λ stood fine.
          let mid = reads.keeps.harm fine in
          let all = ap (λ (ps : ℕ → List PassageRow). ps code) (inv.stays stood mid) in
          let now = subst (λ l. AreToldBehind c.loop.after l passages) all (c.in_ok-passages.ensures.reads.right (inv.reads.keeps.stands stood mid) fine) in
          turn_then None rows inv.told passages (inv.turn stood mid) (subst (λ o. AreToldInTurn o rows passages) (sym {b = c.loop.after} inv.place) now.in_turn);
      back = back_then code k.board m.board n.board inv.told passages inv.back back;
    }

pub returns-in_default-clause-brings : goal.returns-in_default-clause-brings
returns-in_default-clause-brings g c =
    let a = g.L.Shelf.seen c.args.lower.now in
    let b = g.L.Shelf.seen c.loop.lower in
    let d = g.L.Shelf.seen c.passages_behind.new.self in
    let code = c.args.code in
    let k = content_in c.args.shelf.now in
    let m = content_in c.loop.shelf in
    let passages = c.in_ok-passages.passages.items in
    let inv = c.loop.invariant in
    let tells = c.passages_behind.ensures in
    let reads = only_reads b d c.passages_behind.result _ tells.reads in
    let is : last_of passages ≡ None = ap last_of (sym c.deref.ensures.value) ∙ sym c.in_default.ensures.value in
    record {
      files = inv.files;
      as_many = as_many_back code k.board m.board inv.told inv.back;
      verdicts = verdicts_back code k.board m.board inv.told inv.back;
      others = others_back code k.board m.board inv.told inv.back;
      views = λ stood fine as_many fresh.
          let mid = reads.keeps.harm fine in
          let all = ap (λ (ps : ℕ → List PassageRow). ps code) (inv.stays stood mid) in
          let now = subst (λ l. AreToldBehind c.loop.after l passages) all (c.in_ok-passages.ensures.reads.right (inv.reads.keeps.stands stood mid) fine) in
          its_passages code (g.L.Listed.lives c.args.lower.now) (g.L.Listed.passages c.args.lower.now) a.content.board k.board m.board inv.told (g.met.L.Listed.made c.args.lower.now stood) as_many (inv.turn stood mid) c.loop.after inv.place (now.none is) inv.back fresh;
    }

pub returns-in_default-clause-stays : goal.returns-in_default-clause-stays
returns-in_default-clause-stays g c = λ stood fine.
    let a = g.L.Shelf.seen c.args.lower.now in
    let b = g.L.Shelf.seen c.loop.lower in
    let d = g.L.Shelf.seen c.passages_behind.new.self in
    let inv = c.loop.invariant in
    let tells = c.passages_behind.ensures in
    let mid = (only_reads b d c.passages_behind.result _ tells.reads).keeps.harm fine in
    tells.stays (inv.reads.keeps.stands stood mid) fine ∙ inv.stays stood mid
