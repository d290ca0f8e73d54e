-- One page of lives after another, until there is none.
use Rattle.std.proofs.Common.{◌≡◌, ◌∙◌, ◌≤◌, ap, refl, rules, subst, sym, w64}
use Rattle.std.proofs.lemmas.Int.{to_z-of_z}
use mir.Val.{SFits}
use Rattle.std.specs.Prelude.{None, Some}
use Rattle.gaz_keeper.specs.Board.{reached}
use Rattle.gaz_shelf.specs.Mem.{content_in}
use Rattle.gaz_loaded.specs.Lives.{AreAtHand}
use Rattle.gaz_loaded.specs.Restoring.{AreRestored}
use Rattle.gaz_loaded.specs.Telling.{AreNext, last_of}
use Rattle.gaz_loaded.proofs.Brought.{as_many_then, hand_next, hand_none, verdicts_then}
use Rattle.gaz_loaded.proofs.Lives.{all_are}
use Rattle.gaz_loaded.proofs.Reading.{only_reads, reads_nothing, reads_then}
use Rattle.gaz_loaded.proofs.restoring.bring_lives.Goals as goal

pub loop-init : goal.loop-init
loop-init g c =
    let a = g.L.Shelf.seen c.args.lower.now in
    let k = content_in c.args.shelf.now in
    record {
      reads = reads_nothing a;
      idle = c.requires;
      files = refl;
      as_many = λ d. refl;
      verdicts = λ d v. refl;
      stays = λ _ _. refl;
      hand = λ _ _ _ has. hand_none (g.L.Listed.lives c.args.lower.now) (g.L.Listed.passages c.args.lower.now) k.board has;
    }

pub returns-in_default-clause-brings : goal.returns-in_default-clause-brings
returns-in_default-clause-brings g c =
    let a = g.L.Shelf.seen c.args.lower.now in
    let b = g.L.Shelf.seen c.loop.lower in
    let d = g.L.Shelf.seen c.lives_behind.new.self in
    let all = g.L.Listed.lives c.args.lower.now in
    let m = content_in c.loop.shelf in
    let lives = c.in_ok-lives.lives.items in
    let inv = c.loop.invariant in
    let reads = only_reads b d c.lives_behind.result _ c.lives_behind.ensures.tells.reads in
    let is : last_of lives ≡ None = ap last_of (sym c.deref.ensures.value) ∙ sym c.in_default.ensures.value in
    record {
      files = inv.files;
      as_many = inv.as_many;
      verdicts = inv.verdicts;
      views = λ stood fine as_many has q t le.
          let mid = reads.keeps.harm fine in
          let told = subst (λ l. AreNext c.loop.place l lives) (inv.stays stood mid) (c.in_ok-lives.ensures.tells.reads.right (inv.reads.keeps.stands stood mid) fine) in
          let many : reached m.board q ≡ reached a.content.board q = inv.as_many q ∙ as_many q in
          all_are c.loop.place all (g.L.Listed.passages c.args.lower.now) a.content.board m.board (g.met.L.Listed.made c.args.lower.now stood) (inv.hand stood mid as_many has) (told.none is) q t le (subst (λ n. t ≤ n) many le);
    }

pub loop-preserved : goal.loop-preserved
loop-preserved g c =
    let a = g.L.Shelf.seen c.args.lower.now in
    let b = g.L.Shelf.seen c.loop.lower in
    let d = g.L.Shelf.seen c.lives_behind.new.self in
    let all = g.L.Listed.lives c.args.lower.now in
    let k = content_in c.args.shelf.now in
    let m = content_in c.loop.shelf in
    let n = content_in c.restore_lives.new.shelf in
    let lives = c.in_ok-lives.lives.items in
    let inv = c.loop.invariant in
    let next = c.in_ok-restore_lives.ensures in
    let reads = only_reads b d c.lives_behind.result _ c.lives_behind.ensures.tells.reads in
    let is : last_of lives ≡ Some c.in-Some.last.now = ap last_of (sym c.deref.ensures.value) ∙ sym c.in-Some.ensures.value in
    let fits : SFits w64 c.in-Some.last.now.place = search rules in
    let restored = subst (λ l. AreRestored m.board l n.board) c.deref-in-loop.ensures.value next.restored in
    record {
      reads = reads_then a b d inv.reads reads;
      idle = next.idle;
      files = next.files ∙ inv.files;
      as_many = λ q. as_many_then m.board n.board lives restored q ∙ inv.as_many q;
      verdicts = λ q v. verdicts_then m.board n.board lives restored q v ∙ inv.verdicts q v;
      stays = λ stood fine.
          let mid = reads.keeps.harm fine in
          c.in_ok-lives.ensures.tells.stays (inv.reads.keeps.stands stood mid) fine ∙ inv.stays stood mid;
      hand = λ stood fine as_many has.
          let mid = reads.keeps.harm fine in
          let told = subst (λ l. AreNext c.loop.place l lives) (inv.stays stood mid) (c.in_ok-lives.ensures.tells.reads.right (inv.reads.keeps.stands stood mid) fine) in
          subst (λ p. AreAtHand (Some p) all (g.L.Listed.passages c.args.lower.now) n.board) (sym (to_z-of_z w64 c.in-Some.last.now.place fits))
          (hand_next c.loop.place all (g.L.Listed.passages c.args.lower.now) a.content.board m.board n.board lives c.in-Some.last.now is (g.met.L.Listed.made c.args.lower.now stood) (λ q. inv.as_many q ∙ as_many q) (inv.hand stood mid as_many has) told.in_turn restored);
    }
