-- The next volume is judged on the last view.
use Rattle.gaz_shelf.specs.Mem.{content_in}
use Rattle.gaz_loaded.proofs.Entered.{applied, at_hand_next, on_ok, rejected}
use Rattle.gaz_loaded.proofs.entering.enter.Goals as goal

pub returns-in_ok-begin-in-Applied-clause-enters : goal.returns-in_ok-begin-in-Applied-clause-enters
returns-in_ok-begin-in-Applied-clause-enters c =
    let k = content_in c.args.shelf.now in
    let l = content_in c.reached.new.self in
    let same = c.reached.ensures.reads.keeps.content tt tt in
    let is = c.in_ok-reached.ensures.reads.right tt tt in
    let next = at_hand_next k l c.args.code c.args.volume c.number.result c.in_ok-reached.field-0 same is c.if-branch-number.false c.number.ensures.value c.number.ensures.range.0 c.requires.there in
    on_ok c.keep.result (applied k l (content_in c.begin.new.self) (content_in c.keep.new.self) _ c.args.code c.args.volume c.number.result c.in_ok-reached.field-0 c.args.verdict same is c.if-branch-number.false c.number.ensures.value c.number.ensures.range.0 c.in-Applied.is (c.in_ok-begin-in-Applied.ensures.done tt next tt) c.in_ok-begin-in-Applied.ensures.on) (c.keep.ensures.keeps.done tt tt tt)

pub returns-in-Rejected-clause-enters : goal.returns-in-Rejected-clause-enters
returns-in-Rejected-clause-enters c =
    let k = content_in c.args.shelf.now in
    let l = content_in c.reached.new.self in
    let same = c.reached.ensures.reads.keeps.content tt tt in
    let is = c.in_ok-reached.ensures.reads.right tt tt in
    let next = at_hand_next k l c.args.code c.args.volume c.number.result c.in_ok-reached.field-0 same is c.if-branch-number.false c.number.ensures.value c.number.ensures.range.0 c.requires.there in
    on_ok c.skip.result (rejected k l (content_in c.skip.new.self) c.args.code c.args.volume c.number.result c.in_ok-reached.field-0 c.in-Rejected.place c.in-Rejected.rule c.args.verdict same is c.if-branch-number.false c.number.ensures.value c.number.ensures.range.0 c.in-Rejected.is) (c.skip.ensures.done tt next tt)
