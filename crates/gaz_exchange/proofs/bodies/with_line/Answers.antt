use Rattle.json.specs.Token.{null, string}
use Rattle.gaz_exchange.proofs.BodyFacts.{one_token}
use Rattle.gaz_exchange.proofs.bodies.with_line.Goals as goal
use Rattle.gaz_exchange.proofs.bodies.with_line.Goals.{in-None+in_ok-null-in-None, in-Some+in_ok-string-in-Some}

pub returns : goal.returns
returns c =
    let begun = c.new-writer.ensures.before in
    let none = c.new-writer.ensures.tokens in
    elim c.match-line.branch [
      | in-None+in_ok-null-in-None w ↦
          rw w.in-None.is (one_token _ _ _ _ _ null begun none w.in_ok-null-in-None.ensures w.writer-is c.into_inner.ensures.items)
      | in-Some+in_ok-string-in-Some w ↦
          rw (w.in-Some.is, ← w.as_str.ensures) (one_token _ _ _ _ _ (string w.as_str.result.now) begun none w.in_ok-string-in-Some.ensures w.writer-is c.into_inner.ensures.items)
    ]
