use Rattle.std.proofs.Common.{◌∙◌, ap, arith, codes, is_some, subst, sym, true≢false}
use Rattle.std.specs.Prelude.{unwrap_or}
use Rattle.std.specs.Str.Parse.{ExplainsUnsignedError, HasUnsignedDigitsIfOk, ParsesUnsigned}
use Rattle.clap.specs.Words.{found_of, rows_of}
use Rattle.gaz_words.specs.Grammar.{most_port}
use Rattle.gaz_words.specs.Meaning.{IsNumberAt}
use Rattle.gaz_words.proofs.Matches.{number_is}
use Rattle.gaz_words.proofs.command.port_in.Goals as goal

pub unreachable-requires : goal.unreachable-requires
unreachable-requires c =
    let found = found_of c.args.given.now in
    let n = number_is found (codes "port") _ (λ bs r. ParsesUnsigned 16 10 bs r × ExplainsUnsignedError 10 bs r × HasUnsignedDigitsIfOk bs r) 16 most_port c.get_one.result c.get_one.ensures.value (λ u x g. g.0) (omega arith) c.requires in
    true≢false (ap is_some (sym n.1 ∙ c.in-None.is))

pub returns : goal.returns
returns c =
    let found = found_of c.args.given.now in
    let n = number_is found (codes "port") _ (λ bs r. ParsesUnsigned 16 10 bs r × ExplainsUnsignedError 10 bs r × HasUnsignedDigitsIfOk bs r) 16 most_port c.get_one.result c.get_one.ensures.value (λ u x g. g.0) (omega arith) c.requires in
    subst (IsNumberAt (rows_of found) (codes "port")) (ap (λ o. unwrap_or o 0) (sym n.1 ∙ c.in-Some.is)) n.2
