use Rattle.std.proofs.Common.{◌∙◌, ap, is_some, option_map, sym, true≢false}
use Rattle.clap.specs.Words.{found_of}
use Rattle.gaz_words.proofs.Matches.{word_is}
use Rattle.gaz_words.proofs.command.word.Goals as goal

pub unreachable-requires : goal.unreachable-requires
unreachable-requires c = true≢false (sym c.requires.0 ∙ ap is_some (word_is (found_of c.args.given.now) c.args.name.now _ c.get_str.ensures ∙ ap (option_map (λ s. s.now)) c.in-None.is))

pub returns : goal.returns
returns c = word_is (found_of c.args.given.now) c.args.name.now _ c.get_str.ensures ∙ ap (option_map (λ s. s.now)) c.in-Some.is
