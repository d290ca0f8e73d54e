-- Worked examples on what words mean.
use Rattle.std.proofs.Common.{◌≡◌, ◌∙◌, ap, bytes_eq, codes, false, refl, sym, Ok, Some, true, true≢false}
use Rattle.std.proofs.lemmas.Slice.Eq.{bytes_eq-Decides}
use Rattle.std.specs.Str.Parse.{IsNumeral, without_leading_plus}
use Rattle.clap.specs.ValueTests.{accepts}
use Rattle.clap.specs.Words.{Text}
use Rattle.clap.specs.declared.builder.value_parser.ValueParser.TheVariants.{Unsigned}
use Rattle.clap.proofs.OnLiterals.{clap_on_literals}
use Rattle.clap.proofs.ValueTestLemmas.{accepts-Accepts}
use Rattle.gaz_words.specs.Grammar.{most_connections}
use Rattle.gaz_words.specs.Meaning.{Means}
use Rattle.gaz_words.specs.WorkedWords.{IsMade, WorkedWords, making}
use Rattle.gaz_words.specs.declared.command.Call.TheVariants.{Extract, Line, Status, Submit}
use Rattle.gaz_words.specs.declared.command.Command.{Command}
use Rattle.gaz_words.specs.declared.command.Command.TheVariants.{Ask, Extend, Init, Migrate, Play, Serve}

-- the word that was written
is_it : (word text : Text) → word ≡ text → Some text ≡ Some word
is_it word text e = ap Some (sym e)

is_number : (text : Text) → accepts false (Unsigned 0 most_connections) text ≡ true → IsNumeral 10 (without_leading_plus text)
is_number text e = (accepts-Accepts false (Unsigned 0 most_connections) text e).0

differ : (a b : Text) → bytes_eq a b ≡ false → a ≡ b → ⊥
differ a b none e = true≢false (sym ((bytes_eq-Decides a b).1 e) ∙ none)

nothing_else : (command : Command) → Means making (Ok command) → IsMade command
unfolding clap_on_literals
nothing_else Play means = absurd (differ (codes "init") (codes "play") refl means.1)
nothing_else (Init places) means = (places, refl, (text_is _ _ means.1.1.0, text_is _ _ means.1.1.1))
  where
    text_is : (a b : Text) → Some a ≡ Some b → b ≡ a
    text_is a b e = cc
nothing_else (Ask places (Submit code volume file)) means = absurd (differ (codes "init") (codes "submit") refl means.1.1.0)
nothing_else (Ask places (Status code)) means = absurd (differ (codes "init") (codes "status") refl means.1.1.0)
nothing_else (Ask places (Line uprn)) means = absurd (differ (codes "init") (codes "line") refl means.1.1.0)
nothing_else (Ask places (Extract code volume)) means = absurd (differ (codes "init") (codes "extract") refl means.1.1.0)
nothing_else (Serve places serving) means = absurd (differ (codes "init") (codes "serve") refl means.1.0)
nothing_else (Extend places grown) means = absurd (differ (codes "init") (codes "extend") refl means.1.0)
nothing_else (Migrate places) means = absurd (differ (codes "init") (codes "migrate") refl means.1.0)

pub worked : WorkedWords
unfolding clap_on_literals
worked = record {
  fine = refl;
  makes = λ places are. (refl, (refl, (is_it _ _ are.0, is_it _ _ are.1)));
  nothing_else = nothing_else;
  submits = λ places code volume file are c v f. (refl, ((is_it _ _ are.0, is_it _ _ are.1), (refl, is_it _ _ c, is_it _ _ v, is_it _ _ f)));
  not_swapped = λ places code volume file e means. absurd (cc);
  behind = λ places uprn are u. (refl, ((is_it _ _ are.0, is_it _ _ are.1), (refl, is_it _ _ u)));
  hyphen = λ places uprn are u. (refl, ((is_it _ _ are.0, is_it _ _ are.1), (refl, is_it _ _ u)));
  asks_standing = λ places code are c. (refl, ((is_it _ _ are.0, is_it _ _ are.1), (refl, is_it _ _ c)));
  asks_extract = λ places code volume are c v. (refl, ((is_it _ _ are.0, is_it _ _ are.1), (refl, is_it _ _ c, is_it _ _ v)));
  grows = λ places grown are path. (refl, (refl, (is_it _ _ are.0, is_it _ _ are.1), is_it _ _ path));
  migrates = λ places are. (refl, (refl, (is_it _ _ are.0, is_it _ _ are.1)));
  serves = λ places are. (refl, (refl, (is_it _ _ are.0, is_it _ _ are.1), (codes "8080", refl, is_number (codes "8080") refl, refl), (codes "9", refl, is_number (codes "9") refl, refl)));
  no_port = refl;
  nothing = (refl, refl);
  plays = (refl, refl);
  no_store = refl;
  two_stores = refl;
  unknown = refl;
  help = refl;
}
