-- From what `clap` says of matches to the words that were written.
use Rattle.std.proofs.Common.{◌≡◌, ◌∙◌, ◌<◌, ◌^◌, ℕ, Bool, true, false, arith, List, [], ◌∷◌, Option, Some, None, Result, Ok, Err, IfOk, refl, sym, subst, true≢false, is_some, option_map, Box, bytes_eq, ◌||◌}
use Rattle.std.specs.Borrow.{Bor}
use Rattle.std.specs.Box.{box_value}
use Rattle.std.specs.List.{AllByRecursion, list_any}
use Rattle.std.specs.Str.Parse.{ParsesUnsigned}
use Rattle.std.proofs.lemmas.Slice.Eq.{bytes_eq-Decides}
use Rattle.clap.specs.Matches.{ReadsOne}
use Rattle.clap.specs.Words.{FailsBy, HasKind, HasMatchesOf, Row, Text, app_of, fault_of, first_of, first_value, has_subcommand, is_simple_and_free, one_text, rows_of, subcommand_name_of, subcommand_of, subcommand_rows, subcommand_rows_of}
use Rattle.clap.specs.declared.builder.command.Command.{Command}
use Rattle.clap.specs.declared.error.Error.{Error}
use Rattle.clap.specs.declared.parser.matches.ArgMatches.{ArgMatches}
use Rattle.clap.specs.declared.parser.matches.ArgMatches.TheViews.{out-ArgMatches, out-SubCommand}
use Rattle.clap.specs.declared.parser.matches.Found.{Found}
use Rattle.clap.specs.declared.parser.matches.SubCommand.{SubCommand}
use Rattle.clap.proofs.WalkLemmas.{first_value-rows, one_text-rows}
use Rattle.gaz_words.specs.Grammar.{IsCommand, gazhub}
use Rattle.gaz_words.specs.Meaning.{HasNumber, IsNumberAt}

-- the word that was asked for is the one that was written
pub word_is : (f : Found) (name : Text) (word : Option (Bor Text)) → option_map (λ s. s.now) word ≡ first_value f name → first_of name (rows_of f) ≡ option_map (λ s. s.now) word
word_is f name word e = sym (first_value-rows f name) ∙ sym e

-- so is the number
pub number_is : (f : Found) (name : Text) (E : Type 0) (G : List ℕ → Result ℕ E → Type 0) (bits most : ℕ) (r : Option ℕ) → ((text : List ℕ) → one_text f name ≡ Some text → ReadsOne G text r)
    → ((u : List ℕ) (x : Result ℕ E) → G u x → ParsesUnsigned bits 10 u x) → most < 2 ^ bits → HasNumber (rows_of f) name most → (n : ℕ) × (r ≡ Some n) × IsNumberAt (rows_of f) name n
number_is f name E G bits most r reads only fits has = go r (reads has.0 (one_text-rows f name ∙ has.2))
  where
    go : (o : Option ℕ) → ReadsOne G has.0 o → (n : ℕ) × (o ≡ Some n) × IsNumberAt (rows_of f) name n
    go (Some n) read =
        let parsed = only has.0 (Ok n) read in
        (n, refl, (has.0, has.1, parsed.0.0, parsed.1))
    go None read = absurd (only has.0 (Err read.0) read.1 (has.3.0, omega (arith, has.3, fits)))

-- none of these
pub none_of : (name : Text) (xs : List Text) → AllByRecursion (λ x. name ≡ x → ⊥) xs → list_any (λ known. bytes_eq known name) xs ≡ true → ⊥
none_of name [] others any = true≢false (sym any)
none_of name (x ∷ xs) others any = go (bytes_eq x name) refl any (none_of name xs others.1)
  where
    go : (b : Bool) → bytes_eq x name ≡ b → (b || list_any (λ known. bytes_eq known name) xs) ≡ true → (list_any (λ known. bytes_eq known name) xs ≡ true → ⊥) → ⊥
    go true e any later = others.0 (sym ((bytes_eq-Decides x name).0 e))
    go false e any later = later any

module _ {Z : Type 0} where
  some_rows : (sub : Option (Box SubCommand Z)) (name : Text) (rows : List Row) → Some name ≡ option_map (λ b. (out-SubCommand (box_value b)).name.now) sub → Some rows ≡ option_map (λ p. p.1) (subcommand_rows sub)
      → subcommand_rows sub ≡ Some (name, rows)
  some_rows None name rows e es = absurd (cc)
  some_rows (Some b) name rows e es = cc

  no_rows : (sub : Option (Box SubCommand Z)) → false ≡ is_some sub → subcommand_rows sub ≡ None
  no_rows None e = refl
  no_rows (Some b) e = absurd (true≢false (sym e))

pub sub_some : (m : ArgMatches) (name : Text) (rows : List Row) → Some name ≡ subcommand_name_of m → Some rows ≡ option_map (λ p. p.1) (subcommand_rows_of m) → subcommand_rows_of m ≡ Some (name, rows)
sub_some m name rows e es = some_rows (out-ArgMatches m).subcommand name rows e es

pub sub_none : (m : ArgMatches) → false ≡ has_subcommand m → subcommand_rows_of m ≡ None
sub_none m e = no_rows (out-ArgMatches m).subcommand e

simple : is_simple_and_free gazhub ≡ true
simple = refl

-- what comes of a parse by the program's commands
module _ (words : List Text) (command : Command) (is : IsCommand gazhub command) (parsed : Result ArgMatches Error) where
  fails : (is_simple_and_free (app_of command) ≡ true → FailsBy (fault_of (app_of command) words) parsed) → FailsBy (fault_of gazhub words) parsed
  fails kinds = subst (λ a. is_simple_and_free a ≡ true → FailsBy (fault_of a words) parsed) is.0 kinds simple

  pub no_fault : (m : ArgMatches) → parsed ≡ Ok m → (is_simple_and_free (app_of command) ≡ true → FailsBy (fault_of (app_of command) words) parsed) → fault_of gazhub words ≡ []
  no_fault m e kinds = subst (FailsBy (fault_of gazhub words)) e (fails kinds)

  pub faulty : (error : Error) → parsed ≡ Err error → (is_simple_and_free (app_of command) ≡ true → FailsBy (fault_of (app_of command) words) parsed) → HasKind (fault_of gazhub words) error
  faulty error e kinds = subst (FailsBy (fault_of gazhub words)) e (fails kinds)

  pub matches_are : (m : ArgMatches) → parsed ≡ Ok m → IfOk parsed (HasMatchesOf (app_of command) words) → subcommand_rows_of m ≡ subcommand_of gazhub words
  matches_are m e matches =
      let own : HasMatchesOf (app_of command) words m = subst (λ r. IfOk r (HasMatchesOf (app_of command) words)) e matches in
      (subst (λ a. HasMatchesOf a words m) is.0 own refl).1
