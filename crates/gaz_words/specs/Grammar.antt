-- Which commands the program has, and which arguments each of them: what `clap` reads words by.
use Rattle.std.specs.Prelude.{◌≡◌, ℕ, true, false, [], codes, Some}
use Rattle.clap.specs.Words.{App, Rule, Text, app_of, new_app, new_rule, rule_of, with_rule}
use Rattle.clap.specs.Words.{with_subcommand}
use Rattle.clap.specs.declared.builder.action.ArgAction.TheVariants.{Set}
use Rattle.clap.specs.declared.builder.arg.Arg.{Arg}
use Rattle.clap.specs.declared.builder.command.Command.{Command}
use Rattle.clap.specs.declared.builder.command.Command.TheViews.{out-Command}
use Rattle.clap.specs.declared.builder.value_parser.ValueParser.TheVariants.{Unsigned}

-- a word that stands in its place, and has to be there
abbrev pub word : Text → Rule
word name = record (new_rule name) { required = true; action = Some Set }

-- a path behind a word of its own, `--name`, which has to be there
abbrev pub path : Text → Rule
path name = record (word name) { long = Some name; value_names = 1 }

-- a number up to this behind a word of its own, which has to be there
abbrev pub number : Text → ℕ → Rule
number name most = record (path name) { parser = Some (Unsigned 0 most) }

-- a command over a store, whose file and whose register's file are named
abbrev pub over_store : Text → App
over_store name =
    with_rule (with_rule (new_app name) (path (codes "store"))) (path (codes "register"))

abbrev pub submit : App
submit = with_rule (with_rule (with_rule (over_store (codes "submit"))
    (word (codes "CODE"))) (word (codes "VOLUME"))) (word (codes "FILE"))

abbrev pub status : App
status = with_rule (over_store (codes "status")) (word (codes "CODE"))

abbrev pub line : App
line = with_rule (over_store (codes "line")) (word (codes "UPRN"))

abbrev pub extract : App
extract = with_rule (with_rule (over_store (codes "extract")) (word (codes "CODE")))
    (word (codes "VOLUME"))

abbrev pub most_port : ℕ
most_port = 65_535

abbrev pub most_connections : ℕ
most_connections = 1_000_000

abbrev pub serve : App
serve = with_rule (with_rule (over_store (codes "serve")) (number (codes "port") most_port))
    (number (codes "connections") most_connections)

abbrev pub extend : App
extend = with_rule (over_store (codes "extend")) (path (codes "grown"))

-- the program without a command: its words are those behind its name
abbrev pub program : App
program = record {
  top = record (new_app (codes "gazhub")).top { no_binary_name = true; has_version = true };
  subs = [];
}

-- the program with one more command
abbrev pub with_command : App → App → App
with_command whole command = with_subcommand whole command.top

-- with those that hold a conversation, make a store and ask one
abbrev pub asking : App
asking = with_command (with_command (with_command (with_command (with_command (with_command program
    (new_app (codes "play"))) (over_store (codes "init"))) submit) status) line) extract

-- with all of them
abbrev pub gazhub : App
gazhub = with_command (with_command (with_command asking serve) extend)
    (over_store (codes "migrate"))

-- Below, what `clap` was given is read so.

-- an argument by this rule, which is its command's own
abbrev pub IsArgument : Rule → Arg → Type 0
IsArgument rule arg = (rule_of arg ≡ rule) × (arg.global ≡ false)

-- a command by these, no argument of which is its subcommands' too
abbrev pub IsCommand : App → Command → Type 0
IsCommand app command = (app_of command ≡ app) × ((out-Command command).has_globals ≡ false)
