use Rattle.std.proofs.Common.{false, subst}
use Rattle.std.specs.List.{AllByRecursion}
use Rattle.clap.specs.Words.{found_of, rows_of}
use Rattle.clap.specs.declared.builder.value_parser.ValueParser.TheVariants.{Unsigned}
use Rattle.clap.proofs.ValueTestLemmas.{accepts-Accepts}
use Rattle.gaz_words.specs.Grammar.{most_connections, most_port}
use Rattle.gaz_words.specs.Meaning.{IsGiven, names, wanted}
use Rattle.gaz_words.proofs.Matches.{none_of}
use Rattle.gaz_words.proofs.command.named.Goals as goal

pub port_in-requires : goal.port_in-requires
port_in-requires c =
    let given = subst (λ name. AllByRecursion (IsGiven (rows_of (found_of c.args.given.now))) (wanted name)) c.in-serve.is c.requires.1 in
    let port = given.1.1.0 in
    (port.0, port.1, port.2, accepts-Accepts false (Unsigned 0 most_port) port.0 port.3)

pub connections_in-requires : goal.connections_in-requires
connections_in-requires c =
    let given = subst (λ name. AllByRecursion (IsGiven (rows_of (found_of c.args.given.now))) (wanted name)) c.in-serve.is c.requires.1 in
    let connections = given.1.1.1.0 in
    (connections.0, connections.1, connections.2, accepts-Accepts false (Unsigned 0 most_connections) connections.0 connections.3)

pub unreachable-requires : goal.unreachable-requires
unreachable-requires c =
    let is = c.in_default in
    none_of c.args.name.now names (is.not-play, (is.not-init, (is.not-submit, (is.not-status, (is.not-line, (is.not-extract, (is.not-serve, (is.not-extend, (is.not-migrate, tt))))))))) c.requires.0
