use Rattle.std.proofs.Common.{◌∙◌, refl, subst, sym}
use Rattle.gaz_words.specs.Meaning.{Names}
use Rattle.gaz_words.specs.declared.command.Command.TheVariants.{Play}
use Rattle.gaz_words.proofs.Entered.{complete}
use Rattle.gaz_words.proofs.Matches.{faulty, matches_are, no_fault, sub_none, sub_some}
use Rattle.gaz_words.proofs.Told.{told_of}
use Rattle.gaz_words.proofs.command.read.Goals as goal

pub returns-in_err-given : goal.returns-in_err-given
returns-in_err-given c =
    let parse = c.try_get_matches_from in
    told_of _ c.in_err-given.field-0.0 c.from_residual-in_err-given.result c.from_residual-in_err-given.ensures.1 (faulty _ _ c.in_ok-grammar.ensures parse.result _ c.in_err-given.was parse.ensures.kinds)

pub named-requires : goal.named-requires
named-requires c =
    let parse = c.try_get_matches_from in
    let none = no_fault _ _ c.in_ok-grammar.ensures parse.result _ c.in_ok-given.was parse.ensures.kinds in
    let matched = matches_are _ _ c.in_ok-grammar.ensures parse.result _ c.in_ok-given.was parse.ensures.matches in
    complete _ _ _ none (sym matched ∙ sub_some c.in_ok-given.given _ _ c.in-Some.ensures.name c.in-Some.ensures.rows)

pub returns-in-Some : goal.returns-in-Some
returns-in-Some c =
    let parse = c.try_get_matches_from in
    let none = no_fault _ _ c.in_ok-grammar.ensures parse.result _ c.in_ok-given.was parse.ensures.kinds in
    let matched = matches_are _ _ c.in_ok-grammar.ensures parse.result _ c.in_ok-given.was parse.ensures.matches in
    (none, subst (λ named. Names named c.named.result) (sym (sub_some c.in_ok-given.given _ _ c.in-Some.ensures.name c.in-Some.ensures.rows) ∙ matched) c.named.ensures)

pub returns : goal.returns
returns c =
    let parse = c.try_get_matches_from in
    let none = no_fault _ _ c.in_ok-grammar.ensures parse.result _ c.in_ok-given.was parse.ensures.kinds in
    let matched = matches_are _ _ c.in_ok-grammar.ensures parse.result _ c.in_ok-given.was parse.ensures.matches in
    (none, subst (λ named. Names named Play) (sym (sub_none c.in_ok-given.given c.in-None.ensures.variant) ∙ matched) refl)
