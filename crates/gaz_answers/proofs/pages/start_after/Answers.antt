use Rattle.std.proofs.Common.{◌≡◌, ◌<◌, ◌∙◌, arith, ap, sym}
use Rattle.gaz_records.specs.Kinds.{number_of}
use Rattle.gaz_cells.specs.Ids.{kind_in}
use Rattle.gaz_answers.specs.Paging.{is_behind}
use Rattle.gaz_answers.proofs.PageRows.{start_earlier, start_later, start_same}
use Rattle.gaz_answers.proofs.pages.start_after.Goals as goal

pub returns-then-number-own : goal.returns-then-number-own
returns-then-number-own c =
    let own : c.number-own.result ≡ number_of (kind_in c.args.key.now) = c.number-own.ensures ∙ ap number_of c.kind_in.ensures in
    let later : number_of c.args.kind < number_of (kind_in c.args.key.now) = omega (arith, own, c.number.ensures, c.if-number-own.true) in
    start_later c.args.kind c.args.key.now later

pub returns-then-own-number : goal.returns-then-own-number
returns-then-own-number c =
    let own : c.number-own.result ≡ number_of (kind_in c.args.key.now) = c.number-own.ensures ∙ ap number_of c.kind_in.ensures in
    let earlier : number_of (kind_in c.args.key.now) < number_of c.args.kind = omega (arith, own, c.number-2.ensures, c.if-own-number.true) in
    λ k known is. start_earlier c.args.kind c.args.key.now earlier k known is ∙ ap (λ t. is_behind t k) (sym c.new.ensures.bytes)

pub returns : goal.returns
returns c =
    let own : c.number-own.result ≡ number_of (kind_in c.args.key.now) = c.number-own.ensures ∙ ap number_of c.kind_in.ensures in
    let same : number_of (kind_in c.args.key.now) ≡ number_of c.args.kind = omega (arith, own, c.number.ensures, c.number-2.ensures, c.if-number-own.false, c.if-own-number.false) in
    λ k known is. start_same c.args.kind c.args.key.now c.in_ok-name.ensures.form same k known is ∙ ap (λ t. is_behind t k) (sym c.in_ok-name.ensures.id)
