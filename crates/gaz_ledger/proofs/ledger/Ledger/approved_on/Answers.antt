use Rattle.std.proofs.Common.{◌∙◌, ◌||◌, ap, sym}
use Rattle.std.specs.Prelude.{Some}
use Rattle.std.specs.List.{list_any}
use Rattle.gaz_ids.specs.declared.lang.Lang.TheVariants.{Eng}
use Rattle.gaz_views.specs.Accounts.{view_in}
use Rattle.gaz_views.specs.Words.{approved_on, entries, is_approved_on}
use Rattle.gaz_standing.proofs.Marked.{any_lang}
use Rattle.gaz_ledger.proofs.ledger.Ledger.approved_on.Goals as goal

pub returns-then-welsh : goal.returns-then-welsh
returns-then-welsh c =
    let es = entries (view_in c.args.self.now c.args.volume) in
    c.if-welsh.true ∙ ap (λ b. b || list_any (λ e. is_approved_on c.args.usrn (Some Eng) e.1) es) c.if-welsh.ensures
    ∙ sym (any_lang c.args.usrn es) ∙ ap (approved_on (view_in c.args.self.now c.args.volume) c.args.usrn) (sym c.in-None.is)

pub returns-else-welsh : goal.returns-else-welsh
returns-else-welsh c =
    let es = entries (view_in c.args.self.now c.args.volume) in
    c.has_any-else-welsh.ensures ∙ ap (λ b. b || list_any (λ e. is_approved_on c.args.usrn (Some Eng) e.1) es) c.if-welsh.ensures
    ∙ sym (any_lang c.args.usrn es) ∙ ap (approved_on (view_in c.args.self.now c.args.volume) c.args.usrn) (sym c.in-None.is)
