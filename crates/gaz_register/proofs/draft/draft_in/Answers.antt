use Rattle.std.proofs.Common.{◌≡◌, ◌∙◌, inl, length, refl, rules, sym, btree_map_len}
use Rattle.std.proofs.lemmas.Int.{to_z-of_z}
use Rattle.std.proofs.lemmas.Result.{err_from_is_err_and}
use mir.Syntax.{w64}
use mir.Val.{SFits}
use Rattle.toml.specs.View.{table_view}
use Rattle.gaz_register.proofs.Documents.{draft-keys, draft-uprn, draft-usrn, draft-whole, key_count-members}
use Rattle.gaz_register.proofs.Gather.{fault-of, ok-of}
use Rattle.gaz_register.proofs.draft.draft_in.Goals as goal

pub returns-then-len-ne4 : goal.returns-then-len-ne4
returns-then-len-ne4 c =
    let es = c.args.table.now.entries in
    let len : btree_map_len c.args.table.now ≡ length es = search rules in
    inl (sym (draft-keys (table_view c.args.table.now) (λ e. c.if-len-ne4.true (c.len.ensures.len ∙ len ∙ sym (key_count-members es) ∙ e))))

pub returns-in_err-uprn : goal.returns-in_err-uprn
returns-in_err-uprn c =
    let p = err_from_is_err_and c.from_residual-in_err-uprn.result c.from_residual-in_err-uprn.ensures.1 in
    let es = c.args.table.now.entries in
    let table = table_view c.args.table.now in
    let len : btree_map_len c.args.table.now ≡ length es = search rules in
    let count = key_count-members es ∙ sym len ∙ sym c.len.ensures.len ∙ c.if-len-ne4.false in
    rw (p.1, p.2) (fault-of c.in_err-uprn.field-0.0 _ _ c.in_err-uprn.ensures (λ q.
    draft-uprn table c.in_ok-code.code c.in_ok-name.name.now c.in_err-uprn.field-0.0 count (sym c.in_ok-code.ensures) (sym c.in_ok-name.ensures) q))

pub returns-in_err-usrn : goal.returns-in_err-usrn
returns-in_err-usrn c =
    let p = err_from_is_err_and c.from_residual-in_err-usrn.result c.from_residual-in_err-usrn.ensures.1 in
    let es = c.args.table.now.entries in
    let table = table_view c.args.table.now in
    let len : btree_map_len c.args.table.now ≡ length es = search rules in
    let count = key_count-members es ∙ sym len ∙ sym c.len.ensures.len ∙ c.if-len-ne4.false in
    let uprn = ok-of c.in_ok-uprn.uprn.items _ c.in_ok-uprn.ensures in
    rw (p.1, p.2) (fault-of c.in_err-usrn.field-0.0 _ _ c.in_err-usrn.ensures (λ q.
    draft-usrn table c.in_ok-code.code c.in_ok-name.name.now c.in_ok-uprn.uprn.items c.in_err-usrn.field-0.0 count (sym c.in_ok-code.ensures) (sym c.in_ok-name.ensures) uprn q))

pub returns : goal.returns
returns c =
    let es = c.args.table.now.entries in
    let table = table_view c.args.table.now in
    let len : btree_map_len c.args.table.now ≡ length es = search rules in
    let count = key_count-members es ∙ sym len ∙ sym c.len.ensures.len ∙ c.if-len-ne4.false in
    let uprn = ok-of c.in_ok-uprn.uprn.items _ c.in_ok-uprn.ensures in
    let usrn = ok-of c.in_ok-usrn.usrn.items _ c.in_ok-usrn.ensures in
    let fits : SFits w64 c.in_ok-code.code = search rules in
    rw (draft-whole table c.in_ok-code.code c.in_ok-name.name.now c.in_ok-uprn.uprn.items c.in_ok-usrn.usrn.items count (sym c.in_ok-code.ensures) (sym c.in_ok-name.ensures) uprn usrn, to_z-of_z w64 c.in_ok-code.code fits) (inl refl)
