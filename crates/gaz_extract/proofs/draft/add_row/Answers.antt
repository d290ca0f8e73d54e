use Rattle.std.proofs.Common.{◌∙◌, ap, ◌++◌, ◌∷◌, [], map}
use Rattle.std.proofs.lemmas.List.{length-map}
use Rattle.gaz_extract.proofs.Rows.{row_written}
use Rattle.gaz_extract.proofs.draft.add_row.Goals as goal

pub returns : goal.returns
returns c =
    let row = c.in_ok-extend_from_slice.ensures.items ∙ ap (λ s. c.args.out.now.items ++ s) (c.deref.ensures.value ∙ c.in_ok-row.ensures) in
    c.in_ok-push.ensures.items ∙ ap (λ o. o ++ (10 ∷ [])) row
    ∙ row_written c.args.out.now.items (map (λ f. f.now) c.args.fields.now) (simp length-map c.requires)
