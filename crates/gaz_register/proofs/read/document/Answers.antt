use Rattle.std.proofs.Common.{inl, refl}
use Rattle.gaz_register.proofs.Documents.{document-none, document-text}
use Rattle.gaz_register.proofs.read.document.Goals as goal

pub returns-in_default : goal.returns-in_default
returns-in_default c = let cases = c.in_default.ensures.cases in inl (rw (document-none c.args.text.now (cases.0)) refl)

pub returns-in-Ok-table_from_str : goal.returns-in-Ok-table_from_str
returns-in-Ok-table_from_str c =
    let cases = c.in-Ok.ensures.cases in
    let parsed = c.in-Ok-table_from_str.ensures.ok in
    inl (rw (document-text c.args.text.now (cases.1), ← cases.0, parsed) refl)
