use Rattle.std.proofs.Common.{sym, ◌∙◌}
use Rattle.gaz_changefile.proofs.Quick.{names_known}
use Rattle.gaz_changefile.proofs.profile.profile_of.Goals as goal

pub returns-then-starts_with : goal.returns-then-starts_with
returns-then-starts_with c = sym (names_known c.args.bytes.now (sym c.starts_with.ensures.value ∙ c.if-starts_with.true))
