use Rattle.std.proofs.Common.{rules, ◌∙◌, ap, refl}
use Rattle.std.specs.HashMap.Entry.{entry_value, map_with_value}
use Rattle.gaz_views.proofs.Outcomes.{on_ok}
use Rattle.gaz_standing.proofs.TieFacts.{Sets, added, among}
use Rattle.gaz_standing.proofs.tied_keys.TiedKeys.add.Goals as goal

pub returns : goal.returns
returns c =
    let es = c.args.self.now.by_uprn.entries in
    let e = c.in_ok-self.field-0 in
    let keys = c.insert.new.self in
    on_ok c.insert.result (λ more n k.
    ap (λ (xs : Sets). among xs n k) (search rules)
    ∙ added es (map_with_value e keys).entries c.args.uprn (entry_value e) _ c.or_insert-keys.result.now keys c.args.key c.in_ok-self.ensures.value refl c.or_insert-keys.ensures.value more (c.in_ok-self.ensures.update.0 keys).0 n k) c.insert.ensures
