use Rattle.std.proofs.Common.{rules, ◌∙◌}
use Rattle.std.specs.Prelude.{Some}
use Rattle.std.specs.HashMap.Entry.{entry_value, map_with_value}
use Rattle.gaz_views.proofs.Outcomes.{on_ok}
use Rattle.gaz_standing.proofs.Indexes.{in_end, more_there, none_more, on_errs, one_more, same_there}
use Rattle.gaz_standing.proofs.index.Index.add.Goals as goal

pub returns-clause-ok : goal.returns-clause-ok
returns-clause-ok c =
    let es = c.args.self.now.by_mark.entries in
    let e = c.in_ok-self.field-0 in
    let keys = c.insert.new.self in
    let there = more_there es c.args.mark (entry_value e) c.or_insert-keys.result.now c.one.result keys c.args.key c.in_ok-self.ensures.value c.or_insert-keys.ensures.value c.one.ensures in
    on_ok c.insert.result (λ more q k.
    in_end (map_with_value e keys).entries _ (search rules) q k ∙ one_more es (map_with_value e keys).entries c.args.mark (Some keys) c.args.key (c.in_ok-self.ensures.update.0 keys).0 (there more) q k) c.insert.ensures.ok

pub returns-clause-err : goal.returns-clause-err
returns-clause-err c =
    let es = c.args.self.now.by_mark.entries in
    let e = c.in_ok-self.field-0 in
    let keys = c.insert.new.self in
    let there = same_there es c.args.mark (entry_value e) c.or_insert-keys.result.now c.one.result keys c.args.key c.in_ok-self.ensures.value c.or_insert-keys.ensures.value c.one.ensures in
    on_errs c.insert.result (λ none same q k.
    in_end (map_with_value e keys).entries _ (search rules) q k ∙ none_more es (map_with_value e keys).entries c.args.mark (Some keys) (c.in_ok-self.ensures.update.0 keys).0 (there none same) q k) c.insert.ensures.absent c.insert.ensures.err
