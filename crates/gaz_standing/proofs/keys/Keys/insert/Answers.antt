use Rattle.std.proofs.Common.{◌∙◌, ◌||◌, ap, sym}
use Rattle.std.specs.Ordering.{eq_by_cmp, is_eq}
use Rattle.gaz_records.specs.Keys.{key_cmp}
use Rattle.gaz_views.proofs.Outcomes.{where_err}
use Rattle.gaz_records.proofs.KeyOrder.{keys_same}
use Rattle.gaz_standing.proofs.KeySets.{added, known, not_there}
use Rattle.gaz_standing.specs.Indexes.{has_key, listed}
use Rattle.gaz_standing.specs.declared.keys.Keys.{Keys}
use Rattle.gaz_standing.proofs.keys.Keys.insert.Goals as goal

pub returns-then-is_eq-clause-ok : goal.returns-then-is_eq-clause-ok
returns-then-is_eq-clause-ok c = λ k. known c.in-One.one c.args.key (ap is_eq (sym c.compare.ensures) ∙ sym c.if-is_eq.ensures) k ∙ ap (λ (ks : Keys). eq_by_cmp key_cmp c.args.key k || has_key (listed ks) k) (sym c.in-One.is)

pub returns-in_ok-insert-in-Many-clause-ok : goal.returns-in_ok-insert-in-Many-clause-ok
returns-in_ok-insert-in-Many-clause-ok c =
    λ k. added keys_same c.in-Many.keys.keys c.insert.new.self.keys c.args.key c.in_ok-insert-in-Many.ensures.updates.0 k ∙ ap (λ (ks : Keys). eq_by_cmp key_cmp c.args.key k || has_key (listed ks) k) (sym c.in-Many.is)

pub returns-in_err-both-in-One-clause-absent : goal.returns-in_err-both-in-One-clause-absent
returns-in_err-both-in-One-clause-absent c =
    where_err c.from_residual.result (ap (λ (ks : Keys). has_key (listed ks) c.args.key) c.in-One.is ∙ not_there c.in-One.one c.args.key (ap is_eq (sym c.compare.ensures) ∙ sym c.if-is_eq.ensures))
