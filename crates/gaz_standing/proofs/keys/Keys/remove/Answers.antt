use Rattle.std.proofs.Common.{◌∙◌, ◌&&◌, not, ap, sym}
use Rattle.std.specs.Ordering.{eq_by_cmp, is_eq}
use Rattle.gaz_records.specs.Keys.{key_cmp}
use Rattle.gaz_records.proofs.KeyOrder.{keys_same}
use Rattle.gaz_standing.proofs.KeySets.{gone, stays, taken}
use Rattle.gaz_standing.specs.Indexes.{has_key, listed}
use Rattle.gaz_standing.specs.declared.keys.Keys.{Keys}
use Rattle.gaz_standing.proofs.keys.Keys.remove.Goals as goal

pub returns-then-is_eq : goal.returns-then-is_eq
returns-then-is_eq c =
    λ k. gone c.new.result.keys c.in-One.one c.args.key.now c.new.ensures.empty (ap is_eq (sym c.compare.ensures) ∙ sym c.if-is_eq.ensures) k ∙ ap (λ (ks : Keys). not (eq_by_cmp key_cmp c.args.key.now k) && has_key (listed ks) k) (sym c.in-One.is)

pub returns-else-is_eq : goal.returns-else-is_eq
returns-else-is_eq c =
    λ k. stays c.in-One.one c.args.key.now (ap is_eq (sym c.compare.ensures) ∙ sym c.if-is_eq.ensures) k ∙ ap (λ (ks : Keys). not (eq_by_cmp key_cmp c.args.key.now k) && has_key (listed ks) k) (sym c.in-One.is)

pub returns-in-Many : goal.returns-in-Many
returns-in-Many c =
    λ k. taken keys_same c.in-Many.keys.keys c.remove.new.self.keys c.args.key.now c.remove.ensures.updates.0 k ∙ ap (λ (ks : Keys). not (eq_by_cmp key_cmp c.args.key.now k) && has_key (listed ks) k) (sym c.in-Many.is)
