use Rattle.std.proofs.Common.{◌∙◌, ◌||◌, ap, refl, sym}
use Rattle.std.specs.Ordering.{eq_by_cmp}
use Rattle.gaz_records.specs.Keys.{key_cmp}
use Rattle.gaz_standing.proofs.KeySets.{added, known}
use Rattle.gaz_standing.specs.Indexes.{has_key}
use Rattle.gaz_standing.specs.Ties.{keys_in}
use Rattle.gaz_standing.specs.declared.tied.Tied.{Tied}
use Rattle.gaz_standing.proofs.tied.Tied.insert.Goals as goal

pub returns-then-eq : goal.returns-then-eq
returns-then-eq c = λ k. known c.in-One.one c.args.key (sym c.if-eq.ensures) k ∙ ap (λ (ks : Tied). eq_by_cmp key_cmp c.args.key k || has_key (keys_in ks) k) (sym c.in-One.is)

pub returns-in_ok-insert-in-Many : goal.returns-in_ok-insert-in-Many
returns-in_ok-insert-in-Many c =
    λ k. added (λ a b. refl) c.in-Many.keys.keys c.insert.new.self.keys c.args.key c.in_ok-insert-in-Many.ensures.updates.0 k ∙ ap (λ (ks : Tied). eq_by_cmp key_cmp c.args.key k || has_key (keys_in ks) k) (sym c.in-Many.is)
