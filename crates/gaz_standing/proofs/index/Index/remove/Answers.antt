use Rattle.std.proofs.Common.{rules, ◌≡◌, ◌∙◌, ◌&&◌, ap, sym, not, [], List}
use Rattle.std.specs.Prelude.{None, Some}
use Rattle.std.specs.HashMap.{HashMap}
use Rattle.std.specs.Ordering.{eq_by_cmp}
use Rattle.gaz_records.specs.Keys.{key_cmp}
use Rattle.gaz_records.specs.declared.key.Key.{Key}
use Rattle.gaz_standing.proofs.Indexes.{found_in, goes, keys_in, none_less, one_less, under}
use Rattle.gaz_standing.proofs.KeySets.{kept_keys}
use Rattle.gaz_standing.specs.Indexes.{has_key, listed}
use Rattle.gaz_standing.specs.declared.index.Mark.{Mark}
use Rattle.gaz_standing.specs.declared.keys.Keys.{Keys}
use Rattle.gaz_standing.specs.declared.seed.Seed.{Seed}
use Rattle.gaz_standing.proofs.index.Index.remove.Goals as goal

pub returns-then-is_empty : goal.returns-then-is_empty
returns-then-is_empty c =
    let es = c.args.self.now.by_mark.entries in
    let writes = (c.get_mut.follows.holds c.remove.new.self).3 (search rules) in
    let was = ap kept_keys c.in-Some.ensures.value ∙ found_in es c.args.mark in
    let none : listed c.remove.new.self ≡ [] = search rules in
    let less : (k : Key) → has_key [] k ≡ (not (eq_by_cmp key_cmp c.args.key.now k) && under es c.args.mark k) =
    λ k. ap (λ (ks : List Key). has_key ks k) (sym none) ∙ c.remove.ensures k ∙ ap (λ (ks : List Key). not (eq_by_cmp key_cmp c.args.key.now k) && has_key ks k) was in
    one_less es _ c.args.mark None c.args.key.now (goes es _ _ c.args.mark c.remove.new.self writes.0 c.remove-then-is_empty.ensures.updates.0) less

pub returns-else-is_empty : goal.returns-else-is_empty
returns-else-is_empty c =
    let es = c.args.self.now.by_mark.entries in
    let writes = (c.get_mut.follows.holds c.remove.new.self).3 (search rules) in
    let was = ap kept_keys c.in-Some.ensures.value ∙ found_in es c.args.mark in
    one_less es _ c.args.mark (Some c.remove.new.self) c.args.key.now writes.0 (λ k. c.remove.ensures k ∙ ap (λ (ks : List Key). not (eq_by_cmp key_cmp c.args.key.now k) && has_key ks k) was)

pub returns-in_default : goal.returns-in_default
returns-in_default c =
    let same : c.get_mut.follows.lender-at-none ≡ c.args.self.now.by_mark = c.get_mut.follows.holds-at-none in
    let none : [] ≡ keys_in c.args.self.now.by_mark.entries c.args.mark = ap kept_keys c.in_default.ensures.value ∙ found_in c.args.self.now.by_mark.entries c.args.mark in
    λ q k. ap (λ (n : HashMap Mark Keys Seed). under n.entries q k) same ∙ none_less c.args.self.now.by_mark.entries c.args.mark c.args.key.now (sym none) q k
