-- The order of pairs is total, and equal pairs are one; what was received is there.
use Rattle.std.proofs.Common.{◌≡◌, ◌∙◌, ℕ, List, Some, ap, cond}
use Rattle.std.proofs.lemmas.Cmp.{on_total, then_total}
use Rattle.std.proofs.lemmas.Map.Lookups.{exact_pairs, exact_unsigned}
use Rattle.std.specs.Cmp.{IsTotalOrder, eq_by_cmp_equiv, nat_cmp_total}
use Rattle.std.specs.FinMap as map
use Rattle.std.specs.Ordering.{nat_cmp}
use Rattle.std.specs.declared.cmp.Ordering.TheVariants.{Equal}
use Rattle.gaz_keeper.specs.Received.{Received, pair_cmp, with_file}

pub pairs_total : IsTotalOrder pair_cmp
pairs_total = then_total (on_total (λ (p : ℕ × ℕ). p.0) nat_cmp_total) (on_total (λ (p : ℕ × ℕ). p.1) nat_cmp_total)

pub pairs_exact : (p q : ℕ × ℕ) → pair_cmp p q ≡ Equal → p ≡ q
pairs_exact p q e = exact_pairs nat_cmp nat_cmp exact_unsigned exact_unsigned p q e

-- what was received now is there
pub there_now : (F K : Received) (c volume : ℕ) (bytes : List ℕ) → K ≡ with_file F c volume bytes → map.get K (c, volume) ≡ Some bytes
there_now F K c volume bytes e =
    ap (λ X. map.get X (c, volume)) e ∙ map.get-insert pairs_total F (c, volume) bytes (c, volume)
    ∙ ap (λ b. cond b (Some bytes) (map.get F (c, volume))) ((eq_by_cmp_equiv pairs_total).refl (c, volume))
