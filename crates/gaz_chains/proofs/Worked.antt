-- The worked examples.
use Rattle.std.proofs.Common.{◌≡◌, ◌<◌, ℕ, zero, suc, true≢false, refl, sym, arith}
use Rattle.std.specs.Prelude.{Some, slice_get, [], ◌∷◌}
use Rattle.gaz_views.specs.declared.custody.Custody.TheVariants.{Released}
use Rattle.gaz_chains.specs.Worked.{WorkedChains}

-- another custodian was named in the release
other_name : (i : ℕ) → slice_get (Released 1002 1 ∷ []) i ≡ Some (Released 1003 1) → ⊥
other_name zero e = let same : ◌≡◌ {A = ℕ} 1002 1003 = cc in omega (arith, same)
other_name (suc i) e = cc

pub worked_chains_holds : WorkedChains
worked_chains_holds = record {
  over_and_back = ((refl, refl), (((0, refl), omega arith), ((refl, refl), (((1, refl), omega arith), tt))));
  never_released = refl;
  only_released = refl;
  there = refl;
  back_again = refl;
  not_twice = λ h. let less : 2 < 1 = h.1 in omega (arith, less);
  not_by_another = λ h. other_name h.0.0 h.0.1;
  not_released_twice = λ h. true≢false (sym h.0);
  a_hop = (refl, refl);
  no_hop = λ h. let e = h.1 in cc;
  an_offer = (refl, refl, refl);
  end_of_chain = refl;
  nobody = refl;
}
