-- What a hub remembers, as it is coded.
use Rattle.std.specs.Prelude.{List, ℕ, refl}
use Rattle.std.specs.Coded.{Coded, code_by, coded_list, coded_ℕ, coded×}
use Rattle.std.specs.FinMap as map
use Rattle.std.specs.Ordering.{nat_cmp}
use Rattle.gaz_keeper.specs.Received.{pair_cmp}
use Rattle.gaz_waiters.specs.Remembered.{Remembered}

abbrev pub remembered_code : Coded Remembered
remembered_code =
    code_by ((List ℕ × map.FinMap pair_cmp (List ℕ)) × map.FinMap nat_cmp (ℕ × ℕ))
    (coded× (coded× (coded_list coded_ℕ) (map.code (coded× coded_ℕ coded_ℕ) (coded_list coded_ℕ)))
    (map.code coded_ℕ (coded× coded_ℕ coded_ℕ)))
    (λ m. ((m.ahead, m.waiting), m.wanted))
    (λ p. record { ahead = p.0.0; waiting = p.0.1; wanted = p.1 }) (λ _. refl)
