-- The routes, once they are found.
use Rattle.std.proofs.Common.{◌≡◌, Bool, true, false, List, [], ◌∷◌, ◌++◌, refl, ap, sym, ◌∙◌, append_assoc, append-nil}
use Rattle.std.specs.Prelude.{◌&&◌, not}
use Rattle.std.specs.List.{list_all}
use Rattle.std.proofs.lemmas.List.Folds.{list_all-append}
use Rattle.gaz_exchange.specs.Exchanges.{Exchange, RoutesStay}

-- whether the routes are there after these exchanges
pub record AreFoundBy (routed : Bool) (es : List Exchange) : Type 0 where
  pub stay : RoutesStay es
  pub none_yet : routed ≡ false → stay.having ≡ []

pub found_by_none : (routed : Bool) → AreFoundBy routed []
found_by_none routed = record {
  stay = record { without = []; having = []; split = refl; missed = refl; found = refl };
  none_yet = λ e. refl;
}

all_with : (test : Exchange → Bool) (es : List Exchange) (e : Exchange) → list_all test es ≡ true → test e ≡ true → list_all test (es ++ e ∷ []) ≡ true
all_with test es e all one = list_all-append test es (e ∷ []) ∙ ap (λ b. b && (test e && true)) all ∙ ap (λ b. b && true) one

-- one exchange more
pub found_by_more : (was now : Bool) (es : List Exchange) (e : Exchange) → (was ≡ true → now ≡ true) → e.routed ≡ now → AreFoundBy was es → AreFoundBy now (es ++ e ∷ [])
found_by_more was true es e stays is f =
    let s = f.stay in
    record {
      stay = record {
        without = s.without;
        having = s.having ++ e ∷ [];
        split = ap (λ l. l ++ e ∷ []) s.split ∙ append_assoc s.without s.having (e ∷ []);
        missed = s.missed;
        found = all_with (λ x. x.routed) s.having e s.found is;
      };
      none_yet = λ no. cc no;
    }
found_by_more true false es e stays is f = absurd (cc (stays refl))
found_by_more false false es e stays is f =
    let s = f.stay in
    let alone : es ≡ s.without = s.split ∙ ap (λ l. s.without ++ l) (f.none_yet refl) ∙ append-nil s.without in
    record {
      stay = record {
        without = s.without ++ e ∷ [];
        having = [];
        split = ap (λ l. l ++ e ∷ []) alone ∙ sym (append-nil (s.without ++ e ∷ []));
        missed = all_with (λ x. not x.routed) s.without e s.missed (ap not is);
        found = refl;
      };
      none_yet = λ no. refl;
    }
