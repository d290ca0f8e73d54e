-- What was told of streets stays right.
use Rattle.std.proofs.Common.{◌≡◌, ℕ, Bool, true, false, cond, refl, sym, ◌∙◌, subst, ap, []}
use Rattle.std.specs.Prelude.{Some}
use Rattle.std.specs.BTreeMap.{BTreeMap, Updates, get, is_at}
use Rattle.std.specs.Cmp.{Equal-is}
use Rattle.std.specs.Ordering.{nat_cmp}
use Rattle.std.proofs.lemmas.Map.Lookups.{exact_unsigned}
use Rattle.gaz_register.specs.Registers.{RegisterValue}
use Rattle.gaz_keeper.specs.Board.{Board}
use Rattle.gaz_extract.specs.Closing.{is_closed_elsewhere}
use Rattle.gaz_extract.specs.Remembering.{AreRight, AskedStreets}

-- of no street anything was told
pub nothing_asked : (board : Board) (register : RegisterValue) (c : ℕ) (asked : AskedStreets) → asked ≡ [] → AreRight board register c asked
nothing_asked board register c asked e = subst (AreRight board register c) (sym e) (λ usrn told there. cc)

-- one street more
pub one_more : (board : Board) (register : RegisterValue) (c : ℕ) (old new : BTreeMap ℕ Bool) (usrn : ℕ) (closed : Bool) → Updates nat_cmp old new usrn (Some closed)
    → closed ≡ is_closed_elsewhere board register c usrn → AreRight board register c old.entries → AreRight board register c new.entries
one_more board register c old new usrn closed up is right n told there =
    elim (is_at (nat_cmp usrn) n) as (λ b. is_at (nat_cmp usrn) n ≡ b → cond b (Some closed) (get nat_cmp old n) ≡ Some told → told ≡ is_closed_elsewhere board register c n) [
      | true ↦ λ at e.
          let same : usrn ≡ n = exact_unsigned usrn n ((Equal-is (nat_cmp usrn n)).0 at) in
          let said : closed ≡ told = cc in
          sym said ∙ is ∙ ap (is_closed_elsewhere board register c) same
      | false ↦ λ _ e. right n told e
    ] refl (sym (up.0 n) ∙ there)
