-- What the first basis line of the custodian tells.
use Rattle.std.proofs.Common.{◌≡◌, ◌∙◌, false, ap, sym}
use Rattle.gaz_records.specs.declared.adopt.Adopt.{Adopt}
use Rattle.std.specs.Prelude.{None, Some, ◌==◌}
use Rattle.std.specs.List.{find}
use Rattle.std.specs.Option.{option_map_or}
use Rattle.gaz_keeper.specs.Board.{view_after}
use Rattle.gaz_views.specs.View.{custody_at}
use Rattle.gaz_rules.specs.CustodyRules.{is_released_to}
use Rattle.gaz_end_rules.proofs.Progress.{reads_none}
use Rattle.gaz_rules.proofs.Releasing.{found_reached, found_released, none_released}
use Rattle.gaz_rules.proofs.custody_rules.was_released.Goals as goal

pub returns-in_default : goal.returns-in_default
returns-in_default g c =
    let board = (g.K.Shelf.seen c.args.keeper.now).content.board in
    let x = c.args.adopt.now in
    let from = ap (λ (a : Adopt). a.from) c.adopt.view_is in
    let none : find (λ b. b.custodian == x.from) c.args.bases.now ≡ None = ap (λ n. find (λ b. b.custodian == n) c.args.bases.now) (sym from) ∙ sym c.basis_of.ensures ∙ c.in_default.is in
    reads_none _ c.args.code _ _ c.requires (λ _ _ _. sym (none_released board c.args.code x.blpu.uprn x.from x.hop c.args.bases.now none))

pub returns : goal.returns
returns g c =
    let board = (g.K.Shelf.seen c.args.keeper.now).content.board in
    let x = c.args.adopt.now in
    let did = c.in_ok-custody.ensures in
    let from = ap (λ (a : Adopt). a.from) c.adopt.view_is in
    let hop = ap (λ (a : Adopt). a.hop) c.adopt.view_is in
    let uprn = ap (λ (a : Adopt). a.blpu.uprn) c.adopt.view_is in
    let found : find (λ b. b.custodian == x.from) c.args.bases.now ≡ Some c.in-Some.basis = ap (λ n. find (λ b. b.custodian == n) c.args.bases.now) (sym from) ∙ sym c.basis_of.ensures ∙ c.in-Some.is in
    record {
      keeps = did.keeps;
      right = λ stood fine reached.
          c.is_released_to.ensures
          ∙ ap (λ h. option_map_or (is_released_to c.args.code h) c.in_ok-custody.custody false) hop
          ∙ ap (λ o. option_map_or (is_released_to c.args.code x.hop) o false) (did.right stood fine (found_reached board x.from c.args.bases.now c.in-Some.basis found reached) ∙ ap (custody_at (view_after board c.in-Some.basis.custodian c.in-Some.basis.volume)) uprn)
          ∙ sym (found_released board c.args.code x.blpu.uprn x.from x.hop c.args.bases.now c.in-Some.basis found);
      cleared = did.cleared;
      counts = record { kept = did.counts.kept; store = tt; trust = did.counts.trust };
    }
