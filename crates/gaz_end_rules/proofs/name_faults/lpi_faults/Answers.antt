-- An approved LPI, from three calls.
use Rattle.std.proofs.Common.{◌≡◌, ◌∙◌, ap, sym, true, not, Bool}
use Rattle.std.specs.Prelude.{Some}
use Rattle.std.specs.List.{list_any}
use Rattle.gaz_records.specs.declared.item.Item.TheVariants as item
use Rattle.gaz_views.specs.Words.{approved_of}
use Rattle.gaz_end_rules.specs.Bases.{are_reached, basis_views}
use Rattle.gaz_end_rules.specs.Breaches.{blpu_state}
use Rattle.gaz_end_rules.specs.EndRules.{same_key}
use Rattle.gaz_end_rules.specs.Knowing.{Recalls}
use Rattle.gaz_end_rules.specs.Streets.{street_faults}
use Rattle.gaz_end_rules.specs.declared.name_faults.BlpuState.{BlpuState}
use Rattle.gaz_end_rules.proofs.Breaching.{approved_breaks}
use Rattle.gaz_end_rules.proofs.Progress.{reads_both}
use Rattle.gaz_end_rules.proofs.name_faults.lpi_faults.Goals as goal

pub returns : goal.returns
returns g c =
    let was = g.K.Shelf.seen c.args.keeper.now in
    let lpi = c.lpi.inside in
    let blpu = c.in_ok-blpu.blpu in
    let second = c.in_ok-is_second.is_second in
    let street = c.in_ok-street.street in
    reads_both {T = BlpuState × Bool} _ _ _ (blpu, second) street _
    (λ p. (p.0 ≡ blpu_state was.content.working lpi.uprn) × (p.1 ≡ list_any (λ m. not (same_key m c.args.key.now)) (approved_of was.content.working lpi.uprn)))
    (λ k f. are_reached k.board c.args.bases.now ≡ true → Recalls k.working (basis_views k.board c.args.bases.now) c.args.last.now → Recalls k.working (basis_views k.board c.args.bases.now) c.faults_on.new.last × (f ≡ street_faults k.working (basis_views k.board c.args.bases.now) lpi.usrn lpi.lang)) _
    (reads_both {V = BlpuState × Bool} _ _ _ blpu second (blpu, second) (λ b. b ≡ blpu_state was.content.working lpi.uprn)
    (λ k s. s ≡ list_any (λ m. not (same_key m c.args.key.now)) (approved_of k.working lpi.uprn)) _
    c.in_ok-blpu.ensures c.in_ok-is_second.ensures (λ a b. (a, b)))
    c.in_ok-street.ensures
    (λ told streets reached here right.
    let did = streets reached right in (
      did.0,
      approved_breaks was.content.working (basis_views was.content.board c.args.bases.now) c.args.key.now _ second blpu street
          (here ∙ ap (λ l. Some (item.Lpi l)) (sym c.lpi.view_is)) c.in-Approved.is told.1 told.0 did.1,
    ))
