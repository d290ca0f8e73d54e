-- What the door lets in came as a volume from 1 on.
use Rattle.std.proofs.Common.{◌≡◌, ◌≤◌, ℕ, Bool, true, false, cond, not, List, arith, Option, Some, None, refl}
use Rattle.std.proofs.lemmas.Bool.Decides.{nat_tests}
use Rattle.gaz_register.specs.Registers.{knows}
use Rattle.gaz_steps.specs.Step.{Door, file_refusal, is_volume}
use Rattle.gaz_steps.specs.declared.refusal.DoorRefusal.{DoorRefusal}
use Rattle.gaz_steps.specs.declared.refusal.DoorRefusal.TheVariants as at_door
use Rattle.gaz_steps.proofs.Known.{early_let_in}
use Rattle.gaz_steps.proofs.Finding.{run_so}
use Rattle.gaz_stored.specs.Filling.{VolumesStay}
use Rattle.gaz_stored.proofs.laws.volumes_stay.Goals as goal

is_volume_in : (known volume : Bool) (o : Option DoorRefusal) → cond (not known) (Some at_door.UnknownCustodian) (cond (not volume) (Some at_door.BadVolume) o) ≡ None → volume ≡ true
is_volume_in known true o e = refl
is_volume_in true false o e = cc
is_volume_in false false o e = cc

let_in_volume : (d : Door) (c volume : ℕ) (bytes : List ℕ) → file_refusal d c volume bytes ≡ None → 1 ≤ volume
let_in_volume d c volume bytes e =
    let is : is_volume volume ≡ true = is_volume_in (knows d.register c) (is_volume volume) _ (early_let_in d c volume bytes e) in
    grind (arith, nat_tests, is)

volumes_stay : VolumesStay
volumes_stay d old new commands responses all run = run_so d (λ p. 1 ≤ p.1) (let_in_volume d) old new commands responses run all

pub returns : goal.returns
returns c = volumes_stay
