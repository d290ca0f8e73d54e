-- The numbers by which the door's refusals are told.
use Rattle.std.specs.Prelude.{ℕ}
use Rattle.gaz_steps.specs.declared.refusal.DoorRefusal.{DoorRefusal}
use Rattle.gaz_steps.specs.declared.refusal.DoorRefusal.TheVariants.{BadVolume, TooLarge}
use Rattle.gaz_steps.specs.declared.refusal.DoorRefusal.TheVariants.{UnknownCustodian}
use Rattle.gaz_steps.specs.declared.refusal.DoorRefusal.TheVariants.{UnknownProfile}

abbrev pub door_number : DoorRefusal → ℕ
door_number UnknownCustodian = 11
door_number BadVolume = 12
door_number TooLarge = 13
door_number UnknownProfile = 16
