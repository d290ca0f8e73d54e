-- Worked examples: which files came as volumes, and keepers that rest bare.
use Rattle.std.specs.Prelude.{◌≡◌, [], ◌∷◌}
use Rattle.std.specs.FinMap as map
use Rattle.gaz_keeper.specs.Examples.{first_received, kept_safe}
use Rattle.gaz_keeper.specs.Keeper.{Content, Seen, after_stop, empty_content}
use Rattle.gaz_keeper.specs.Received.{with_file}
use Rattle.gaz_steps.specs.Hubs.{door_of}
use Rattle.gaz_steps.specs.Sample.{sample_custodians}
use Rattle.gaz_stored.specs.Filling.{AreVolumes, CanBeMirrored, RestsBare, codes_of}

-- a keeper that is its content, and never judges
abbrev pub at_rest : Content → Seen
at_rest k = kept_safe (after_stop k)

pub record WorkedFilling : Type 0 where
  pub codes : codes_of sample_custodians ≡ 1001 ∷ 1002 ∷ 1003 ∷ []
  pub no_codes : codes_of [] ≡ []
  pub of_nothing : AreVolumes map.empty
  pub first : AreVolumes first_received.files
  pub not_a_volume : ¬ AreVolumes (with_file map.empty 1001 0 [])
  pub bare : RestsBare at_rest
  pub not_bare : ¬ RestsBare kept_safe
  pub nothing_yet : CanBeMirrored (door_of sample_custodians) (at_rest empty_content)
  pub of_nobody_known : ¬ CanBeMirrored (door_of []) (at_rest first_received)
