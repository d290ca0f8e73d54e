-- Releases: what their fields say, and how they are written.
use Rattle.std.specs.Prelude.{ℕ, ◌&&◌, nat_le, List, [], ◌∷◌, Result, Bool, decimal}
use Rattle.std.specs.Option.{unwrap_or}
use Rattle.gaz_ids.specs.Limits.{last_code, last_hop}
use Rattle.gaz_fields.specs.Forms.{in_form, says}
use Rattle.gaz_fields.specs.declared.fields.FieldFault.{FieldFault}
use Rattle.gaz_records.specs.Table.{code, hop, release_table, uprn}
use Rattle.gaz_records.specs.Blpus.{is_uprn}
use Rattle.gaz_records.specs.declared.release.Release.{Release}

abbrev pub release_said : List (List ℕ) → Release
release_said f = record {
  uprn = unwrap_or (says uprn f 0) 0;
  to = unwrap_or (says code f 1) 0;
  hop = unwrap_or (says hop f 2) 0;
}

-- the release that fields say, or what is wrong with them
unfoldable pub read_release : List (List ℕ) → Result Release FieldFault
read_release f = in_form release_table f (release_said f)

-- the texts of its fields
abbrev pub release_texts : Release → List (List ℕ)
release_texts x = decimal x.uprn ∷ decimal x.to ∷ decimal x.hop ∷ []

-- the code of a custodian; a hop has the same bounds
abbrev pub is_code : ℕ → Bool
is_code n = nat_le 1 n && nat_le n last_code

abbrev pub is_hop : ℕ → Bool
is_hop n = nat_le 1 n && nat_le n last_hop

-- what the table allows
abbrev pub is_release : Release → Bool
is_release x = is_uprn x.uprn && is_code x.to && is_hop x.hop
