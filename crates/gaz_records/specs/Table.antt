-- The field table: for each kind of item the fields of its record after the order field, each with
-- its form.
use Rattle.std.specs.Prelude.{List, [], ◌∷◌}
use Rattle.gaz_ids.specs.Limits.{last_code, last_hop, last_uprn, last_usrn}
use Rattle.gaz_fields.specs.Forms.{Form, Digits, Language, BlpuStatus, LpiStatus, LabelTo, TextTo}
use Rattle.gaz_fields.specs.Forms.{Date, EndDate, AddressableObject, Opt}

abbrev pub usrn : Form
usrn = Digits 8 1 last_usrn

abbrev pub uprn : Form
uprn = Digits 12 1 last_uprn

abbrev pub code : Form
code = Digits 4 1 last_code

abbrev pub hop : Form
hop = Digits 4 1 last_hop

-- 11 street: usrn (key); type; start date; end date
abbrev pub street_table : List Form
street_table = usrn ∷ Digits 1 1 4 ∷ Date ∷ Opt EndDate ∷ []

-- 15 descriptor: usrn, language (key); description; locality; town; administrative area
abbrev pub descriptor_table : List Form
descriptor_table = usrn ∷ Language ∷ TextTo 100 ∷ Opt (TextTo 35) ∷ Opt (TextTo 30) ∷ TextTo 30 ∷ []

-- metres east and north of the false origin of the National Grid
abbrev pub easting : Form
easting = Digits 6 0 700_000

abbrev pub northing : Form
northing = Digits 7 0 1_300_000

-- what is said of a BLPU behind its number: status; easting, northing; parent uprn; postcode; start
-- date; end date
abbrev pub behind_uprn : List Form
behind_uprn =
    BlpuStatus ∷ easting ∷ northing ∷ Opt uprn ∷ Opt (TextTo 8) ∷ Date ∷ Opt EndDate ∷ []

-- 21 BLPU: uprn (key); what is said of it
abbrev pub blpu_table : List Form
blpu_table = uprn ∷ behind_uprn

-- 23 cross reference: key (key); uprn; source; reference; start date; end date
abbrev pub xref_table : List Form
xref_table = LabelTo 14 ∷ uprn ∷ LabelTo 6 ∷ TextTo 50 ∷ Date ∷ Opt EndDate ∷ []

-- 24 LPI: key (key); uprn; language; status; usrn; secondary object; primary object; start date;
-- end date
abbrev pub lpi_table : List Form
lpi_table =
    LabelTo 14 ∷ uprn ∷ Language ∷ LpiStatus ∷ usrn ∷ Opt AddressableObject ∷ AddressableObject
    ∷ Date ∷ Opt EndDate ∷ []

-- 91 release: uprn (key); the custodian that is to have it; hop
abbrev pub release_table : List Form
release_table = uprn ∷ code ∷ hop ∷ []

-- 92 adoption: uprn (key); the custodian that released it; hop; what is said of the BLPU
abbrev pub adopt_table : List Form
adopt_table = uprn ∷ code ∷ hop ∷ behind_uprn
