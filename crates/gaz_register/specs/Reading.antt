-- The register that a text describes, or the first fault.
use Rattle.std.specs.Prelude.{ℕ, ℤ, pos, negsuc, ◌&&◌, not, nat_lt, List, length, map, Option, None}
use Rattle.std.specs.Prelude.{Result, Ok, Err, if◌then◌else◌}
use Rattle.std.specs.Option.{ok_or}
use Rattle.std.specs.Str.{is_utf8}
use Rattle.toml.specs.Data.{Members}
use Rattle.toml.specs.Parse.{parse_document}
use Rattle.gaz_ids.specs.Limits.{last_code, last_uprn, last_usrn}
use Rattle.gaz_ids.specs.Numbers.{of_id}
use Rattle.gaz_register.specs.Drafts.{◌then◌, all_good, DraftValue, drafts_in}
use Rattle.gaz_register.specs.Lists.{by_key}
use Rattle.gaz_register.specs.Names.{is_name}
use Rattle.gaz_register.specs.Registers.{CustodianValue, RegisterValue, has_own_codes, is_disjoint}
use Rattle.gaz_register.specs.Registers.{most_blocks, most_custodians}
use Rattle.gaz_register.specs.declared.fault.RegFault.{RegFault}
use Rattle.gaz_register.specs.declared.fault.RegFault.TheVariants.{NotToml, TooMany, BadCode}
use Rattle.gaz_register.specs.declared.fault.RegFault.TheVariants.{BadName, BadBlock, SameCode}
use Rattle.gaz_register.specs.declared.fault.RegFault.TheVariants.{Overlap}

-- the number, where it is from the lowest to the highest
abbrev pub number_from : ℕ → ℕ → ℤ → Option ℕ
number_from low high (pos n) = of_id low high n
number_from low high (negsuc n) = None

-- a block from 1 to the highest number, whose last number isn't below its first
abbrev pub block_from : ℕ → (ℤ × ℤ) → Result (ℕ × ℕ) RegFault
block_from most pair =
    ok_or (number_from 1 most pair.0) BadBlock then (λ first.
    ok_or (number_from 1 most pair.1) BadBlock then (λ last.
    if nat_lt last first then Err BadBlock else Ok (first, last)))

-- at most 8 blocks, by rising first number
unfoldable pub blocks_from : ℕ → List (ℤ × ℤ) → Result (List (ℕ × ℕ)) RegFault
blocks_from most pairs =
    if nat_lt most_blocks (length pairs) then Err BadBlock else
    all_good (map (block_from most) pairs) then (λ blocks. Ok (by_key (λ b. b.0) blocks))

-- the custodian that a draft describes, or the first of its faults
unfoldable pub custodian_from : DraftValue → Result CustodianValue RegFault
custodian_from d =
    ok_or (number_from 1 last_code d.code) BadCode then (λ code.
    if not (is_name d.name) then Err BadName else
    blocks_from last_uprn d.uprn then (λ uprn.
    blocks_from last_usrn d.usrn then (λ usrn.
    Ok (record { code = code; name = d.name; own = record { uprn = uprn; usrn = usrn } }))))

-- the custodians by rising code, or the first fault in the order of the text
unfoldable pub custodians_from : List DraftValue → Result RegisterValue RegFault
custodians_from drafts =
    all_good (map custodian_from drafts) then (λ custodians.
    Ok (by_key (λ c. c.code) custodians))

-- the register, where each custodian has a code of its own and no number is in two blocks
unfoldable pub checked : RegisterValue → Result RegisterValue RegFault
checked register =
    if not (has_own_codes register) then Err SameCode else
    if not (is_disjoint (λ b. b.uprn) register && is_disjoint (λ b. b.usrn) register)
    then Err Overlap else
    Ok register

-- the table that the bytes of a TOML document write
abbrev pub document : List ℕ → Option Members
document text = if is_utf8 text then parse_document text else None

-- the register that a text describes; or the first fault: not TOML, a shape, too many custodians,
-- then the faults of each custodian in the order of the text, then two with one code, then an
-- overlap
unfoldable pub register_of : List ℕ → Result RegisterValue RegFault
register_of text =
    ok_or (document text) NotToml then (λ table.
    drafts_in table then (λ drafts.
    if nat_lt most_custodians (length drafts) then Err TooMany else
    custodians_from drafts then checked))
