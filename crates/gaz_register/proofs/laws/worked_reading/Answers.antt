use Rattle.std.proofs.Common.{refl}
use Rattle.std.specs.Fmt.{digits}
use Rattle.std.specs.Str.{chars, is_utf8}
use Rattle.csv.specs.Writing.{fields_text, is_blank}
use Rattle.gaz_rows.specs.Rows.{lines_of}
use Rattle.gaz_addressable.specs.Texts.{char_count, is_plain}
use Rattle.gaz_register.specs.Drafts.{draft_in, drafts_in}
use Rattle.gaz_register.specs.Reading.{blocks_from, checked, custodian_from, custodians_from}
use Rattle.gaz_register.proofs.laws.worked_reading.Goals as goal

pub returns-clause-blocks : goal.returns-clause-blocks
unfolding blocks_from
returns-clause-blocks c = record {
  greatest = refl;
  greatest_uprn = refl;
  of_one_number = refl;
  from_none = refl;
  below_none = refl;
  backwards = refl;
  beyond = refl;
  sorted = refl;
  eight = refl;
  nine = refl;
}

pub returns-clause-registers : goal.returns-clause-registers
unfolding blocks_from checked custodian_from custodians_from draft_in drafts_in is_plain char_count is_utf8 chars lines_of digits fields_text is_blank lib.Utf8.encode
returns-clause-registers c = record {
  last_code = refl;
  no_code = refl;
  no_such_code = refl;
  no_name = refl;
  space_at_an_end = refl;
  no_block = refl;
  first_custodian = refl;
  by_code = refl;
  code_twice = refl;
  number_twice = refl;
  twice_in_one = refl;
  side_by_side = refl;
  no_custodian = refl;
  no_keys = refl;
  block_of_one = refl;
  block_of_two = refl;
  one_row = refl;
  two_rows = refl;
}
