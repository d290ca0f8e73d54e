use Rattle.std.proofs.Common.{refl}
use Rattle.std.specs.Str.{chars, is_utf8}
use Rattle.gaz_ids.specs.Numbers.{read_id}
use Rattle.gaz_addressable.specs.Objects.{object_of}
use Rattle.gaz_addressable.specs.Texts.{char_count, is_plain}
use Rattle.gaz_addressable.proofs.laws.worked_objects.Goals as goal

pub returns : goal.returns
unfolding object_of read_id is_plain char_count is_utf8 chars lib.Utf8.encode
returns c = record {
  one_house = refl;
  up_to_a_suffix = refl;
  nothing = refl;
  no_house = refl;
  small_letter = refl;
  suffix_alone = refl;
  end_alone = refl;
  up_to_itself = refl;
  name_alone = refl;
  line_break = refl;
}
