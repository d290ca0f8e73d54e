-- Where the table of notes stands and where not, which names are free, and which texts ask for a table alone or make one.
use Rattle.std.proofs.Common.{◌≡◌, ℕ, codes, true, false, Option, None, Some, length, refl, sym, ap, ◌∙◌, arith}
use Rattle.std.specs.Fmt.{digits}
use Rattle.sqlite_tied.specs.Compute.{everything}
use Rattle.sqlite_schema.specs.declared.schema.Column.{Column}
use Rattle.sqlite_schema.specs.Names.{index_named, same_name, table_named}
use Rattle.sqlite_value.specs.Keys.{joined}
use Rattle.gaz_sql_facts.specs.Examples.{WorkedCopyTexts, WorkedMaking, WorkedSimple, WorkedStanding}
use Rattle.gaz_sql_facts.specs.Making.{IsFree, IsUnreferred}
use Rattle.gaz_sql_facts.specs.Samples.{archive, behind_archive, behind_namesake, moved_note, note, under_archive, with_by_day}
use Rattle.gaz_sql_facts.specs.Standing.{IsApart, ReadsAs, StandsAt}

first : StandsAt with_by_day 0 note
unfolding same_name
first = record { named = refl; listed = refl; by_tree = refl; stored = refl }

behind_another : StandsAt behind_archive 1 moved_note
unfolding same_name
behind_another = record { named = refl; listed = refl; by_tree = refl; stored = refl }

two_places : (o : Option ℕ) → o ≡ Some 0 → o ≡ Some 1 → ⊥
two_places o here there = let both : ◌≡◌ {A = Option ℕ} (Some 0) (Some 1) = sym here ∙ there in absurd (cc)

stands_behind : table_named behind_archive (codes "note") ≡ Some 1
unfolding same_name
stands_behind = refl

other_is_first : table_named behind_namesake (codes "note") ≡ Some 0
unfolding same_name
other_is_first = refl

wider : ReadsAs note (record archive { name = codes "note" }) → ⊥
wider reads = let same : 5 ≡ 4 = ap {B = ℕ} (length {A = Column}) reads.columns in omega (arith, same)

apart : IsApart behind_archive 40
apart = (refl, (refl, tt))

not_apart : IsApart under_archive 40 → ⊥
unfolding same_name joined
not_apart it = let wrong : true ≡ false = it.0 in absurd (cc)

other_apart : IsApart under_archive 2
unfolding same_name joined
other_apart = (refl, (refl, tt))

pub standing : WorkedStanding
standing = record {
  first = first;
  behind_another = behind_another;
  not_at_the_other = λ it. two_places _ it.named stands_behind;
  not_behind_its_name = λ it. two_places _ other_is_first it.named;
  read_alike = record { name = refl; columns = refl; key = refl; computed = refl; stamps = refl };
  not_with_a_column_more = wider;
  apart = apart;
  not_apart = not_apart;
  other_apart = other_apart;
}

pub simple : WorkedSimple
unfolding everything
simple = record { query = refl; insert = refl; update = refl; delete = refl; not_another_table = refl; not_another_column = refl; not_two_tables = refl; not_a_subquery = refl; not_a_way_out = refl }

pub copy_texts : WorkedCopyTexts
unfolding everything
copy_texts = record { copy = refl; some = refl; not_the_other_way = refl; not_of_both = refl; not_of_a_sum = refl; not_of_values = refl; not_over_one_table = refl }

free : IsFree with_by_day (codes "lent")
unfolding same_name
free = record { no_table = refl; no_index = refl; no_view = refl }

used : (k : ℕ) (o : Option ℕ) → o ≡ Some k → o ≡ None → ⊥
used k o some none = let both : ◌≡◌ {A = Option ℕ} (Some k) None = sym some ∙ none in absurd (cc)

is_table : table_named with_by_day (codes "NOTE") ≡ Some 0
unfolding same_name
is_table = refl

is_index : index_named with_by_day (codes "By_day") ≡ Some 2
unfolding same_name
is_index = refl

is_of_a_key : index_named with_by_day (codes "sqlite_autoindex_note_1") ≡ Some 0
unfolding same_name digits
is_of_a_key = refl

unreferred : IsUnreferred behind_archive (codes "note")
unfolding same_name
unreferred = (refl, (refl, tt))

referred : IsUnreferred under_archive (codes "NOTE") → ⊥
unfolding same_name
referred it = let wrong : true ≡ false = it.0 in absurd (cc)

pub making : WorkedMaking
unfolding everything
making = record {
  free = free;
  not_a_table = λ it. used 0 _ is_table it.no_table;
  not_an_index = λ it. used 2 _ is_index it.no_index;
  not_of_a_key = λ it. used 0 _ is_of_a_key it.no_index;
  unreferred = unreferred;
  referred = referred;
  table = refl;
  index = refl;
  not_a_query = refl;
}
