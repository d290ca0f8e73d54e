-- How a file is read record by record.
use Rattle.std.specs.Prelude.{◌≡◌, ◌≤◌, ℕ, ◌+◌, List, [], ◌∷◌, ◌++◌, length, Option, Some, None}
use Rattle.std.specs.Prelude.{Bool, false, true, cond, Result, Ok, Err}
use Rattle.std.specs.Option.{option_to_list}
use Rattle.gaz_ids.specs.Limits.{most_changes}
use Rattle.gaz_rows.specs.Rows.{Fields}
use Rattle.gaz_changefile.specs.Contents.{basis_at, change_at}
use Rattle.gaz_changefile.specs.Lines.{is_basis, is_change, is_trailer}
use Rattle.gaz_changefile.specs.Rules.{Before, custodian_at, first_broken, later_rules}
use Rattle.gaz_changefile.specs.declared.draft.FileDraft.{FileDraft}
use Rattle.gaz_changefile.specs.declared.file.FileFault.{FileFault}
use Rattle.gaz_changefile.specs.declared.file.FileFault.TheVariants.{Bad, Memory}

-- the fault is at this place, by the first of the rules that is broken; of want of memory nothing
-- is said
abbrev pub IsFirstOf : ℕ → List (ℕ × Bool) → FileFault → Type 0
IsFirstOf place rules (Bad p rule) = (p ≡ place) × (first_broken rules ≡ Some rule)
IsFirstOf place rules Memory = Unit {0}

-- each of the rules is kept
abbrev pub KeepsAll : List (ℕ × Bool) → Type 0
KeepsAll rules = first_broken rules ≡ None

-- what stands before the next record of a file that was read so far
abbrev pub before_in : FileDraft → Before
before_in draft = record {
  profile = draft.profile;
  bases = length draft.bases.items;
  changes = length draft.changes.items;
  last = draft.last;
  ended = draft.ended;
}

-- a record that breaks no rule was read: its basis or its change stands last, and the file ends
-- where it is a trailer
pub record Adds (old new : FileDraft) (place : ℕ) (row : Fields) : Type 0 where
  pub kept : first_broken (later_rules old.own (before_in old) (Some row)) ≡ None
  pub open_before : old.ended ≡ false
  pub bases : new.bases.items ≡ old.bases.items ++ option_to_list (basis_at old.profile row)
  pub changes : new.changes.items
      ≡ old.changes.items ++ option_to_list (change_at old.profile (place, row))
  pub base_count :
      length new.bases.items ≡ length old.bases.items + cond (is_basis old.profile row) 1 0
  pub count :
      length new.changes.items ≡ length old.changes.items + cond (is_change old.profile row) 1 0
  pub few : length new.changes.items ≤ most_changes
  pub last : new.last ≡ custodian_at old.profile row
  pub ended : new.ended ≡ is_trailer old.profile row
  pub own : new.own ≡ old.own
  pub profile : new.profile ≡ old.profile
  pub date : new.date ≡ old.date

-- a file went on with the first of the rows that were left, and the others are left, or there was
-- none, and it stays; a fault is that row's
abbrev pub ReadsOn : ℕ → List Fields → Option (List Fields) → FileDraft → FileDraft
    → Result Bool FileFault → Type 0
ReadsOn place [] left old new (Ok found) = (found ≡ false) × (left ≡ Some []) × (new ≡ old)
ReadsOn place [] left old new (Err fault) = fault ≡ Memory
ReadsOn place (row ∷ rows) left old new (Ok found) =
    (found ≡ true) × (left ≡ Some rows) × Adds old new place row
ReadsOn place (row ∷ rows) left old new (Err fault) =
    IsFirstOf place (later_rules old.own (before_in old) (Some row)) fault
