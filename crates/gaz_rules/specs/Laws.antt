-- What a reader of the rules may rely on.
use Rattle.std.specs.Prelude.{◌≡◌, ℕ, List, true, false}
use Rattle.gaz_records.specs.declared.key.Key.{Key}
use Rattle.gaz_changefile.specs.Reading.{Reading}
use Rattle.gaz_register.specs.Registers.{Blocks, IsRegister, Owners, RegisterValue, blocks_of}
use Rattle.gaz_register.specs.Registers.{within}
use Rattle.gaz_views.specs.View.{View, empty_view}
use Rattle.gaz_keeper.specs.Board.{Board, adds, empty_board}
use Rattle.gaz_end_rules.specs.EndRules.{is_apart, is_untied}
use Rattle.gaz_rules.specs.Judging.{judge, judged_on}
use Rattle.gaz_rules.specs.Sound.{AllHoldOwn, AreDisjoint, AreSoundBases, HoldsOwn, IsSound}
use Rattle.gaz_rules.specs.Sound.{IsSoundBoard, NamesOthers}

-- ---- touched keys are enough

-- the empty view is sound, and so is a sound view after a file that rests on sound views of others,
-- though only touched keys were looked at
pub record StaysSound : Type 0 where
  pub empty : (own : Blocks) → IsSound own empty_view
  pub after_file : (own : Owners) (c : ℕ) (v : View) (others : List (ℕ × View)) (r : Reading)
      → AreDisjoint own → IsSound (own c) v → AreSoundBases own c others
      → IsSound (own c) (judge c (own c) v others r).view
  -- in a sound view no key breaks rule 31 or rule 35, nor is one named that isn't there
  pub whole : (own : Blocks) (v : View) (k : Key) → IsSound own v
      → (is_untied v k ≡ false) × (is_apart v k ≡ false)

-- the board without judgements is sound, and so is a sound board with one more judgement; the
-- blocks of a register are disjoint
pub record BoardsStaySound : Type 0 where
  pub empty : (own : Owners) → IsSoundBoard own empty_board
  pub after_file : (own : Owners) (board : Board) (c : ℕ) (r : Reading)
      → AreDisjoint own → NamesOthers c r → IsSoundBoard own board
      → IsSoundBoard own (adds board c (judged_on (own c) board c r))
  pub of_register : (register : RegisterValue) → IsRegister register
      → AreDisjoint (blocks_of register)

-- ---- own numbers stay own

-- rule 20 and custody keep them, whatever the basis views are; and no number is in the own blocks
-- of two custodians of a register. That no two hold a number once it passed on is a law of boards,
-- not of any two views
pub record OwnNumbersStay : Type 0 where
  pub empty : (own : Blocks) → HoldsOwn own empty_view
  pub after_file : (c : ℕ) (own : Blocks) (v : View) (others : List (ℕ × View)) (r : Reading)
      → HoldsOwn own v → HoldsOwn own (judge c own v others r).view
  pub of_no_file : (own : Owners) → AllHoldOwn own empty_board
  pub after_judgement : (own : Owners) (board : Board) (c : ℕ) (r : Reading)
      → AllHoldOwn own board → AllHoldOwn own (adds board c (judged_on (own c) board c r))
  pub one_allotted : (register : RegisterValue) (c d uprn : ℕ) → IsRegister register
      → within (blocks_of register c).uprn uprn ≡ true
      → within (blocks_of register d).uprn uprn ≡ true → c ≡ d
