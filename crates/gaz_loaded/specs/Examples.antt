-- Worked examples: two lives, three files and what became of two numbers, that a keeper lists, and
-- what is at hand of them.
use Rattle.std.specs.Prelude.{◌≡◌, ℕ, pos, List, [], ◌∷◌, Some, None}
use Rattle.std.specs.FinMap as map
use Rattle.gaz_views.specs.Examples.{street}
use Rattle.gaz_views.specs.View.{empty_view}
use Rattle.gaz_views.specs.declared.verdict.Verdict.TheVariants.{Applied}
use Rattle.gaz_keeper.specs.Examples.{first_received, kept_safe, three_files}
use Rattle.gaz_keeper.specs.Keeper.{Content, empty_content, with_judgement}
use Rattle.gaz_keeper.specs.Received.{HasAllOf}
use Rattle.gaz_loaded.specs.Files.{AreThere, HasAll, IsEntered, IsPart}
use Rattle.gaz_loaded.specs.Files.{OnlyReads}
use Rattle.gaz_loaded.specs.Lives.{IsBehind, IsBy, IsFirst, Told, gone_of, lives_of}
use Rattle.gaz_loaded.specs.Loading.{IsOfThese}
use Rattle.gaz_loaded.specs.PassingExamples.{WorkedAnswers, WorkedBoards, WorkedOrder}
use Rattle.gaz_loaded.specs.Telling.{AreAbove, AreNext, last_of, told}
use Rattle.gaz_loaded.specs.declared.listed.Life.{Life}

-- street 101 was 1001's from volume 2 until volume 4, and is 1002's since volume 1
abbrev pub ended : Life
ended = record { place = pos 2; code = 1001; born = 2; gone = Some 4; item = street 101 }

abbrev pub current : Life
current = record { place = pos 4; code = 1002; born = 1; gone = None; item = street 101 }

-- what a keeper lists
abbrev pub both : List Told
both = told ended ∷ told current ∷ []

-- which of them are whose, and where they are told
pub record WorkedLives : Type 0 where
  pub one : lives_of 1001 both ≡ (told ended).life ∷ []
  pub other : lives_of 1002 both ≡ (told current).life ∷ []
  pub nobody : lives_of 1003 both ≡ []
  pub until_4 : gone_of (Some 4) ≡ 4
  pub never : gone_of None ≡ 1000000
  pub by_2 : IsBy (Some (pos 2)) (told ended)
  pub not_by_2 : ¬ IsBy (Some (pos 2)) (told current)
  pub not_before_all : ¬ IsBy None (told ended)
  pub behind_2 : IsBehind (Some (pos 2)) (told current)
  pub not_behind_2 : ¬ IsBehind (Some (pos 2)) (told ended)
  pub first : IsFirst None both (told ended)
  pub next : IsFirst (Some (pos 2)) both (told current)
  pub not_first : ¬ IsFirst None both (told current)

-- what may be answered where lives are asked for
pub record WorkedPages : Type 0 where
  pub all : AreNext None both (ended ∷ current ∷ [])
  pub one : AreNext None both (ended ∷ [])
  pub rest : AreNext (Some (pos 2)) both (current ∷ [])
  pub at_the_end : AreNext (Some (pos 4)) both []
  pub ends_too_early : ¬ AreNext (Some (pos 2)) both []
  pub one_left_out : ¬ AreNext None both (current ∷ [])

-- and where volumes are: of 1001 the volumes 1 and 3 were received, of 1002 volume 2
pub record WorkedVolumes : Type 0 where
  pub last : last_of {X = ℕ} (1 ∷ 3 ∷ []) ≡ Some 3
  pub last_of_none : last_of {X = ℕ} [] ≡ None
  pub above_1 : AreAbove three_files 1001 1 (3 ∷ [])
  pub of_nothing : AreAbove map.empty 1001 0 []
  pub ends_too_early : ¬ AreAbove three_files 1001 1 []
  pub one_left_out : ¬ AreAbove three_files 1001 0 (3 ∷ [])
  pub not_above : ¬ AreAbove three_files 1001 1 (1 ∷ 3 ∷ [])
  pub not_received : ¬ AreAbove three_files 1001 1 (2 ∷ 3 ∷ [])
  pub told_twice : ¬ AreAbove three_files 1001 0 (1 ∷ 1 ∷ 3 ∷ [])

-- how much of the files is at hand
pub record WorkedFiles : Type 0 where
  pub none_of_them : HasAllOf three_files map.empty
  pub too_many : ¬ HasAllOf map.empty three_files
  pub there : AreThere 1001 (1 ∷ 3 ∷ []) three_files
  pub not_there : ¬ AreThere 1001 (2 ∷ []) three_files
  pub all : HasAll 1001 three_files three_files
  pub not_all : ¬ HasAll 1001 three_files map.empty
  pub nothing_yet : IsPart first_received empty_content
  pub more_than_kept : ¬ IsPart empty_content first_received
  pub read : OnlyReads (kept_safe first_received) (kept_safe first_received)
  pub written : ¬ OnlyReads (kept_safe empty_content) (kept_safe first_received)

-- volume 1 of 1001 was applied, and nothing is in its view yet
abbrev pub first_entered : Content
first_entered =
    with_judgement first_received 1001 (record { verdict = Applied; view = empty_view })

-- verdicts, and whose content it is
pub record WorkedLoading : Type 0 where
  pub entered : IsEntered 1001 1 Applied first_received first_entered
  pub not_the_next : ¬ IsEntered 1001 2 Applied first_received first_entered
  pub not_entered : ¬ IsEntered 1001 1 Applied first_received first_received
  pub of_nobody : IsOfThese [] empty_content
  pub of_others : ¬ IsOfThese (1002 ∷ []) first_received

pub record WorkedExamples : Type 0 where
  pub on_lives : WorkedLives
  pub on_pages : WorkedPages
  pub on_volumes : WorkedVolumes
  pub on_files : WorkedFiles
  pub on_loading : WorkedLoading
  pub on_order : WorkedOrder
  pub on_answers : WorkedAnswers
  pub on_boards : WorkedBoards first_entered.board
