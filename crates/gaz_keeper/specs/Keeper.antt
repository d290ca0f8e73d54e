-- A keeper at one moment, and what each of its calls tells.
use Rattle.std.specs.Prelude.{◌≡◌, ◌≢◌, ◌≤◌, ◌<◌, ◌+◌, ◌-◌, ◌^◌, ◌==◌, ◌⊎◌, ⊤, ℕ, Bool, true}
use Rattle.std.specs.Prelude.{if◌then◌else◌, List, Option, None, Some, IsSome, Result, Err}
use Rattle.std.specs.Prelude.{IfOk, IfErr, OnOk, OnErr}
use Rattle.std.specs.FinMap as map
use Rattle.gaz_views.specs.Lawful.{IsLawfulView}
use Rattle.gaz_views.specs.View.{View, empty_view}
use Rattle.gaz_keeper.specs.Board.{Board, Judgement, adds, empty_board, last_view, reached}
use Rattle.gaz_keeper.specs.Board.{view_after}
use Rattle.gaz_keeper.specs.Received.{Received, with_file}
use Rattle.gaz_keeper.specs.declared.fault.ShelfFault.{ShelfFault}
use Rattle.gaz_keeper.specs.declared.fault.ShelfFault.TheVariants.{Memory, Store}
use Rattle.gaz_views.specs.declared.verdict.Verdict.TheVariants.{Applied, Rejected}

-- ---- what is kept

-- the files, the board, and the view that the judgement in progress has made so far; while none is
-- a keeper is to show the empty one, which no clause asks of it
pub record Content : Type 0 where
  pub files : Received
  pub board : Board
  pub working : View

abbrev pub empty_content : Content
empty_content = record { files = map.empty; board = empty_board; working = empty_view }

-- each view on the board is lawful, and so is the working one
pub record IsLawful (k : Content) : Type 0 where
  pub views : (c volume : ℕ) → IsLawfulView (view_after k.board c volume)
  pub working : IsLawfulView k.working

-- whether a judgement is in progress
pub data Progress : Type 0 where
  Idle : Progress
  -- of this custodian
  Open : ℕ → Progress
  -- one of its calls failed
  Broken : Progress

-- a keeper at one moment
pub record Seen : Type 1 where
  pub content : Content
  -- its state stands for this content
  pub stands : Type 0
  -- which is then a lawful one
  pub lawful : stands → IsLawful content
  -- nobody else wrote on what it keeps
  pub trusted : Type 0
  -- nor did a failure shut it
  pub unharmed : Type 0
  pub progress : Progress
  -- how often it failed
  pub failures : ℕ
  -- that count is at its last value
  pub is_full : Bool
  -- and only then; the count of a keeper around another is beyond it where the inner one failed too
  pub full : is_full ≡ true → 2 ^ 64 - 1 ≤ failures
  -- what a stop at this moment may leave
  pub leaves : Content → Type 0
  -- whatever it leaves stands for that again
  pub whole : Type 0
  -- which is then a lawful one
  pub left_lawful : whole → (left : Content) → leaves left → IsLawful left

-- ---- the content before and after

abbrev pub with_working : Content → View → Content
with_working k w = record { files = k.files; board = k.board; working = w }

-- no judgement is in progress any more
abbrev pub after_abandon : Content → Content
after_abandon k = with_working k empty_view

-- a custodian's judgement begins on its last view
abbrev pub after_begin : Content → ℕ → Content
after_begin k c = with_working k (last_view k.board c)

abbrev pub with_judgement : Content → ℕ → Judgement → Content
with_judgement k c j = record { files = k.files; board = adds k.board c j; working = empty_view }

-- the judgement in progress ends as applied
abbrev pub after_keep : Progress → Content → Content
after_keep Idle k = k
after_keep (Open c) k = with_judgement k c (record { verdict = Applied; view = k.working })
after_keep Broken k = k

-- a custodian's next volume is rejected, and its view stays as it was
abbrev pub after_skip : Content → ℕ → ℕ → ℕ → Content
after_skip k c place rule =
    with_judgement k c (record { verdict = Rejected place rule; view = last_view k.board c })

abbrev pub with_received : Content → ℕ → ℕ → List ℕ → Content
with_received k c volume bytes =
    record { files = with_file k.files c volume bytes; board = k.board; working = k.working }

-- a stop leaves no working view
abbrev pub after_stop : Content → Content
after_stop k = with_working k empty_view

-- ---- what is asked

-- a custodian's next volume is at hand
abbrev pub IsAtHand : Content → ℕ → Type 0
IsAtHand k c = IsSome (map.get k.files (c, reached k.board c + 1))

-- a volume was not received yet
abbrev pub IsNew : Content → ℕ → ℕ → Type 0
IsNew k c volume = map.get k.files (c, volume) ≡ None

abbrev pub IsNotOpen : Progress → Type 0
IsNotOpen p = (c : ℕ) → p ≢ Open c

-- ---- what is read

abbrev pub viewed : Progress → Content → ℕ → View
viewed Idle k c = last_view k.board c
viewed (Open whom) k c = if c == whom then k.working else last_view k.board c
viewed Broken k c = last_view k.board c

-- a custodian's view: the working one while it is being judged, else its last
abbrev pub view_of : Seen → ℕ → View
view_of s c = viewed s.progress s.content c

-- ---- what a stop may leave after a call

-- its state stands for its content, unless somebody wrote on what it keeps or a failure shut it
abbrev pub IsSound : Seen → Type 0
IsSound s = s.unharmed → s.stands

-- nothing that it couldn't leave before, but for the content that the call commits, where it
-- commits one and was unharmed
abbrev pub LeavesAtMost : Option Content → Seen → Seen → Type 0
LeavesAtMost None old new = (k : Content) → new.leaves k → old.leaves k
LeavesAtMost (Some becomes) old new =
    (k : Content) → new.leaves k → old.leaves k ⊎ (old.unharmed × (k ≡ after_stop becomes))

-- what a stop leaves of this content, and nothing else
abbrev pub LeavesOnly : Content → Seen → Type 0
LeavesOnly becomes now = (k : Content) → now.leaves k → k ≡ after_stop becomes

-- what a stop leaves of the content that the call commits, and nothing else; where it commits
-- none, nothing is said
abbrev pub LeavesJust : Option Content → Seen → Seen → Type 0
LeavesJust None old new = ⊤
LeavesJust (Some becomes) old new =
    (k : Content) → new.leaves k → old.unharmed × (k ≡ after_stop becomes)

-- ---- what a call tells

-- no failure is forgotten, and one of the store is counted; nor is it forgotten that somebody wrote
-- on what is kept
pub record Counts {T : Type 0} (old new : Seen) (result : Result T ShelfFault) : Type 0 where
  pub kept : old.failures ≤ new.failures
  pub store : IfErr result (λ e. e ≡ Store → old.failures < new.failures)
  pub trust : new.trusted → old.trusted

-- an Ok says that no failure has shut it
abbrev pub IsOpen : {T : Type 0} → Seen → Result T ShelfFault → Type 0
IsOpen now result = OnOk result (now.trusted → now.unharmed)

-- a judgement in progress goes on, and a broken one stays so or is cleared
abbrev pub IsLeft : Progress → Progress → Type 0
IsLeft Idle new = new ≡ Idle
IsLeft (Open c) new = new ≡ Open c
IsLeft Broken new = IsNotOpen new

-- the content is as it was
pub record Keeps (old new : Seen) : Type 0 where
  pub harm : new.unharmed → old.unharmed
  pub stands : old.stands → new.unharmed → new.stands
  pub content : old.stands → new.unharmed → new.content ≡ old.content
  pub progress : IsLeft old.progress new.progress
  pub leaves : IsSound old → LeavesAtMost None old new
  pub whole : IsSound old → old.whole → new.whole

-- a call that reads: its answer is right, and after it no judgement is broken
pub record Reads {T : Type 0} (old new : Seen) (result : Result T ShelfFault)
    (IsRight : T → Type 0) : Type 0 where
  pub keeps : Keeps old new
  pub right : old.stands → new.unharmed → IfOk result IsRight
  pub cleared : OnOk result (new.progress ≢ Broken)
  pub counts : Counts old new result

-- a call of a judgement: where what it asks is so, the content becomes this one; a fault breaks the
-- judgement and undoes it
pub record Goes {T : Type 0} (old new : Seen) (result : Result T ShelfFault) (asked : Type 0)
    (becomes : Content) (commits : Option Content)
    (after : Progress) : Type 0 where
  pub harm : new.unharmed → old.unharmed
  pub stands : old.stands → asked → new.unharmed → new.stands
  pub done : old.stands → asked → new.unharmed → OnOk result (new.content ≡ becomes)
  pub undone : old.stands → asked → new.unharmed
      → OnErr result (new.content ≡ after_abandon old.content)
  pub on : OnOk result (new.progress ≡ after)
  pub broken : OnErr result (new.progress ≡ Broken)
  pub counts : Counts old new result
  pub leaves : IsSound old → (old.unharmed → asked) → LeavesAtMost commits old new
  pub whole : IsSound old → (old.unharmed → asked) → old.whole → new.whole
  pub committed : IsSound old → (old.unharmed → asked) → OnOk result (LeavesJust commits old new)

-- a call while no judgement is in progress: where what it asks is so, the content becomes this one;
-- a fault changes nothing
pub record Enters {T : Type 0} (old new : Seen) (result : Result T ShelfFault) (asked : Type 0)
    (becomes : Content) : Type 0 where
  pub harm : new.unharmed → old.unharmed
  pub stands : old.stands → asked → new.unharmed → new.stands
  pub done : old.stands → asked → new.unharmed → OnOk result (new.content ≡ becomes)
  pub undone : old.stands → asked → new.unharmed → OnErr result (new.content ≡ old.content)
  pub progress : IsLeft old.progress new.progress
  pub cleared : OnOk result (new.progress ≢ Broken)
  pub counts : Counts old new result
  pub leaves : IsSound old → (old.unharmed → asked) → LeavesAtMost (Some becomes) old new
  pub whole : IsSound old → (old.unharmed → asked) → old.whole → new.whole
  pub committed : IsSound old → (old.unharmed → asked)
      → OnOk result (LeavesJust (Some becomes) old new)

-- the working view becomes this one
abbrev pub Sets : {T : Type 0} → Seen → Seen → Result T ShelfFault → View → Type 0
Sets old new result w = Goes old new result ⊤ (with_working old.content w) None old.progress

-- a broken judgement is refused, which is a failure: it is counted unless the count is at its last
-- value
abbrev pub Refuses : {T : Type 0} → Seen → Result T ShelfFault → Type 0
Refuses old result = old.progress ≡ Broken → result ≡ Err (if old.is_full then Memory else Store)
