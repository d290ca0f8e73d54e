-- What a call on a judgement in progress tells of the keeper before and after, where `seen` is how
-- it is seen.
use Rattle.std.specs.Prelude.{◌≡◌, ℕ, true, List, Result}
use Rattle.gaz_changefile.specs.declared.change.Basis.{Basis}
use Rattle.gaz_keeper.specs.Keeper.{Content, Open, Reads, Seen}
use Rattle.gaz_keeper.specs.declared.fault.ShelfFault.{ShelfFault}
use Rattle.gaz_views.specs.View.{View}
use Rattle.gaz_end_rules.specs.Bases.{are_reached, basis_views}

-- ---- whether a judgement is in progress

-- a judgement of this custodian is in progress
abbrev pub IsJudging : {K : Type 0} → (K → Seen) → K → ℕ → Type 0
IsJudging seen now code = (seen now).progress ≡ Open code

-- ---- one call

-- the answer is right of the content before
abbrev pub ReadsContent : {K T : Type 0} → (K → Seen) → K → K → Result T ShelfFault
    → (Content → T → Type 0) → Type 0
ReadsContent seen old new result IsRight =
    Reads (seen old) (seen new) result (λ x. IsRight (seen old).content x)

-- the answer is right of the working view
abbrev pub ReadsView : {K T : Type 0} → (K → Seen) → K → K → Result T ShelfFault
    → (View → T → Type 0) → Type 0
ReadsView seen old new result IsRight =
    Reads (seen old) (seen new) result (λ x. IsRight (seen old).content.working x)

-- the answer is right of the working view and of the views that these bases name, where they are
-- all reached
abbrev pub ReadsViews : {K T : Type 0} → (K → Seen) → K → K → Result T ShelfFault
    → List Basis → (View → List (ℕ × View) → T → Type 0) → Type 0
ReadsViews seen old new result bases IsRight =
    ReadsContent seen old new result
    (λ content x. are_reached content.board bases ≡ true
    → IsRight content.working (basis_views content.board bases) x)
