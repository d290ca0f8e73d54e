-- What failed. A relation `failed` of a reader or a writer holds of its states before and after a
-- call that failed.
use Rattle.std.specs.Prelude.{◌≡◌, ◌<◌, ℕ, List, length, Result, MatchResult}
use Rattle.gaz_http.specs.declared.supply.Cause.{Cause}
use Rattle.gaz_http.specs.declared.supply.Cause.TheVariants.{ReadFault, WriteFault}

-- a write took nothing, though the text isn't empty, or failed: it is so then
abbrev pub IfNotTaken : {E : Type 0} → Result ℕ E → List ℕ → Type 0 → Type 0
IfNotTaken result text IsSo = MatchResult result (λ n. n ≡ 0 → 0 < length text → IsSo) (λ _. IsSo)

-- a call failed and left this state
abbrev pub FailedInto : {A : Type 0} → (A → A → Type 0) → A → Type 0
FailedInto {A} failed last = (before : A) × failed before last

-- the reader or the writer failed, as the cause tells, and was left in this state
abbrev pub HasFailed : {R W : Type 0} → (R → R → Type 0) → (W → W → Type 0) → R → W → Cause
    → Type 0
HasFailed read_failed write_failed reader writer ReadFault = FailedInto read_failed reader
HasFailed read_failed write_failed reader writer WriteFault = FailedInto write_failed writer

-- the writer failed, as the cause tells, and was left in this state
abbrev pub WriterFailed : {W : Type 0} → (W → W → Type 0) → W → Cause → Type 0
WriterFailed failed writer ReadFault = ⊥
WriterFailed failed writer WriteFault = FailedInto failed writer

-- no call can fail
abbrev pub NeverFails : {A : Type 0} → (A → A → Type 0) → Type 0
NeverFails {A} failed = (old new : A) → failed old new → ⊥
