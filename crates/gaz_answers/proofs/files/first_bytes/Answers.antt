use Rattle.std.proofs.Common.{◌≡◌, ◌≢◌, ◌∙◌, ◌<◌, List, [], ◌∷◌, Some, ℕ, inl, inr, length, ap, refl, slice_get, sym, arith}
use Rattle.std.specs.Global.{Vec}
use Rattle.sqlite.specs.Order.{Row, column}
use Rattle.sqlite.specs.declared.types.Value.TheVariants.{Blob}
use Rattle.sqlite.specs.Reading.{IsReadError}
use Rattle.sqlite.specs.declared.error.Error.{Error}
use Rattle.sqlite.specs.declared.error.Error.TheVariants.{SqliteFailure}
use Rattle.sqlite.specs.declared.error.ErrorCode.TheVariants.{OutOfMemory}
use Rattle.sqlite_rules.proofs.ListLemmas.{has_got}
use Rattle.gaz_row_items.specs.declared.fault.RowFault.{RowFault}
use Rattle.gaz_row_items.specs.declared.fault.RowFault.TheVariants.{Memory}
use Rattle.gaz_answers.specs.Answers.{SaysBytes, ShowsBytes}
use Rattle.gaz_answers.proofs.files.first_bytes.Goals as goal

says_first : (rows : List Row) (row : Row) (v : Vec ℕ) → Some row ≡ slice_get rows 0 → column row 0 ≡ Blob v.items → SaysBytes rows (Some v)
says_first [] row v first is = absurd (cc)
says_first (r ∷ rows) row v first is = let same : r ≡ row = cc in (v, refl, ap (λ s. column s 0) same ∙ is)

there : (r : Row) (b : List ℕ) → column r 0 ≡ Blob b → 0 < length r
there [] b is = absurd (cc)
there (v ∷ r) b is = omega arith

pub returns-in-Ok-clause-said : goal.returns-in-Ok-clause-said
returns-in-Ok-clause-said c = says_first c.args.rows.now c.in-Some.row.now c.in-Ok.bytes c.in-Some.ensures.value c.in-Ok.ensures.ok.1

-- bytes stand there, and other errors of reading say that they don't
only_memory : (r : Row) (e : Error) (f : RowFault) → ShowsBytes r → (e ≢ SqliteFailure OutOfMemory → 0 < length r → ¬ ShowsBytes r) → IsReadError 0 (column r 0) e → (e ≡ SqliteFailure OutOfMemory → f ≡ Memory) → f ≡ Memory
only_memory r e f shows kind named told = by_error named
  where
    other : e ≢ SqliteFailure OutOfMemory → f ≡ Memory
    other apart = absurd (kind apart (there r shows.0 shows.1) shows)

    by_error : IsReadError 0 (column r 0) e → f ≡ Memory
    by_error (inl is) = other (λ out. cc)
    by_error (inr (inl is)) = other (λ out. cc)
    by_error (inr (inr (inl is))) = other (λ out. cc)
    by_error (inr (inr (inr (inl is)))) = other (λ out. cc)
    by_error (inr (inr (inr (inr is)))) = told is

pub returns-in-Err-clause-told : goal.returns-in-Err-clause-told
returns-in-Err-clause-told c = λ each.
    let row = c.in-Some.row.now in
    let shows = each row (has_got c.args.rows.now 0 row (sym c.in-Some.ensures.value)) in
    only_memory row c.in-Err.error c.fault_of.result shows c.in-Err.ensures.kind c.in-Err.ensures.named c.fault_of.ensures
