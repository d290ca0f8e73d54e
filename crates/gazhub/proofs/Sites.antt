-- What comes of looking for a register and for a store's files, and of peers.
use Rattle.std.proofs.Common.{◌≡◌, ◌∙◌, List, [], ◌∷◌, None, Ok, Err, Result, IfErr, IfOk, IsErrAnd, OnErr, ℕ, ap, inl, inr, map, refl, sym}
use Rattle.std.proofs.lemmas.Result.{err_from_is_err_and}
use Rattle.sqlite_disk.specs.declared.Files.{Files}
use Rattle.gaz_kept.specs.declared.refusal.StoreRefusal.TheVariants.{Fault}
use Rattle.gaz_register.specs.Drafts.{OrMemory}
use Rattle.gaz_register.specs.Reading.{register_of}
use Rattle.gaz_register.specs.Registers.{IsRegister, RegisterValue}
use Rattle.gaz_register.proofs.Keyed.{reads-registers}
use Rattle.gaz_stored.specs.Meetings.{AreMet, Meeting, WithPeers}
use Rattle.gazhub.specs.Sites.{Deed, Does, FindsRegister, Met, NoRegister, Opened, NoFiles, WithFiles, WithRegister}
use Rattle.gazhub.specs.declared.files.NoHub.{NoHub}
use Rattle.gazhub.specs.declared.files.NoHub.TheVariants as none
use Rattle.gazhub.specs.declared.site.Purpose.{Purpose}

-- what is read as a register is one
pub reads_one : (text : List ℕ) (register : RegisterValue) → OrMemory (Ok register) (register_of text) → IsRegister register
reads_one text register (inl is) = reads-registers text register (sym is)
reads_one text register (inr is) = absurd (cc)

module _ {S D A : Type 0} (done : S → Deed D → S → Type 0) (before after : S) (path : List ℕ) where
  pub without_register : (Then : RegisterValue → S → S → Result A NoHub → Type 0) (told : Result A NoHub) (why : NoHub) → FindsRegister done before after path (Err why) → IsErrAnd told (λ e. e ≡ why)
      → WithRegister done path Then before after told
  without_register Then told why finds is =
      let e = err_from_is_err_and told is in
      NoRegister why finds (e.1 ∙ ap Err e.2)

  pub without_files : (purpose : Purpose) (Then : Files D → S → S → Result A NoHub → Type 0) (told : Result A NoHub) (why : NoHub) → (why ≡ none.Store Fault) × done before (Opened path purpose None) after
      → IsErrAnd told (λ e. e ≡ why) → WithFiles done path purpose Then before after told
  without_files purpose Then told why finds is =
      let e = err_from_is_err_and told is in
      NoFiles finds.1 (e.1 ∙ ap Err (e.2 ∙ finds.0))

module _ {S D : Type 0} (done : S → Deed D → S → Type 0) where
  module _ (meets : S → Meeting → S → Type 0) (tells : (old new : S) (met : Meeting) → meets old met new → done old (Met met) new) where
    -- what came of peers, one after another, is among them
    all_met : (met : List Meeting) (old new : S) → AreMet meets old met new → Does done old (map Met met) new
    all_met [] old new still = still
    all_met (next ∷ later) old new are = (are.0, tells old are.0 next are.1, all_met later are.0 new are.2)

    -- peers were answered or weren't
    pub met_in : {R W H E : Type 0} (read_failed : R → R → Type 0) (write_failed : W → W → Type 0) (Then : H → List Meeting → Type 0) (mid served : S) (held : Result H E) → IfOk held (λ how. WithPeers meets read_failed write_failed (Then how) mid served)
        → IfErr held (λ _. served ≡ mid) → (met : List Meeting) × Does done mid (map Met met) served × IfOk held (λ how. Then how met) × OnErr held (met ≡ [])
    met_in read_failed write_failed Then mid served (Ok how) answers still = (answers.met, all_met answers.met mid served answers.are_met, answers.then, tt)
    met_in read_failed write_failed Then mid served (Err why) answers still = ([], still, tt, refl)
