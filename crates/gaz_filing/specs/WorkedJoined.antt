-- Worked examples on calls over the same files, one after another.
use Rattle.std.specs.Prelude.{[], ◌∷◌, None, Some, IsSomeAnd, refl}
use Rattle.sqlite.specs.Files.{file_state, over_files}
use Rattle.sqlite_disk.specs.declared.Disk as disk
use Rattle.sqlite_disk.specs.declared.Files.{Files}
use Rattle.gaz_calls.specs.Seen.{IsUnharmed}
use Rattle.gaz_store.specs.Opened.{IsRefused}
use Rattle.gaz_stored.specs.Calls.{Refused, Whole}
use Rattle.gaz_filing.specs.Filing.{FailsToConnect, OverFiles}
use Rattle.gaz_filing.specs.Joined.{FileCall, FollowOn, IsGiven, said_as}

module _ {D : Type 0} (g : disk.Ghosts D) where
  -- a call that was refused, on a disk that returned what was written, and gave back the files that
  -- it was given
  module _ (files : Files D) (over : OverFiles g files (Some files) (IsRefused over_files))
      (fine : IsUnharmed (file_state over.after)) where
    abbrev pub in_vain : FileCall g
    in_vain = record {
      files = files;
      left = Some files;
      over = said_as g (λ _ _ it. Refused it) over;
      found = (file_state over.after).now;
      is_found = Whole fine refl;
    }

  pub record WorkedJoined : Type 0 where
    pub none : (call : FileCall g) → FollowOn g call []
    pub twice : (files : Files D) (over : OverFiles g files (Some files) (IsRefused over_files))
        (fine : IsUnharmed (file_state over.after))
        → FollowOn g (in_vain files over fine) (in_vain files over fine ∷ [])
    -- what is left as it was where no connection could be had, and nothing given back
    pub left_alone : (files : Files D) → FailsToConnect g files files
    pub kept_back : (files : Files D) → ¬ IsSomeAnd None (FailsToConnect g files)
    -- no files were given back
    pub lost : (call : FileCall g) → ¬ IsGiven g call None
