-- What `?` hands on is what was told.
use Rattle.std.proofs.Common.{◌≡◌, List, Result, Ok, Err, IsErrAnd, subst, sym}
use Rattle.clap.specs.Words.{HasKind, Text, fault_of}
use Rattle.clap.specs.declared.error.Error.{Error}
use Rattle.gaz_words.specs.Grammar.{gazhub}
use Rattle.gaz_words.specs.Meaning.{Means}
use Rattle.gaz_words.specs.declared.command.Command.{Command}

pub told_of : (words : List Text) (error : Error) (told : Result Command Error) → IsErrAnd told (λ e. e ≡ error) → HasKind (fault_of gazhub words) error → Means words told
told_of words error (Ok command) is has = absurd is
told_of words error (Err e) is has = subst (HasKind (fault_of gazhub words)) (sym is) has
