use Rattle.std.proofs.Common.{◌≡◌, ◌∙◌, ℕ, codes, List, [], ◌∷◌, inl, inr, sym, subst}
use Rattle.sqlite_disk.specs.declared.Disk as disk
use Rattle.clap.specs.Kinds.{IsAmong}
use Rattle.clap.specs.declared.error.kind.ErrorKind.TheVariants as kind
use Rattle.gaz_exchange.specs.Conversing.{Transfer}
use Rattle.gaz_words.specs.WorkedWords.{ArePlaces, making}
use Rattle.gaz_words.specs.declared.command.Places.{Places}
use Rattle.gaz_words.proofs.WorkedWords.{worked as worked_words}
use Rattle.gazhub.specs.Commands.{EndsAt, Explained, Finishes, Followed}
use Rattle.gazhub.specs.Sites.{Deed}
use Rattle.gazhub.specs.WorkedEndings.{ComesTo}
use Rattle.gazhub.specs.Working.{InitComesTo}
use Rattle.gazhub.specs.declared.ending.Ending.{Ending}
use Rattle.gazhub.specs.declared.ending.Ending.TheVariants.{Usage}
use Rattle.gazhub.proofs.laws.worked_endings.Goals as goal

module _ {S D : Type 0} (done : S → Deed D → S → Type 0) (g : disk.Ghosts D) (text : List ℕ) (most : ℕ) (before after : S) (through : Transfer) (ending : Ending) where
  made : ComesTo done g text most before after through ending making ((places : Places) × ArePlaces places × Finishes (InitComesTo done g places before after) through ending)
  made (Followed command means ends) =
      let is = worked_words.nothing_else command means in
      inr (is.0, is.2, subst (λ command. EndsAt done g text most before after through command ending) is.1 ends)
  made (Explained error means explains) = elim means [
    | inl e ↦ inl (rw e at explains.explained)
    | inr among ↦ absurd (subst (IsAmong error.kind) worked_words.fine among)
  ]

  unknown : ComesTo done g text most before after through ending (codes "sumbit" ∷ []) (ending ≡ Usage)
  unknown (Followed command means ends) = absurd (let e = sym worked_words.unknown ∙ means.0 in cc)
  unknown (Explained error means explains) = elim means [
    | inl e ↦ inl (rw e at explains.explained)
    | inr among ↦ inr (of_kind (subst (IsAmong error.kind) worked_words.unknown among))
  ]
    where
      of_kind : IsAmong error.kind (kind.UnknownArgument ∷ kind.InvalidSubcommand ∷ []) → ending ≡ Usage
      of_kind (inl e) = rw e at explains.explained
      of_kind (inr (inl e)) = rw e at explains.explained
      of_kind (inr (inr none)) = absurd none

pub returns : goal.returns
returns g c text most before after through ending =
    record { made = made g.S.Site.done g.S.Medium.Disk text most before after through ending; unknown = unknown g.S.Site.done g.S.Medium.Disk text most before after through ending }
