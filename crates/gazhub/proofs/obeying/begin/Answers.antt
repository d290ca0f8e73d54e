use Rattle.std.proofs.Common.{◌≡◌, ℕ, true, codes, Ok, List, [], ◌∷◌, refl, subst, sym}
use Rattle.std.proofs.lemmas.Slice.Eq.{bytes_eq-Decides}
use Rattle.gaz_words.specs.Meaning.{Means}
use Rattle.gaz_words.specs.Words.{asks_play}
use Rattle.gaz_words.specs.declared.command.Command.TheVariants.{Play}
use Rattle.gaz_words.proofs.WorkedWords.{worked}
use Rattle.gazhub.specs.Commands.{Followed}
use Rattle.gazhub.proofs.obeying.begin.Goals as goal

-- words that ask for a conversation mean one
plays_mean : (words : List (List ℕ)) → asks_play words ≡ true → Means words (Ok Play)
plays_mean [] is = worked.nothing
plays_mean (word ∷ []) is = subst (λ w. Means (w ∷ []) (Ok Play)) (sym ((bytes_eq-Decides word (codes "play")).0 is)) worked.plays
plays_mean (word ∷ (other ∷ words)) is = absurd (cc)

pub returns : goal.returns
returns g c = rw (c.in-Some.is, c.in-Some-seed.is) c.follow.ensures

pub returns-then-asks_play : goal.returns-then-asks_play
returns-then-asks_play g c = rw (c.in-Some.is, c.in-Some-seed.is) (Followed Play (plays_mean _ (sym c.if-asks_play.ensures)) (c.play.ensures, refl))
