-- A keeper over two keepers, as it is seen.
use Rattle.std.specs.Prelude.{◌≡◌, Option, None, Some}
use Rattle.gaz_keeper.specs.Board.{last_view}
use Rattle.gaz_keeper.specs.Keeper.{Content, IsAtHand, IsLawful, Open, Progress, Seen, after_stop}
use Rattle.gaz_keeper.specs.Keeper.{with_working}
use Rattle.gaz_mirror.specs.Gathering.{made}
use Rattle.gaz_mirror.specs.declared.gathered.Gathered.{Gathered}

-- both stand for their contents, which are one
pub record StandAsOne (below above : Seen) : Type 0 where
  pub lower : below.stands
  pub upper : above.stands
  pub same : above.content ≡ below.content

-- both stand for their contents, which are one but for the working view; that is what the gathered
-- changes make of the custodian's last one, and its volume is at hand
pub record StandApart (below above : Seen) (gathered : Gathered) : Type 0 where
  pub lower : below.stands
  pub upper : above.stands
  pub same : after_stop above.content ≡ below.content
  pub at_hand : IsAtHand below.content gathered.code
  pub working : above.content.working
      ≡ made (last_view below.content.board gathered.code) gathered.changes.items

-- the lower one stands for its content, and with it the upper one, where there is one
abbrev pub StandsWith : {U : Type 0} → (U → Seen) → Seen → Option U → Option Gathered → Type 0
StandsWith seen lower None None = lower.stands
StandsWith seen lower (Some upper) None = StandAsOne lower (seen upper)
StandsWith seen lower None (Some gathered) = ⊥
StandsWith seen lower (Some upper) (Some gathered) = StandApart lower (seen upper) gathered

-- the lower one's content; while a judgement is gathered, with the upper one's working view
abbrev pub content_of : {U : Type 0} → (U → Seen) → Content → Option U → Option Gathered → Content
content_of seen k upper None = k
content_of seen k None (Some gathered) = k
content_of seen k (Some upper) (Some gathered) = with_working k (seen upper).content.working

-- the content of a keeper over two is lawful where both stand for theirs
unfoldable pub lawful_with : {U : Type 0} (seen : U → Seen) (lower : Seen) (upper : Option U)
    (gathered : Option Gathered) → StandsWith seen lower upper gathered
    → IsLawful (content_of seen lower.content upper gathered)
lawful_with seen lower None None stood = lower.lawful stood
lawful_with seen lower (Some upper) None stood = lower.lawful stood.lower
lawful_with seen lower None (Some gathered) stood = absurd stood
lawful_with seen lower (Some upper) (Some gathered) stood = record {
  views = (lower.lawful stood.lower).views;
  working = ((seen upper).lawful stood.upper).working;
}

-- the judgement that is gathered, or that of the lower one
abbrev pub progress_with : Progress → Option Gathered → Progress
progress_with lower None = lower
progress_with lower (Some gathered) = Open gathered.code

-- a keeper over two is seen as its lower one, but for the judgement that is gathered above; and it
-- stands for the content only where the upper one does too
abbrev pub mirrored : {U : Type 0} → (U → Seen) → Seen → Option U → Option Gathered → Seen
mirrored seen lower upper gathered = record {
  content = content_of seen lower.content upper gathered;
  stands = StandsWith seen lower upper gathered;
  lawful = lawful_with seen lower upper gathered;
  trusted = lower.trusted;
  unharmed = lower.unharmed;
  progress = progress_with lower.progress gathered;
  failures = lower.failures;
  is_full = lower.is_full;
  full = lower.full;
  leaves = lower.leaves;
  whole = lower.whole;
  left_lawful = lower.left_lawful;
}
