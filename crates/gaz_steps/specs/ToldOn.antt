-- What is told of the answer to any question.
use Rattle.std.specs.Prelude.{Option, None, Some, option_map, Result, Ok, Err}
use Rattle.gaz_steps.specs.Step.{Told}
use Rattle.gaz_steps.specs.declared.question.Question.{Question}
use Rattle.gaz_steps.specs.declared.question.Question.TheVariants.{Ask, Extract, ListClosed}
use Rattle.gaz_steps.specs.declared.question.Question.TheVariants.{LookUp, Settle, Stand}
use Rattle.gaz_steps.specs.declared.refusal.Refusal.{Refusal}
use Rattle.gaz_steps.specs.declared.question.Told as any
use Rattle.gaz_steps.specs.declared.question.Told.TheVariants as told

-- what is told of an answer; none where what is asked for isn't there, and of settling
abbrev pub told_on : (q : Question) → Told q → Option any.Told
told_on (Ask code volume) outcome = option_map (λ o. told.Outcome o.0 o.1) outcome
told_on (Stand code) standing = Some (told.Standing standing)
told_on Settle done = None
told_on (LookUp uprn) found = option_map (λ f. told.Found f) found
told_on (Extract code volume) bytes = option_map (λ b. told.Extract b) bytes
told_on ListClosed closed = Some (told.Closed closed)

-- what is told of a reply: a refusal as it is
abbrev pub telling : (q : Question) → Result (Told q) Refusal → Result (Option any.Told) Refusal
telling q (Ok answer) = Ok (told_on q answer)
telling q (Err refusal) = Err refusal
