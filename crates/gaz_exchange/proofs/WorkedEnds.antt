-- The worked examples on how a conversation ends.
use Rattle.std.proofs.Common.{◌≡◌, ℕ, ◌+◌, true, false, List, [], ◌∷◌, ◌++◌, length, Some, None, Option, inl, inr, refl, ap, sym, ◌∙◌, arith, codes, length-append}
use Rattle.std.specs.Prelude.{take, drop}
use Rattle.httparse.proofs.OnLiterals.{httparse_on_literals}
use Rattle.httparse.proofs.GrammarLemmas.{request_unique}
use Rattle.gaz_http.specs.Headers.{is_closing}
use Rattle.gaz_http.specs.Heads.{IsOver, NoHead, is_blank}
use Rattle.gaz_http.specs.declared.supply.Cause.TheVariants.{WriteFault}
use Rattle.gaz_http.proofs.HeadFacts.{head_inside}
use Rattle.gaz_exchange.specs.Ends.{AnswersAll, ComesTo, StopsAnswering}
use Rattle.gaz_exchange.specs.Exchanges.{Exchange, replies}
use Rattle.gaz_exchange.specs.Framing.{length_of}
use Rattle.gaz_exchange.specs.Refusals.{HasHead, IsRefused, no_memory, bad_length}
use Rattle.gaz_exchange.specs.WorkedStreams.{lost, lost_bytes}
use Rattle.gaz_exchange.specs.WorkedEnds.{WorkedAll, WorkedEndings, WorkedEnds, WorkedStops, answered, broken_off, served, stopped}
use Rattle.gaz_exchange.specs.declared.conversation.Ended.TheVariants.{Most, Closed, InputEnd}
use Rattle.gaz_exchange.specs.declared.fault.Fault.TheVariants.{NotReceived}
use Rattle.gaz_exchange.specs.declared.framing.Framing.TheVariants.{Length, Refused}
use Rattle.gaz_exchange.proofs.WorkedStreams.{lost_head, lost_request}

-- the only exchange is the one in hand, where none is counted
split_one : (earlier : List Exchange) (in_hand : Exchange) → lost ∷ [] ≡ earlier ++ in_hand ∷ [] → 0 ≡ length earlier → (earlier ≡ []) × (in_hand ≡ lost)
split_one [] in_hand e none = (refl, cc e)
split_one (x ∷ earlier) in_hand e none = absurd (omega (arith, none))

no_more : (sent lost_part : List ℕ) → sent ≡ sent ++ lost_part → lost_part ≡ []
no_more [] lost_part e = sym e
no_more (x ∷ sent) lost_part e = no_more sent lost_part (cc e)

whole_reply : StopsAnswering (answered [] None) 0 → ⊥
whole_reply s =
    let one = split_one s.earlier s.in_hand s.split s.counted in
    let told : lost.reply ≡ s.sent = s.told ∙ ap (λ es. replies es ++ s.sent) one.0 in
    let cut : lost.reply ≡ s.sent ++ s.lost = ap (λ (e : Exchange). e.reply) (sym one.1) ∙ s.cut in
    s.part (no_more s.sent s.lost (sym told ∙ cut))

not_left_out : ComesTo 1 (answered [] None) (stopped 0 WriteFault) → ⊥
not_left_out (inl waiting) = let wrong : 0 ≡ 1 = waiting.counted in omega (arith, wrong)
not_left_out (inr (inl answering)) = whole_reply answering
not_left_out (inr (inr (inl refusing))) = let wrong : 0 ≡ 1 = refusing.counted in omega (arith, wrong)
not_left_out (inr (inr (inr (inl ends)))) = let wrong : 0 ≡ 1 = ends.counted in omega (arith, wrong)
not_left_out (inr (inr (inr (inr ends)))) = let wrong : 0 ≡ 2 = ends.counted in omega (arith, wrong)

split_none : (earlier : List Exchange) (in_hand : Exchange) → lost ∷ [] ≡ earlier ++ in_hand ∷ [] → 1 ≡ length earlier → ⊥
split_none earlier in_hand e one =
    let lengths : 1 ≡ length earlier + 1 = ap length e ∙ length-append earlier (in_hand ∷ []) in
    omega (arith, lengths, one)

-- ten bytes aren't the reply, nor do they begin with it
ten_bytes : take 10 lost.reply ≡ lost.reply → ⊥
ten_bytes e = let lengths : 10 ≡ 93 = ap length e in omega (arith, lengths)

not_counted : ComesTo 2 broken_off (stopped 1 WriteFault) → ⊥
not_counted (inl waiting) = ten_bytes waiting.told
not_counted (inr (inl answering)) = split_none answering.earlier answering.in_hand answering.split answering.counted
not_counted (inr (inr (inl refusing))) =
    let lengths : 10 ≡ 93 + length refusing.sent = ap length refusing.told ∙ length-append lost.reply refusing.sent in
    omega (arith, lengths)
not_counted (inr (inr (inr (inl ends)))) = ten_bytes ends.told
not_counted (inr (inr (inr (inr ends)))) = let wrong : 1 ≡ 2 = ends.counted in omega (arith, wrong)

not_uncounted : ComesTo 1 (answered [] None) (served 0 Most) → ⊥
not_uncounted ends = let wrong : Closed ≡ Most = ends.0 in cc wrong

not_closed : ComesTo 1 (answered [] None) (served 1 Closed) → ⊥
not_closed ends = let wrong : Most ≡ Closed = ends.0 in cc wrong

not_before_the_end : ComesTo 2 (answered [] (Some (codes "G"))) (served 1 InputEnd) → ⊥
not_before_the_end ends = let wrong = ends.at_end in cc wrong

over : IsOver []
over = record { blank = refl; short = omega arith }

lost_goes_on : is_closing lost.head ≡ false
unfolding is_closing httparse_on_literals
lost_goes_on = refl

lost_framed : length_of lost.head ≡ Length 0
unfolding length_of httparse_on_literals
lost_framed = refl

no_body : (size : ℕ) (after : List ℕ) → HasHead lost_bytes size after → size ≡ 0
no_body size after has =
    let same = request_unique lost_bytes lost.head has.head [] after (lost_head []).reads has.begins.reads in
    let size_is : Length 0 ≡ Length size = sym lost_framed ∙ ap length_of same.0 ∙ has.framed in
    sym (cc size_is)

no_want : (left : Option (List ℕ)) → IsRefused lost_bytes left NotReceived → ⊥
no_want left (no_memory size after has some) = omega (arith, some, no_body size after has)
no_want left (bad_length fault bad) =
    let same = request_unique lost_bytes lost.head bad.head [] bad.after (lost_head []).reads bad.begins.reads in
    let wrong : Length 0 ≡ Refused NotReceived = sym lost_framed ∙ ap length_of same.0 ∙ bad.framed in
    cc wrong

one_left : AnswersAll 2 (answered lost_bytes None) (served 1 InputEnd) → ⊥
unfolding is_closing httparse_on_literals
one_left (inl (inl done)) = cc done
one_left (inl (inr none)) = none lost.head [] [] (lost_request [])
one_left (inr refused) = no_want None refused

endings : WorkedEndings
unfolding is_closing httparse_on_literals
endings = record {
  at_most = (refl, inl (record { done = refl; counted = refl; told = refl }));
  not_closed = not_closed;
  not_uncounted = not_uncounted;
  at_end = record { open_yet = refl; over = over; at_end = refl; counted = refl; told = refl };
  not_before_the_end = not_before_the_end;
}

none_yet : NoHead []
none_yet h rest b = let wrong : true ≡ false = ap is_blank b.reads.1 ∙ head_inside h rest in cc wrong

stops : WorkedStops
unfolding is_closing httparse_on_literals
stops = record {
  in_reply = inr (inl (record { earlier = []; in_hand = lost; sent = take 10 lost.reply; lost = drop 10 lost.reply; split = refl; cut = refl; part = λ e. cc e; counted = refl; told = refl }));
  not_counted = not_counted;
  not_by_the_reader = λ waiting. let wrong : 0 ≡ 1 = waiting.counted in omega (arith, wrong);
  behind_reply = inr (inr (inr (inl (record { done = refl; counted = refl; told = refl }))));
  not_left_out = not_left_out;
  unread = record { open_yet = refl; unfinished = inl none_yet; counted = refl; told = refl };
  not_over = λ waiting. let wrong : 1 ≡ 0 = waiting.counted in omega (arith, wrong);
}

all : WorkedAll
unfolding is_closing httparse_on_literals
all = record { last = inl (inl refl); not_one_left = one_left }

pub worked_ends_hold : WorkedEnds
worked_ends_hold = record { endings = endings; stops = stops; all = all }
