-- A conversation that ended answered all requests of its stream.
use Rattle.std.proofs.Common.{◌≡◌, ℕ, ◌<◌, true, false, List, [], ◌++◌, length, Option, ◌⊎◌, inl, inr, ap, sym, ◌∙◌, arith, append-nil, length-append}
use Rattle.httparse.proofs.GrammarLemmas.{request_unique}
use Rattle.gaz_http.specs.Heads.{IsOver, NoHead, is_blank}
use Rattle.gaz_http.proofs.HeadFacts.{head_inside}
use Rattle.gaz_exchange.specs.Ends.{EndsAs, EndsByReply, Passed}
use Rattle.gaz_exchange.specs.Framing.{length_of}
use Rattle.gaz_exchange.specs.Refusals.{HasBadLength, HasHead, IsRefused, no_head, cut_head, bad_length, cut_body, no_memory}
use Rattle.gaz_exchange.specs.Streams.{AreAll, NoRequest}
use Rattle.gaz_exchange.specs.declared.conversation.Ended.{Ended}
use Rattle.gaz_exchange.specs.declared.conversation.Ended.TheVariants as ended
use Rattle.gaz_exchange.specs.declared.fault.Fault.{Fault}
use Rattle.gaz_exchange.specs.declared.fault.Fault.TheVariants.{NotReceived}
use Rattle.gaz_exchange.specs.declared.framing.Framing.TheVariants.{Length, Refused}

pub no_head_over : (bytes : List ℕ) → IsOver bytes → NoHead bytes
no_head_over bytes over h rest b =
    let wrong : true ≡ false = sym over.blank ∙ ap is_blank b.reads.1 ∙ head_inside h rest in
    cc wrong

none_over : (bytes : List ℕ) → IsOver bytes → NoRequest bytes
none_over bytes over h body rest b = no_head_over bytes over h b.after b.head

none_refused : (bytes : List ℕ) (fault : Fault) → HasBadLength bytes fault → NoRequest bytes
none_refused bytes fault bad h body rest b =
    let same = request_unique bytes bad.head h bad.after b.after bad.begins.reads b.head.reads in
    let wrong : Refused fault ≡ Length (length body) = sym bad.framed ∙ ap length_of same.0 ∙ b.framed in
    cc wrong

pub none_short : (bytes : List ℕ) (size : ℕ) (after : List ℕ) → HasHead bytes size after → length after < size → NoRequest bytes
none_short bytes size after has short h body rest b =
    let same = request_unique bytes has.head h after b.after has.begins.reads b.head.reads in
    let sizes : Length size ≡ Length (length body) = sym has.framed ∙ ap length_of same.0 ∙ b.framed in
    let size_is : size ≡ length body = cc sizes in
    let long : length after ≡ length (body ++ rest) = ap length (same.1 ∙ b.whole) in
    omega (arith, short, size_is, long, length-append body rest)

refused_all : (bytes : List ℕ) (left : Option (List ℕ)) (fault : Fault) → IsRefused bytes left fault → NoRequest bytes ⊎ IsRefused bytes left NotReceived
refused_all bytes left fault (no_head never over) = inl (λ h body rest b. never [] h b.after (rw (append-nil bytes) b.head))
refused_all bytes left fault (cut_head none over end) = inl (λ h body rest b. none h b.after b.head)
refused_all bytes left fault (bad_length why bad) = inl (none_refused bytes why bad)
refused_all bytes left fault (cut_body size after has short end) = inl (none_short bytes size after has short)
refused_all bytes left fault (no_memory size after has some) = inr (no_memory size after has some)

module _ (most : ℕ) (passed : Passed) (n : ℕ) where
  by_reply_all : EndsByReply most passed n → AreAll most passed.exchanges passed.rest ⊎ IsRefused passed.rest passed.left NotReceived
  by_reply_all (inl ends) = inl (inl ends.done)
  by_reply_all (inr ends) =
      elim (refused_all passed.rest passed.left ends.turned_away.fault ends.turned_away.why) [ inl none ↦ inl (inr none) | inr memory ↦ inr memory ]

  -- it doesn't end before the last request of its stream
  pub ends_all : (how : Ended) → EndsAs most passed n how → AreAll most passed.exchanges passed.rest ⊎ IsRefused passed.rest passed.left NotReceived
  ends_all ended.InputEnd ends = inl (inr (none_over passed.rest ends.over))
  ends_all ended.Most ends = by_reply_all ends.1
  ends_all ended.Closed ends = by_reply_all ends.1
