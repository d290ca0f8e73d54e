-- How often a reader is read for a request.
use Rattle.std.proofs.Common.{◌≡◌, ◌<◌, ◌≤◌, ℕ, ◌+◌, Bool, drop, List, [], ◌++◌, length, Option, ◌⊎◌, inl, inr, ap, sym, ◌∙◌, subst, arith, append-nil, length-append, length-drop}
use Rattle.std.specs.Io.KnownBytes.{IsAtEnd}
use Rattle.httparse.specs.Grammar.{RequestHead}
use Rattle.httparse.proofs.GrammarLemmas.{request_unique}
use Rattle.gaz_http.specs.Heads.{BeginsWith, NeverHead, NoHead, inlet_size}
use Rattle.gaz_http.specs.Sparing.{OneForEach, OneForEachUsed}
use Rattle.gaz_http.proofs.SparingFacts.{rest_within}
use Rattle.gaz_exchange.specs.Exchanges.{BeginsWithRequest}
use Rattle.gaz_exchange.specs.Framing.{length_of}
use Rattle.gaz_exchange.specs.Incoming.{IsIncoming, IsReadBehind, IsReadForRequest, IsSpared}
use Rattle.gaz_exchange.specs.Refusals.{HasBadLength, HasHead, IsUnfinished, NoneBehindRefused}
use Rattle.gaz_exchange.specs.declared.fault.Fault.{Fault}
use Rattle.gaz_exchange.specs.declared.framing.Framing.{Framing}
use Rattle.gaz_exchange.specs.declared.framing.Framing.TheVariants.{Length, Refused}
use Rattle.gaz_exchange.specs.declared.request.Incoming.{Incoming}
use Rattle.gaz_exchange.specs.declared.request.Incoming.TheVariants as incoming
use Rattle.gaz_exchange.specs.declared.request.Needed.{Needed}
use Rattle.gaz_exchange.proofs.EndLaws.{none_short}

-- the bytes behind those that were used
module _ (before mid after : ℕ) (bytes behind more : List ℕ) (used : OneForEachUsed before mid bytes behind) where
  all_behind : (FoundNone : Type 0) → OneForEach mid after (behind ++ more) FoundNone → OneForEach before after (bytes ++ more) FoundNone
  all_behind FoundNone one = elim one [
    | inl each ↦ inl (omega (arith, used, each, length-append bytes more, length-append behind more))
    | inr last ↦ inr (omega (arith, used, last.0, length-append bytes more, length-append behind more), last.1)
  ]

  used_behind : (rest : List ℕ) → OneForEachUsed mid after (behind ++ more) rest → OneForEachUsed before after (bytes ++ more) rest
  used_behind rest one = omega (arith, used, one, length-append bytes more, length-append behind more)

  -- those of a head were used
  module _ (h : RequestHead) (begins : BeginsWith (bytes ++ more) h (behind ++ more)) (framing : Framing) (is : framing ≡ length_of h) (spared : IsSpared mid after (behind ++ more) framing) where
    refused_head : (fault : Fault) (bad : HasBadLength (bytes ++ more) fault) → OneForEachUsed before after (bytes ++ more) bad.after
    refused_head fault bad =
        let same = request_unique (bytes ++ more) h bad.head (behind ++ more) bad.after begins.reads bad.begins.reads in
        let refused : framing ≡ Refused fault = is ∙ ap length_of same.0 ∙ bad.framed in
        let none : after ≤ mid = subst (λ (f : Framing). IsSpared mid after (behind ++ more) f) refused spared in
        let one : OneForEachUsed mid after (behind ++ more) bad.after = omega (arith, none, ap length same.1) in
        used_behind bad.after one

    whole_body : (head : RequestHead) (body rest : List ℕ) → BeginsWithRequest (bytes ++ more) head body rest → OneForEachUsed before after (bytes ++ more) rest
    whole_body head body rest b =
        let same = request_unique (bytes ++ more) h head (behind ++ more) b.after begins.reads b.head.reads in
        let told : framing ≡ Length (length body) = is ∙ ap length_of same.0 ∙ b.framed in
        let whole : IsSpared mid after (behind ++ more) (Length (length body)) = subst (λ (f : Framing). IsSpared mid after (behind ++ more) f) told spared in
        let all : length (behind ++ more) ≡ length body + length rest = ap length (same.1 ∙ b.whole) ∙ length-append body rest in
        let one : OneForEachUsed mid after (behind ++ more) rest = omega (arith, all, whole (omega (arith, all)), length-drop (length body) (behind ++ more)) in
        used_behind rest one

module _ (before after : ℕ) (read rest : List ℕ) where
  -- there is no read behind the requests at all
  pub spared_by_used : OneForEachUsed before after read rest → NoneBehindRefused before after read rest
  spared_by_used used = record {
    behind_head = λ fault bad. omega (arith, used, rest_within rest bad.head bad.after bad.begins);
    behind_body = λ head body behind b. omega (arith, used, rest_within rest head b.after b.head, ap length b.whole, length-append body behind);
    behind_held = λ none long. omega (arith, used, long, length-drop inlet_size rest);
  }

  -- no more bytes than are held, and no head
  pub spared_by_none : NoHead rest → length rest ≤ inlet_size → NoneBehindRefused before after read rest
  spared_by_none none short = record {
    behind_head = λ fault bad. absurd (none bad.head bad.after bad.begins);
    behind_body = λ head body behind b. absurd (none head b.after b.head);
    behind_held = λ none long. omega (arith, short, long);
  }

  sized_bad : (size : ℕ) (after_head : List ℕ) → HasHead rest size after_head → (fault : Fault) → HasBadLength rest fault → ⊥
  sized_bad size after_head has fault bad =
      let same = request_unique rest has.head bad.head after_head bad.after has.begins.reads bad.begins.reads in
      let wrong : Length size ≡ Refused fault = sym has.framed ∙ ap length_of same.0 ∙ bad.framed in
      cc wrong

  -- a head, and not the whole body behind it
  pub spared_by_short : (size : ℕ) (after_head : List ℕ) → HasHead rest size after_head → length after_head < size → NoneBehindRefused before after read rest
  spared_by_short size after_head has short = record {
    behind_head = λ fault bad. absurd (sized_bad size after_head has fault bad);
    behind_body = λ head body behind b. absurd (none_short rest size after_head has short head body behind b);
    behind_held = λ none long. absurd (none has.head after_head has.begins);
  }

-- a head's bytes, and those of the body behind it
module _ (before mid after : ℕ) (bytes behind more : List ℕ) (used : OneForEachUsed before mid bytes behind) (h : RequestHead) (begins : BeginsWith (bytes ++ more) h (behind ++ more)) where
  unfinished : IsUnfinished (bytes ++ more) → NoneBehindRefused before after (bytes ++ more) (bytes ++ more)
  unfinished (inl none) = absurd (none h (behind ++ more) begins)
  unfinished (inr (size, after_head, has, short)) = spared_by_short before after (bytes ++ more) (bytes ++ more) size after_head has short

  pub read_behind : (needed : Needed) → needed.framing ≡ length_of h → (routed : Bool) (rest : List ℕ) (left : Option (List ℕ)) (came : Incoming) → IsIncoming routed (bytes ++ more) rest left came
      → IsReadBehind mid after (behind ++ more) needed rest left came → IsReadForRequest before after (bytes ++ more) rest left came
  read_behind needed is routed rest left (incoming.Request q) so one = used_behind before mid after bytes behind more used rest one
  read_behind needed is routed rest left (incoming.Refused fault) so one = (
    all_behind before mid after bytes behind more used _ one.0,
    record {
      behind_head = refused_head before mid after bytes behind more used h begins needed.framing is one.1;
      behind_body = whole_body before mid after bytes behind more used h begins needed.framing is one.1;
      behind_held = λ none long. absurd (none h (behind ++ more) begins);
    },
  )
  read_behind needed is routed rest left incoming.Over so one = absurd one
  read_behind needed is routed rest left (incoming.Failed cause) so one = (all_behind before mid after bytes behind more used _ one, unfinished so)

-- what is no head, in no more bytes than are held
pub spared_by_open : (before after : ℕ) (pending all : List ℕ) → pending ≡ all → length pending ≤ inlet_size → NoHead pending → NoneBehindRefused before after all all
spared_by_open before after pending all e short none = spared_by_none before after all all (subst (λ (l : List ℕ). NoHead l) e none) (omega (arith, short, ap length e))

pub spared_by_bad : (before after : ℕ) (pending all : List ℕ) (left : Option (List ℕ)) → pending ≡ all → length pending ≤ inlet_size → (NeverHead pending ⊎ (NoHead pending × IsAtEnd left)) → NoneBehindRefused before after all all
spared_by_bad before after pending all left e short (inl never) = spared_by_open before after pending all e short (λ h rest b. never [] h rest (rw (append-nil pending) b))
spared_by_bad before after pending all left e short (inr none) = spared_by_open before after pending all e short none.0

-- the bytes of the requests before it were used
pub spared_then : (begun reads reads_then : ℕ) (read inlet more : List ℕ) → OneForEachUsed begun reads read inlet → NoneBehindRefused reads reads_then (inlet ++ more) (inlet ++ more)
    → NoneBehindRefused begun reads_then (read ++ more) (inlet ++ more)
spared_then begun reads reads_then read inlet more used spared = record {
  behind_head = λ fault bad. used_behind begun reads reads_then read inlet more used bad.after (spared.behind_head fault bad);
  behind_body = λ head body behind b. used_behind begun reads reads_then read inlet more used behind (spared.behind_body head body behind b);
  behind_held = λ none long. used_behind begun reads reads_then read inlet more used (drop inlet_size (inlet ++ more)) (spared.behind_held none long);
}
