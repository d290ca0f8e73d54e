-- A request as it is read.
use Rattle.std.proofs.Common.{◌≡◌, ℕ, Bool, List, Option, ◌⊎◌, inl, inr, ◌∙◌, sym, ap}
use Rattle.std.specs.Io.KnownBytes.{IsAtEnd}
use Rattle.httparse.specs.Grammar.{RequestHead}
use Rattle.gaz_http.specs.Heads.{BeginsWith, NeverHead, NoHead}
use Rattle.gaz_http.specs.Next.{IsMore}
use Rattle.gaz_http.proofs.HeadFacts.{more_not_over}
use Rattle.gaz_exchange.specs.Framing.{length_of}
use Rattle.gaz_exchange.specs.Incoming.{CantRead, IsBehind, IsIncoming, IsNeeded}
use Rattle.gaz_exchange.specs.Refusals.{HasHead, IsRefused, no_head, cut_head, bad_length, cut_body, no_memory}
use Rattle.gaz_exchange.specs.declared.fault.Fault.{Fault}
use Rattle.gaz_exchange.specs.declared.fault.Fault.TheVariants.{BadRequest}
use Rattle.gaz_exchange.specs.declared.framing.Framing.{Framing}
use Rattle.gaz_exchange.specs.declared.framing.Framing.TheVariants.{Length, Refused}
use Rattle.gaz_exchange.specs.declared.request.Incoming.{Incoming}
use Rattle.gaz_exchange.specs.declared.request.Incoming.TheVariants as incoming
use Rattle.gaz_exchange.specs.declared.request.Needed.{Needed}

pub bad_head : (bytes : List ℕ) (left : Option (List ℕ)) → (NeverHead bytes ⊎ (NoHead bytes × IsAtEnd left)) → IsMore bytes → IsRefused bytes left BadRequest
bad_head bytes left (inl never) more = no_head never (more_not_over bytes more)
bad_head bytes left (inr none) more = cut_head none.0 (more_not_over bytes more) none.1

module _ (bytes : List ℕ) (h : RequestHead) (after : List ℕ) (begins : BeginsWith bytes h after) (left : Option (List ℕ)) where
  has_head : (size : ℕ) → length_of h ≡ Length size → HasHead bytes size after
  has_head size e = record { head = h; begins = begins; framed = e }

  cant_read : (framing : Framing) (fault : Fault) → framing ≡ length_of h → CantRead after framing left fault → IsRefused bytes left fault
  cant_read (Length size) fault e (inl short) = rw short.0 (cut_body size after (has_head size (sym e)) short.1 short.2)
  cant_read (Length size) fault e (inr none) = rw none.0 (no_memory size after (has_head size (sym e)) none.1)
  cant_read (Refused why) fault e c = bad_length fault (record { head = h; after = after; begins = begins; framed = sym e ∙ ap Refused c })

  -- what stands behind a head makes it a request, or tells why there is none
  pub head_then : (routed : Bool) (rest : List ℕ) (needed : Needed) (came : Incoming) → IsNeeded routed h needed → IsBehind after needed rest left came
      → IsIncoming routed bytes rest left came
  head_then routed rest needed (incoming.Request q) n b =
      (h, record { after = after; head = begins; framed = sym n.framing_is ∙ b.0; whole = b.1 }, rw b.2 n.call_is, b.3 ∙ n.closing_is)
  head_then routed rest needed (incoming.Refused fault) n b = cant_read needed.framing fault n.framing_is b
  head_then routed rest needed incoming.Over n b = absurd b
  head_then routed rest needed (incoming.Failed cause) n b = inr (b.0, after, has_head b.0 (sym n.framing_is ∙ b.1), b.2)
