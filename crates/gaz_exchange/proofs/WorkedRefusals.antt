-- The worked examples on how often a reader is read for a request that is refused.
use Rattle.std.proofs.Common.{◌≡◌, ℕ, zero, suc, true, false, ◌∷◌, [], ◌++◌, length, drop, refl, ap, sym, ◌∙◌, arith, codes}
use Rattle.std.specs.Prelude.{replicate}
use Rattle.std.proofs.lemmas.List.{length-drop, length-replicate}
use Rattle.httparse.specs.Grammar.{print_request}
use Rattle.httparse.proofs.OnLiterals.{httparse_on_literals}
use Rattle.httparse.proofs.GrammarLemmas.{request_unique}
use Rattle.gaz_http.specs.Heads.{BeginsWith, NoHead, inlet_size, is_blank}
use Rattle.gaz_http.specs.Sparing.{OneForEachUsed}
use Rattle.gaz_http.proofs.HeadFacts.{head_inside}
use Rattle.gaz_http.specs.WorkedClosings.{header}
use Rattle.gaz_steps.specs.declared.refusal.DoorRefusal.TheVariants.{TooLarge}
use Rattle.gaz_exchange.specs.Framing.{length_of}
use Rattle.gaz_exchange.specs.Refusals.{HasBadLength}
use Rattle.gaz_exchange.specs.WorkedRefusals.{IsReadFor, WorkedRefusals, large, large_bytes, lines}
use Rattle.gaz_exchange.specs.WorkedStreams.{asking_bytes, cut_bytes, posted, posting_bytes}
use Rattle.gaz_exchange.specs.declared.fault.Fault.TheVariants.{Door}
use Rattle.gaz_exchange.specs.declared.framing.Framing.TheVariants.{Length, Refused}
use Rattle.gaz_exchange.proofs.SparingFacts.{spared_by_short}
use Rattle.gaz_exchange.proofs.StreamLaws.{one_request}
use Rattle.gaz_exchange.proofs.WorkedStreams.{cut_is, is_head, is_line, posted_framed, posted_head, posted_request}

-- ---- a body that is too large

large_head : BeginsWith (large_bytes ++ codes "abc") large (codes "abc")
unfolding httparse_on_literals
large_head =
    let size : length (print_request large) ≡ 69 = refl in
    let line = is_line (codes "Content-Length") (codes "1048577") (omega arith) refl refl in
    let is = is_head (codes "POST") (codes "/custodians/1001/volumes/1") (header (codes "Content-Length") (codes "1048577") ∷ []) (omega arith) refl (omega arith) refl refl line in
    record { reads = (is, refl); short = omega (arith, size); few = omega arith }

large_framed : length_of large ≡ Refused (Door TooLarge)
unfolding length_of httparse_on_literals
large_framed = refl

abbrev large_refused : HasBadLength (large_bytes ++ codes "abc") (Door TooLarge)
large_refused = record { head = large; after = codes "abc"; begins = large_head; framed = large_framed }

large_each : IsReadFor 69 (large_bytes ++ codes "abc")
large_each = record {
  behind_head = λ fault bad.
      let same = request_unique (large_bytes ++ codes "abc") large bad.head (codes "abc") bad.after large_head.reads bad.begins.reads in
      let three : 3 ≡ length bad.after = ap length same.1 in
      let all : length (large_bytes ++ codes "abc") ≡ 72 = refl in
      omega (arith, three, all);
  behind_body = λ head body behind b.
      let same = request_unique (large_bytes ++ codes "abc") large head (codes "abc") b.after large_head.reads b.head.reads in
      let wrong : Refused (Door TooLarge) ≡ Length (length body) = sym large_framed ∙ ap length_of same.0 ∙ b.framed in
      absurd (cc wrong);
  behind_held = λ none long. absurd (none large (codes "abc") large_head);
}

large_behind : IsReadFor 70 (large_bytes ++ codes "abc") → ⊥
large_behind spared =
    let all : length (large_bytes ++ codes "abc") ≡ 72 = refl in
    let one = spared.behind_head (Door TooLarge) large_refused in
    omega (arith, all, one)

-- ---- a whole request

whole_each : IsReadFor 66 (posting_bytes ++ asking_bytes)
whole_each = record {
  behind_head = λ fault bad.
      let same = request_unique (posting_bytes ++ asking_bytes) posted.head bad.head (codes "abc" ++ asking_bytes) bad.after (posted_head asking_bytes).reads bad.begins.reads in
      let wrong : Length 3 ≡ Refused fault = sym posted_framed ∙ ap length_of same.0 ∙ bad.framed in
      absurd (cc wrong);
  behind_body = λ head body behind b.
      let same = one_request (posting_bytes ++ asking_bytes) posted.head head posted.body body asking_bytes behind (posted_request asking_bytes) b in
      let rest : 43 ≡ length behind = ap length same.2 in
      let all : length (posting_bytes ++ asking_bytes) ≡ 109 = refl in
      omega (arith, rest, all);
  behind_held = λ none long. absurd (none posted.head (codes "abc" ++ asking_bytes) (posted_head asking_bytes));
}

whole_behind : IsReadFor 67 (posting_bytes ++ asking_bytes) → ⊥
whole_behind spared =
    let rest : length asking_bytes ≡ 43 = refl in
    let all : length (posting_bytes ++ asking_bytes) ≡ 109 = refl in
    let one = spared.behind_body posted.head posted.body asking_bytes (posted_request asking_bytes) in
    omega (arith, rest, all, one)

-- ---- empty lines

blank_lines : (n : ℕ) → is_blank (replicate n 10) ≡ true
blank_lines zero = refl
blank_lines (suc n) = blank_lines n

no_head_lines : NoHead lines
no_head_lines h rest b =
    let wrong : true ≡ false = sym (blank_lines 9000) ∙ ap is_blank b.reads.1 ∙ head_inside h rest in
    cc wrong

lines_each : IsReadFor 8193 lines
lines_each = record {
  behind_head = λ fault bad. absurd (no_head_lines bad.head bad.after bad.begins);
  behind_body = λ head body behind b. absurd (no_head_lines head b.after b.head);
  behind_held = λ none long. omega (arith, length-replicate {A = ℕ} 9000 10, length-drop inlet_size lines);
}

lines_behind : IsReadFor 8194 lines → ⊥
lines_behind spared =
    let all : length lines ≡ 9000 = length-replicate {A = ℕ} 9000 10 in
    let one : OneForEachUsed 0 8194 lines (drop inlet_size lines) = spared.behind_held no_head_lines (omega (arith, all)) in
    omega (arith, all, one, length-drop inlet_size lines)

on_cut : (reads : ℕ) → IsReadFor reads cut_bytes
on_cut reads = spared_by_short 0 reads cut_bytes cut_bytes 3 (codes "ab") cut_is (omega arith)

pub worked_refusals_hold : WorkedRefusals
worked_refusals_hold = record {
  on_large = record { refused = large_refused; each_of_head = large_each; not_behind = large_behind };
  on_whole = record { each_of_request = whole_each; not_behind = whole_behind };
  on_lines = record { each_of_held = lines_each; not_behind = lines_behind };
  on_cut = on_cut;
}
