use Rattle.std.proofs.Common.{◌≡◌, ◌+◌, ◌*◌, ℕ, List, drop, sym, ◌∙◌, refl}
use Rattle.std.specs.Ordering.{nat_cmp, ordering_then}
use Rattle.std.specs.Cmp.Lexicographic.{slice_cmp}
use Rattle.std.specs.declared.cmp.Ordering.{Ordering}
use Rattle.gaz_fields.specs.Labels.{word}
use Rattle.gaz_fields.proofs.LabelOrder.{by_word_at, decided, undecided}
use Rattle.gaz_fields.proofs.label.compare_by_words.Goals as goal

-- what the words at this index leave open
abbrev rest : ℕ → List ℕ → List ℕ → Ordering
rest i one other = slice_cmp nat_cmp (drop (4 * (i + 1)) one) (drop (4 * (i + 1)) other)

pub returns-then-is_ne : goal.returns-then-is_ne
returns-then-is_ne g c =
    let i = c.loop-index.index in
    let one : List ℕ = c.args.one.now in
    let other : List ℕ = c.args.other.now in
    let step = by_word_at i one other (c.told-one ∙ sym c.told-other) c.requires.one c.requires.other in
    let order : c.cmp-order.result ≡ nat_cmp (word 4 (drop (4 * i) one)) (word 4 (drop (4 * i) other)) =
    rw (c.cmp-order.ensures, c.word_at.ensures, c.word_at-in-loop-index.ensures) refl in
    let all : slice_cmp nat_cmp one other ≡ ordering_then c.cmp-order.result (rest i one other) = sym c.loop-index.invariant ∙ (rw order step) in
    decided c.cmp-order.result (rest i one other) (slice_cmp nat_cmp one other) c.if-is_ne.ensures all

pub loop-index-preserved : goal.loop-index-preserved
loop-index-preserved g c =
    let i = c.loop-index.index in
    let one : List ℕ = c.args.one.now in
    let other : List ℕ = c.args.other.now in
    let step = by_word_at i one other (c.told-one ∙ sym c.told-other) c.requires.one c.requires.other in
    let order : c.cmp-order.result ≡ nat_cmp (word 4 (drop (4 * i) one)) (word 4 (drop (4 * i) other)) =
    rw (c.cmp-order.ensures, c.word_at.ensures, c.word_at-in-loop-index.ensures) refl in
    let all : slice_cmp nat_cmp one other ≡ ordering_then c.cmp-order.result (rest i one other) = sym c.loop-index.invariant ∙ (rw order step) in
    undecided c.cmp-order.result (rest i one other) (slice_cmp nat_cmp one other) c.if-is_ne.ensures all
