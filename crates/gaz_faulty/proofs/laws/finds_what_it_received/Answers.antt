use Rattle.std.proofs.Common.{◌≡◌, Bool, false, Option, None, ap, ◌∙◌, refl, subst, sym}
use Rattle.std.specs.FinMap as map
use Rattle.gaz_faulty.specs.Faulting.{content_around, progress_around}
use Rattle.gaz_keeper.specs.Keeper.{Content, Idle, Progress, empty_content}
use Rattle.gaz_shelf.specs.Mem.{content_in, progress_of}
use Rattle.gaz_shelf.specs.declared.mem_shelf.MemShelf.{MemShelf}
use Rattle.gaz_keeper.specs.declared.shelf.Shelf.{Ghosts}
use Rattle.gaz_mirror.specs.Mirrored.{seen_mirrored}
use Rattle.gaz_mirror.specs.Mirroring.{content_of}
use Rattle.gaz_mirror.specs.declared.mirror.Mirror.{Mirror}
use Rattle.gaz_mirror.specs.declared.gathered.Gathered.{Gathered}
use Rattle.gaz_faulty.proofs.laws.finds_what_it_received.Goals as goal

-- a keeper around an empty one is empty
empty_around : (broken : Bool) (p : Progress) (k : Content) → broken ≡ false → p ≡ Idle → k ≡ empty_content → content_around (progress_around broken p) k ≡ empty_content
empty_around broken p k whole idle empty =
    ap (λ b. content_around (progress_around b p) k) whole ∙ ap (λ q. content_around (progress_around false q) k) idle ∙ ap (content_around Idle) empty

-- where nothing is gathered the content is the lower keeper's
content_below : {L U : Type 0} {lower : Ghosts L} {upper : Ghosts U} (m : Mirror L U lower upper) → m.gathered ≡ None → (seen_mirrored m).content ≡ (lower.seen m.lower).content
content_below {L} {U} {lower} {upper} m none = subst (λ (o : Option Gathered). content_of upper.seen (lower.seen m.lower).content m.upper o ≡ (lower.seen m.lower).content) (sym none) refl

pub returns : goal.returns
returns c =
    let upper = c.new-upper in
    let mirror = c.with-mirror.result in
    let same = empty_around upper.result.broken (progress_of upper.result.inner.judging) (content_in upper.result.inner) upper.ensures.whole
    (ap (λ (m : MemShelf). progress_of m.judging) upper.ensures.inner ∙ c.new.ensures.idle) (ap content_in upper.ensures.inner ∙ c.new.ensures.empty) in
    c.receive_and_find.ensures (c.with-mirror.ensures.stands tt tt (same ∙ sym c.new-2.ensures.empty))
    (ap (λ (k : Content). map.get k.files (c.args.code, c.args.volume)) (content_below mirror c.with-mirror.ensures.apart)
    ∙ ap (λ (m : MemShelf). map.get m.files (c.args.code, c.args.volume)) c.with-mirror.ensures.lower
    ∙ ap (λ (k : Content). map.get k.files (c.args.code, c.args.volume)) c.new-2.ensures.empty ∙ map.get-empty _ _)
    tt
