use Rattle.std.proofs.Common.{◌≡◌, ◌∙◌, ap, List, ℕ}
use Rattle.gaz_changefile.specs.Reading.{reading}
use Rattle.gaz_changefile.specs.Writing.{file_text}
use Rattle.gaz_changefile.proofs.Back.{file-back}
use Rattle.gaz_changefile.proofs.Written.{file_is}
use Rattle.gaz_changefile.proofs.write.write_file.Goals as goal

written : (c : goal.In_ok-add_trailer) → c.add_trailer.new.out.items ≡ file_text c.args.code c.args.volume c.args.file.now
written c =
    let header = rw (c.profile_for-profile.ensures, c.deref.ensures.value, c.number.ensures.value, c.number-2.ensures.value) at c.in_ok-add_header.ensures in
    let bases = rw c.deref-2.ensures.value at c.in_ok-add_bases.ensures in
    let changes = rw c.deref-3.ensures.value at c.in_ok-add_changes.ensures in
    let trailer = rw c.deref-4.ensures.value at c.in_ok-add_trailer.ensures in
    rw (← c.file.view_is)
    (file_is c.args.code c.args.volume _ _ _ _ _ _ c.new-out.ensures.items header bases changes trailer)

pub returns-clause-text : goal.returns-clause-text
returns-clause-text c = written c

pub returns-clause-reads_back : goal.returns-clause-reads_back
returns-clause-reads_back c =
    let code = rw c.number.ensures.value at c.number.ensures.range in
    let volume = rw c.number-2.ensures.value at c.number-2.ensures.range in
    ap (λ (t : List ℕ). reading t c.args.code c.args.volume) (written c)
    ∙ file-back c.args.code c.args.volume c.args.file.now code.0 code.1 volume.0 volume.1 c.known.ensures c.requires.bases c.requires.changes c.requires.allowed
