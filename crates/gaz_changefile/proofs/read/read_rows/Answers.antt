use Rattle.std.proofs.Common.{◌∙◌, [], ◌∷◌, ap, arith, refl, sym, None}
use Rattle.std.proofs.lemmas.Result.{IfErr-weaker, err_from_is_err_and}
use Rattle.csv.specs.Records.{fields_of}
use Rattle.gaz_rows.specs.Rows.{rows_of}
use Rattle.gaz_changefile.proofs.Runs.{bad_end, bad_header, good_end, kept_start, no_record, ok_both, on_end, on_fault, on_row, read_text, told}
use Rattle.gaz_changefile.specs.Reading.{Good}
use Rattle.gaz_changefile.specs.Rules.{header_rules, later_rules}
use Rattle.gaz_changefile.specs.Steps.{before_in}
use Rattle.gaz_changefile.proofs.read.read_rows.Goals as goal

pub returns-then-not-branch : goal.returns-then-not-branch
returns-then-not-branch c bytes text is =
    let n = rw c.if-not-branch.true at (c.in_ok-next_row.ensures.read (rows_of bytes) is) in
    record { good = tt; bad = rw c.at.ensures (read_text bytes c.args.code c.args.volume text ∙ no_record c.args.code c.args.volume (rows_of bytes) _ n.0) }

pub returns-in_err-header : goal.returns-in_err-header
returns-in_err-header c bytes text is =
    let n = rw c.if-not-branch.false at (c.in_ok-next_row.ensures.read (rows_of bytes) is) in
    let p = err_from_is_err_and c.from_residual-in_err-header.result c.from_residual-in_err-header.ensures.1 in
    rw p.1 (record {
      good = tt;
      bad = rw p.2 (told bytes c.args.code c.args.volume 1 (header_rules c.args.code c.args.volume (fields_of c.next_row.new.row)) _ c.in_err-header.ensures.bad (λ rule broken.
          read_text bytes c.args.code c.args.volume text ∙ bad_header c.args.code c.args.volume (rows_of bytes) _ n.0 _ rule n.1 broken));
    })

pub loop-place-init : goal.loop-place-init
loop-place-init c = (
  rw c.new-draft.ensures.changes (omega arith),
  λ bytes text is.
      let n = rw c.if-not-branch.false at (c.in_ok-next_row.ensures.read (rows_of bytes) is) in
      let h = c.in_ok-header.ensures in
      let d = c.new-draft.ensures in (
        fields_of c.next_row.new.row ∷ [],
        n.0,
        kept_start c.args.code c.args.volume (rows_of bytes) (fields_of c.next_row.new.row) n.0 c.new-draft.result n.1 h.good (rw d.profile h.other) d.own (rw (h.profile, d.profile) refl) (rw (h.date, d.date) refl) d.bases d.changes d.last d.open,
        n.2,
      ),
)

pub returns-then-not-branch-2 : goal.returns-then-not-branch-2
returns-then-not-branch-2 c bytes text is =
    let (before, left, kept, is_at) = c.loop-place.invariant.1 bytes text is in
    let over = on_end c.args.code c.args.volume (rows_of bytes) before left _ c.loop-place.place c.loop-place.draft c.read_on.new.draft _ c.if-not-branch-2.true (c.in_ok-read_on.ensures.read left is_at) kept in
    record {
      good = ok_both c.finish.result _ _ _ c.finish.ensures.file c.finish.ensures.good (λ f is none.
          read_text bytes c.args.code c.args.volume text ∙ good_end c.args.code c.args.volume (rows_of bytes) before c.loop-place.place c.read_on.new.draft over none
          ∙ ap Good (sym is));
      bad = IfErr-weaker c.finish.result _ _ (λ f h. told bytes c.args.code c.args.volume c.loop-place.place (later_rules c.read_on.new.draft.own (before_in c.read_on.new.draft) None) f h (λ rule broken.
          read_text bytes c.args.code c.args.volume text ∙ bad_end c.args.code c.args.volume (rows_of bytes) before c.loop-place.place c.read_on.new.draft _ rule over broken))
          c.finish.ensures.bad;
    }

pub returns-in_err-read_on : goal.returns-in_err-read_on
returns-in_err-read_on c bytes text is =
    let (before, left, kept, is_at) = c.loop-place.invariant.1 bytes text is in
    let p = err_from_is_err_and c.from_residual-in_err-read_on.result c.from_residual-in_err-read_on.ensures.1 in
    rw p.1 (record { good = tt; bad = rw p.2 (on_fault bytes c.args.code c.args.volume before left _ c.loop-place.place c.loop-place.draft _ _ text (c.in_err-read_on.ensures.read left is_at) kept) })

pub loop-place-preserved : goal.loop-place-preserved
loop-place-preserved c = (
  c.in_ok-read_on.ensures.few,
  λ bytes text is.
      let (before, left, kept, is_at) = c.loop-place.invariant.1 bytes text is in
      on_row c.args.code c.args.volume (rows_of bytes) before left _ c.loop-place.place c.loop-place.draft _ _ c.if-not-branch-2.false (c.in_ok-read_on.ensures.read left is_at) kept,
)
