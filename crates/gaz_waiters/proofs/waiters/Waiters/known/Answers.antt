-- What it waits for stands under its code.
use Rattle.std.proofs.Common.{◌≡◌, ◌∙◌, false, cond, sym, ap, refl}
use Rattle.std.specs.Prelude.{None}
use Rattle.std.specs.Cmp.{nat_cmp_total}
use Rattle.std.specs.FinMap as finmap
use Rattle.std.specs.Ordering.{nat_cmp}
use Rattle.gaz_views.proofs.Trees.{get_tree}
use Rattle.gaz_waiters.specs.Remembered.{Remembered, is_among, wanted_by}
use Rattle.gaz_waiters.proofs.waiters.Waiters.known.Goals as goal

pub returns : goal.returns
returns c =
    let q = c.args.custodian in
    let there = c.copied.ensures ∙ c.get.ensures.value ∙ sym (get_tree {S = nat_cmp} (λ a b. refl) nat_cmp_total c.self.inside.wanted.entries q) ∙ ap (λ (m : Remembered). finmap.get m.wanted q) c.self.view_is in
    let unahead : is_among c.args.self.now.ahead q ≡ false =
    ap (λ (m : Remembered). is_among m.ahead q) (sym c.self.view_is) ∙ sym (c.contains.ensures.value ∙ ap (λ xs. is_among xs q) c.as_slice.ensures.value) ∙ c.if-contains.false in
    there ∙ sym (ap (λ b. cond b None (wanted_by c.args.self.now q)) unahead)
