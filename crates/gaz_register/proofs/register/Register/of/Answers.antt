use Rattle.std.proofs.lemmas.Result.{err_from_is_err_and}
use Rattle.gaz_register.proofs.Registered.{codes-own, codes-shared, no-fault, overlap-uprn, overlap-usrn, same-code}
use Rattle.gaz_register.proofs.register.Register.of.Goals as goal

pub returns-then-not-have_own_codes : goal.returns-then-not-have_own_codes
returns-then-not-have_own_codes c =
    let xs = c.args.custodians.items in
    same-code xs (codes-shared xs c.requires.sorted (λ up.
    let t = c.have_own_codes.ensures.1 (rw c.deref.ensures.value up) in
    cc (rw c.if-not-have_own_codes.true at t)))

pub returns-in_err-uprn : goal.returns-in_err-uprn
returns-in_err-uprn c =
    let p = err_from_is_err_and c.from_residual.result c.from_residual.ensures.1 in
    let xs = c.args.custodians.items in
    let codes = codes-own xs (rw c.deref.ensures.value at (c.have_own_codes.ensures.0 c.if-not-have_own_codes.false)) in
    rw (p.1, p.2) (overlap-uprn c.in_err-uprn.field-0.0 xs codes (rw c.deref-2.ensures.value at c.in_err-uprn.ensures.overlap))

pub returns-in_err-usrn : goal.returns-in_err-usrn
returns-in_err-usrn c =
    let p = err_from_is_err_and c.from_residual-in_err-usrn.result c.from_residual-in_err-usrn.ensures.1 in
    let xs = c.args.custodians.items in
    let codes = codes-own xs (rw c.deref.ensures.value at (c.have_own_codes.ensures.0 c.if-not-have_own_codes.false)) in
    let uprn = rw c.deref-2.ensures.value at c.in_ok-uprn.ensures.disjoint in
    rw (p.1, p.2) (overlap-usrn c.in_err-usrn.field-0.0 xs codes uprn (rw c.deref-3.ensures.value at c.in_err-usrn.ensures.overlap))

pub returns : goal.returns
returns c =
    let xs = c.args.custodians.items in
    let codes = codes-own xs (rw c.deref.ensures.value at (c.have_own_codes.ensures.0 c.if-not-have_own_codes.false)) in
    no-fault xs codes (rw c.deref-2.ensures.value at c.in_ok-uprn.ensures.disjoint) (rw c.deref-3.ensures.value at c.in_ok-usrn.ensures.disjoint)
