-- Parts of a test that holds, and the whole.
use Rattle.std.proofs.Common.{◌≡◌, Bool, true, false, refl}
use Rattle.std.specs.Prelude.{◌&&◌}

pub and-left : (a b : Bool) → a && b ≡ true → a ≡ true
and-left true b e = refl
and-left false b e = cc e

pub and-right : (a b : Bool) → a && b ≡ true → b ≡ true
and-right true b e = e
and-right false b e = cc e

pub and-both : (a b : Bool) → a ≡ true → b ≡ true → a && b ≡ true
and-both a b d e = rw (d, e) refl
