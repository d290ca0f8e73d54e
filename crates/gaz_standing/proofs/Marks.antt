-- Marks of which the test says that they are one are equal, and a derived test is this one.
use Rattle.std.proofs.Common.{◌≡◌, true, refl, ap, eqb-true, eq-eqb}
use Rattle.gaz_standing.specs.Indexes.{same_mark}
use Rattle.gaz_standing.specs.contracts.index.MarkPartialEq.TheImpl.{eq-value}
use Rattle.gaz_standing.specs.declared.index.Mark.{Mark}
use Rattle.gaz_standing.specs.declared.index.Mark.TheVariants.{AddressOf, EnglishOn, PartOf, WelshOn}

pub marks_exact : (a b : Mark) → same_mark a b ≡ true → a ≡ b
marks_exact (AddressOf n) (AddressOf m) e = ap AddressOf (eqb-true n m e)
marks_exact (WelshOn n) (WelshOn m) e = ap WelshOn (eqb-true n m e)
marks_exact (EnglishOn n) (EnglishOn m) e = ap EnglishOn (eqb-true n m e)
marks_exact (PartOf n) (PartOf m) e = ap PartOf (eqb-true n m e)
marks_exact a b e = cc

pub mark_itself : (m : Mark) → same_mark m m ≡ true
mark_itself (AddressOf n) = eq-eqb n n refl
mark_itself (WelshOn n) = eq-eqb n n refl
mark_itself (EnglishOn n) = eq-eqb n n refl
mark_itself (PartOf n) = eq-eqb n n refl

pub marks_same : (a b : Mark) → eq-value.it a b ≡ same_mark a b
marks_same (AddressOf n) (AddressOf m) = refl
marks_same (WelshOn n) (WelshOn m) = refl
marks_same (EnglishOn n) (EnglishOn m) = refl
marks_same (PartOf n) (PartOf m) = refl
marks_same a b = refl
