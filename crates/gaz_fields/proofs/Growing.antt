-- What was there stands, whatever a call answers.
use Rattle.std.proofs.Common.{◌≡◌, ℕ, List, [], ◌++◌, length, take, ap, sym, ◌∙◌, append_assoc}
use Rattle.std.proofs.lemmas.List.{append-nil}
use Rattle.std.proofs.Math.Seq.{take-append_seam}
use Rattle.gaz_fields.specs.Appending.{Grows}

pub grows_by : (o m a : List ℕ) → m ≡ o ++ a → Grows o m
grows_by o m a e = record { behind = a; is = e }

pub grows_same : (o m : List ℕ) → m ≡ o → Grows o m
grows_same o m e = record { behind = []; is = e ∙ sym (append-nil o) }

pub grows_trans : (o n m : List ℕ) → Grows o n → Grows n m → Grows o m
grows_trans o n m g h = record {
  behind = g.behind ++ h.behind;
  is = h.is ∙ ap (λ (x : List ℕ). x ++ h.behind) g.is ∙ append_assoc o g.behind h.behind;
}

-- one call behind another
infixl 10 ◌>>◌
pub ◌>>◌ : {o n m : List ℕ} → Grows o n → Grows n m → Grows o m
g >> h = grows_trans _ _ _ g h

-- cut back to its length, it is as it was
pub grows_cut : (o n m : List ℕ) → Grows o n → m ≡ take (length o) n → m ≡ o
grows_cut o n m g e = e ∙ ap (take (length o)) g.is ∙ take-append_seam o g.behind

pub ruleset growing = (grows_by, grows_same, grows_trans, grows_cut)
