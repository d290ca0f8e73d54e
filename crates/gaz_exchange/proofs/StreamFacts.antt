-- Bytes that are written.
use Rattle.std.proofs.Common.{◌≡◌, ℕ, Bool, false, true, refl, subst, append-nil, Option, None, Some, List, [], ◌∷◌, ◌++◌, ap, ◌∙◌, sym, append_assoc}
use Rattle.std.proofs.KnownBytes.{Appends-nil, Appends-trans}
use Rattle.std.specs.Io.KnownBytes.{Appends, Keeps}
use Rattle.gaz_http.specs.Writing.{IsPut}

-- a writer that keeps its bytes, and then takes others
pub kept_appends : (a b c : Option (List ℕ)) (bs : List ℕ) → Keeps a b → Appends b c bs → Appends a c bs
kept_appends None b c bs kept more = tt
kept_appends (Some x) None c bs kept more = absurd kept
kept_appends (Some x) (Some y) None bs kept more = absurd more
kept_appends (Some x) (Some y) (Some z) bs kept more = rw (← kept) more

-- it takes none
pub kept_appends_none : (a b : Option (List ℕ)) → Keeps a b → Appends a b []
kept_appends_none a b kept = kept_appends a b b [] kept (Appends-nil b)

-- a text that was written whole, and more of it
pub put_behind : (held mid holds : Option (List ℕ)) (text behind : List ℕ) (whole : Bool) → IsPut held mid text true → IsPut mid holds behind whole → IsPut held holds (text ++ behind) whole
put_behind held mid holds text behind whole a b =
    let none : text ≡ a.sent = a.cut ∙ ap (λ l. a.sent ++ l) (a.all refl) ∙ append-nil a.sent in
    record {
      sent = text ++ b.sent;
      lost = b.lost;
      cut = ap (λ l. text ++ l) b.cut ∙ sym (append_assoc text b.sent b.lost);
      appended = Appends-trans held mid holds text b.sent (subst (λ l. Appends held mid l) (sym none) a.appended) b.appended;
      all = b.all;
      part = b.part;
    }

begin_none : (xs ys : List ℕ) → xs ++ ys ≡ [] → xs ≡ []
begin_none [] ys e = refl
begin_none (x ∷ xs) ys e = absurd (cc e)

-- a text that wasn't wholly written, and what would have followed
pub put_short : (held holds : Option (List ℕ)) (text behind : List ℕ) → IsPut held holds text false → IsPut held holds (text ++ behind) false
put_short held holds text behind a = record {
  sent = a.sent;
  lost = a.lost ++ behind;
  cut = ap (λ l. l ++ behind) a.cut ∙ append_assoc a.sent a.lost behind;
  appended = a.appended;
  all = λ e. cc;
  part = λ _ e. a.part refl (begin_none a.lost behind e);
}
