-- What the numbers that were passed on make of the rows of kind 92, written in turn.
use Rattle.std.proofs.Common.{◌≡◌, ◌≢◌, ◌∙◌, ◌≤◌, ◌<◌, ◌+◌, ◌⊎◌, inl, inr, ℕ, refl, sym, ap, subst, arith}
use Rattle.std.proofs.lemmas.Bool.{cases_eq, cases_lt}
use Rattle.sqlite_rules.specs.Lists.{Has}
use Rattle.gaz_views.specs.declared.custody.Custody.{Custody}
use Rattle.gaz_overlay.specs.Passages.{PassageRow}
use Rattle.gaz_overlay.specs.Rows.{never}
use Rattle.gaz_row_items.proofs.PassagesAt.{Rows}
use Rattle.gaz_kept.specs.Histories.{Gain}
use Rattle.gaz_kept.specs.Kept.{ArePassages, IsFollowed, IsPassedUntil}
use Rattle.gaz_kept.specs.Passages.{Ends, ended_with}

-- two rows of a number that were born in one volume and say the same of it
pub record Alike (r p : PassageRow) : Type 0 where
  pub number : r.uprn ≡ p.uprn
  pub born : r.born ≡ p.born
  pub custody : r.custody ≡ p.custody

pub itself : (p : PassageRow) → Alike p p
itself p = record { number = refl; born = refl; custody = refl }

pub alike_then : (a b c : PassageRow) → Alike a b → Alike b c → Alike a c
alike_then a b c one two = record { number = one.number ∙ two.number; born = one.born ∙ two.born; custody = one.custody ∙ two.custody }

abbrev pub new_passage : ℕ → ℕ → Custody → PassageRow
new_passage volume uprn x = record { uprn = uprn; born = volume; gone = never; custody = x }

-- ---- a number's current passage ends

-- the row was current, and is gone with a volume
pub record IsEnded (volume k : ℕ) (now : Rows) (r : PassageRow) : Type 0 where
  pub was : PassageRow
  pub there : Has now was
  pub number : was.uprn ≡ k
  pub current : was.gone ≡ never
  pub is : r ≡ ended_with volume was

-- no row of the number is current any more, and all else is as it was
pub record Ended (n k : ℕ) (now mid : Rows) : Type 0 where
  pub only : (r : PassageRow) → Has mid r → (Has now r × (r.uprn ≡ k → r.gone ≤ n)) ⊎ IsEnded (n + 1) k now r
  pub kept : (r : PassageRow) → Has now r → Has mid r ⊎ (Has mid (ended_with (n + 1) r) × (r.uprn ≡ k))

-- of the number there is no row
pub none_ends : (n k : ℕ) (now : Rows) → ((r : PassageRow) → Has now r → r.uprn ≢ k) → Ended n k now now
none_ends n k now none = record { only = λ r there. inl (there, λ number. absurd (none r there number)); kept = λ r there. inl there }

-- its current row ends
pub one_ends : (n k : ℕ) (now mid : Rows) (h : PassageRow) → n + 1 < never → ArePassages (n + 1) now → ((r : PassageRow) → Has now r → r.uprn ≡ k → IsPassedUntil n r)
    → Has now h → h.uprn ≡ k → h.gone ≡ never → Ends h (n + 1) now mid → Ended n k now mid
one_ends n k now mid h room are until there number current ends = record { only = λ r here. by_end r (ends.only r here); kept = λ r was. by_birth r was (cases_eq r.uprn k) (cases_eq r.born h.born) }
  where
    -- another row of the number is gone
    other_gone : (r : PassageRow) → Has now r → r ≢ h → r.uprn ≡ k → r.gone ≤ n
    other_gone r was other same = by_gone (until r was same).gone
      where
        clash : r.gone ≡ never → (r.born < h.born) ⊎ (h.born ≤ r.born) → (h.born < r.born) ⊎ (r.born ≤ h.born) → r.gone ≤ n
        clash gone (inl less) two = let g = are.in_turn r h was there (same ∙ sym number) less in let b = (until h there number).born in absurd (omega arith)
        clash gone (inr le) (inl less) = let g = are.in_turn h r there was (number ∙ sym same) less in let b = (until r was same).born in absurd (omega arith)
        clash gone (inr le) (inr ge) = let born : r.born ≡ h.born = omega arith in absurd (other (are.once r h was there (same ∙ sym number) born))

        by_gone : (r.gone ≤ n) ⊎ (r.gone ≡ never) → r.gone ≤ n
        by_gone (inl le) = le
        by_gone (inr gone) = clash gone (cases_lt r.born h.born) (cases_lt h.born r.born)

    by_end : (r : PassageRow) → (Has now r × (r ≢ h)) ⊎ (r ≡ ended_with (n + 1) h) → (Has now r × (r.uprn ≡ k → r.gone ≤ n)) ⊎ IsEnded (n + 1) k now r
    by_end r (inl was) = inl (was.0, other_gone r was.0 was.1)
    by_end r (inr is) = inr (record { was = h; there = there; number = number; current = current; is = is })

    by_birth : (r : PassageRow) → Has now r → (r.uprn ≡ k) ⊎ ((r.uprn ≡ k) → ⊥) → (r.born ≡ h.born) ⊎ ((r.born ≡ h.born) → ⊥) → Has mid r ⊎ (Has mid (ended_with (n + 1) r) × (r.uprn ≡ k))
    by_birth r was (inl same) (inl born) = inr (subst (λ s. Has mid (ended_with (n + 1) s)) (sym (are.once r h was there (same ∙ sym number) born)) ends.there, same)
    by_birth r was (inl same) (inr late) = inl (ends.kept r was (λ is. late (ap (λ (s : PassageRow). s.born) is)))
    by_birth r was (inr other) birth = inl (ends.kept r was (λ is. other (ap (λ (s : PassageRow). s.uprn) is ∙ number)))

-- ---- and another is born

module _ (n k : ℕ) (x : Custody) (now mid new : Rows) (room : n + 1 < never) (are : ArePassages (n + 1) now)
    (until : (r : PassageRow) → Has now r → r.uprn ≡ k → IsPassedUntil n r) (ended : Ended n k now mid) (gain : Gain (new_passage (n + 1) k x) mid new) where
  abbrev born_now : PassageRow
  born_now = new_passage (n + 1) k x

  -- how a row that was there is gone now
  data Gone (r p : PassageRow) : Type 0 where
    Still : r.gone ≡ p.gone → (r.uprn ≡ k → r.gone ≤ n) → Gone r p
    Closed : r.gone ≡ n + 1 → p.gone ≡ never → r.uprn ≡ k → Gone r p

  record From (r : PassageRow) : Type 0 where
    row : PassageRow
    there : Has now row
    alike : Alike r row
    gone : Gone r row

  origin : (r : PassageRow) → Has new r → (r ≡ born_now) ⊎ From r
  origin r here = by_gain (gain.only r here)
    where
      by_end : (Has now r × (r.uprn ≡ k → r.gone ≤ n)) ⊎ IsEnded (n + 1) k now r → From r
      by_end (inl was) = record { row = r; there = was.0; alike = itself r; gone = Still refl was.1 }
      by_end (inr e) = record {
        row = e.was;
        there = e.there;
        alike = record { number = ap (λ (s : PassageRow). s.uprn) e.is; born = ap (λ (s : PassageRow). s.born) e.is; custody = ap (λ (s : PassageRow). s.custody) e.is };
        gone = Closed (ap (λ (s : PassageRow). s.gone) e.is) e.current (ap (λ (s : PassageRow). s.uprn) e.is ∙ e.number);
      }

      by_gain : (r ≡ born_now) ⊎ Has mid r → (r ≡ born_now) ⊎ From r
      by_gain (inl is) = inl is
      by_gain (inr was) = inr (by_end (ended.only r was))

  early : (r : PassageRow) → From r → r.uprn ≡ k → r.born ≤ n
  early r f number = let b = (until f.row f.there (sym f.alike.number ∙ number)).born in let e = f.alike.born in omega arith

  until_now : (r : PassageRow) → (r ≡ born_now) ⊎ From r → IsPassedUntil (n + 1) r
  until_now r (inl is) = subst (IsPassedUntil (n + 1)) (sym is) (record { born = omega arith; gone = inr refl; lasts = room })
  until_now r (inr f) = by_gone f.gone
    where
      u : IsPassedUntil (n + 1) f.row
      u = are.until f.row f.there

      b : r.born ≡ f.row.born
      b = f.alike.born

      by_gone : Gone r f.row → IsPassedUntil (n + 1) r
      by_gone (Still same closed) = record {
        born = (let h = u.born in let e = f.alike.born in omega arith);
        gone = subst (λ g. (g ≤ n + 1) ⊎ (g ≡ never)) (sym same) u.gone;
        lasts = (let h = u.lasts in let e = f.alike.born in omega arith);
      }
      by_gone (Closed gone current number) = record {
        born = (let h = u.born in let e = f.alike.born in omega arith);
        gone = inl (omega arith);
        lasts = (let h = early r f number in omega arith);
      }

  -- two that come of one row are one
  same_row : (a b : PassageRow) (f : From a) (g : From b) → f.row ≡ g.row → a ≡ b
  same_row a b f g row = λ i. record { uprn = number i; born = born i; gone = gone f.gone g.gone i; custody = custody i }
    where
      number : a.uprn ≡ b.uprn
      number = f.alike.number ∙ ap (λ (s : PassageRow). s.uprn) row ∙ sym g.alike.number

      born : a.born ≡ b.born
      born = f.alike.born ∙ ap (λ (s : PassageRow). s.born) row ∙ sym g.alike.born

      custody : a.custody ≡ b.custody
      custody = f.alike.custody ∙ ap (λ (s : PassageRow). s.custody) row ∙ sym g.alike.custody

      gone_row : f.row.gone ≡ g.row.gone
      gone_row = ap (λ (s : PassageRow). s.gone) row

      gone : Gone a f.row → Gone b g.row → a.gone ≡ b.gone
      gone (Still one closed) (Still two shut) = one ∙ gone_row ∙ sym two
      gone (Closed one current its) (Closed two too other) = one ∙ sym two
      gone (Still one closed) (Closed two current other) = let c = closed (number ∙ other) in let r = gone_row in absurd (omega arith)
      gone (Closed one current its) (Still two closed) = let c = closed (sym number ∙ its) in let r = gone_row in absurd (omega arith)

  once_now : (a b : PassageRow) → (a ≡ born_now) ⊎ From a → (b ≡ born_now) ⊎ From b → a.uprn ≡ b.uprn → a.born ≡ b.born → a ≡ b
  once_now a b (inl one) (inl two) number born = one ∙ sym two
  once_now a b (inl one) (inr g) number born =
      let e = early b g (sym number ∙ ap (λ (s : PassageRow). s.uprn) one) in
      let late = ap (λ (s : PassageRow). s.born) one in
      absurd (omega arith)
  once_now a b (inr f) (inl two) number born =
      let e = early a f (number ∙ ap (λ (s : PassageRow). s.uprn) two) in
      let late = ap (λ (s : PassageRow). s.born) two in
      absurd (omega arith)
  once_now a b (inr f) (inr g) number born =
      same_row a b f g (are.once f.row g.row f.there g.there (sym f.alike.number ∙ number ∙ g.alike.number) (sym f.alike.born ∙ born ∙ g.alike.born))

  turn_now : (a b : PassageRow) → (a ≡ born_now) ⊎ From a → (b ≡ born_now) ⊎ From b → a.uprn ≡ b.uprn → a.born < b.born → a.gone ≤ b.born
  turn_now a b (inl one) (inl two) number less =
      let e = ap (λ (s : PassageRow). s.born) one in
      let d = ap (λ (s : PassageRow). s.born) two in
      absurd (omega arith)
  turn_now a b (inl one) (inr g) number less =
      let e = early b g (sym number ∙ ap (λ (s : PassageRow). s.uprn) one) in
      let late = ap (λ (s : PassageRow). s.born) one in
      absurd (omega arith)
  turn_now a b (inr f) (inl two) number less = by_gone f.gone
    where
      late : b.born ≡ n + 1
      late = ap (λ (s : PassageRow). s.born) two

      by_gone : Gone a f.row → a.gone ≤ b.born
      by_gone (Still same closed) = let c = closed (number ∙ ap (λ (s : PassageRow). s.uprn) two) in let l = late in omega arith
      by_gone (Closed gone current its) = let l = late in omega arith
  turn_now a b (inr f) (inr g) number less = by_gone f.gone
    where
      before : f.row.gone ≤ g.row.born
      before = let e = f.alike.born in let d = g.alike.born in are.in_turn f.row g.row f.there g.there (sym f.alike.number ∙ number ∙ g.alike.number) (omega arith)

      by_gone : Gone a f.row → a.gone ≤ b.born
      by_gone (Still same closed) = let e = before in let d = g.alike.born in omega arith
      by_gone (Closed gone current its) = let e = before in let d = (are.until g.row g.there).born in absurd (omega arith)

  -- a row that was there is there under its number and birth
  pub still_there : (q : PassageRow) → Has now q → (r : PassageRow) × Has new r × Alike r q
  still_there q was = by_end (ended.kept q was)
    where
      by_end : Has mid q ⊎ (Has mid (ended_with (n + 1) q) × (q.uprn ≡ k)) → (r : PassageRow) × Has new r × Alike r q
      by_end (inl there) = (q, gain.kept q there, itself q)
      by_end (inr e) = (ended_with (n + 1) q, gain.kept (ended_with (n + 1) q) e.0, record { number = refl; born = refl; custody = refl })

  goes_on_now : (r : PassageRow) → (r ≡ born_now) ⊎ From r → (r.gone ≡ never) ⊎ IsFollowed new r
  goes_on_now r (inl is) = inl (ap (λ (s : PassageRow). s.gone) is)
  goes_on_now r (inr f) = by_gone f.gone
    where
      by_next : r.gone ≡ f.row.gone → (f.row.gone ≡ never) ⊎ IsFollowed now f.row → (r.gone ≡ never) ⊎ IsFollowed new r
      by_next same (inl current) = inl (same ∙ current)
      by_next same (inr next) =
          let s = still_there next.next next.there in
          inr (record { next = s.0; there = s.1; of_number = s.2.number ∙ next.of_number ∙ sym f.alike.number; born = s.2.born ∙ next.born ∙ sym same })

      by_gone : Gone r f.row → (r.gone ≡ never) ⊎ IsFollowed new r
      by_gone (Still same closed) = by_next same (are.goes_on f.row f.there)
      by_gone (Closed gone current its) = inr (record { next = born_now; there = gain.there; of_number = sym its; born = sym gone })

  pub are_now : ArePassages (n + 1) new
  are_now = record {
    until = λ r here. until_now r (origin r here);
    once = λ a b ha hb. once_now a b (origin a ha) (origin b hb);
    in_turn = λ a b ha hb. turn_now a b (origin a ha) (origin b hb);
    goes_on = λ r here. goes_on_now r (origin r here);
  }

  -- a row comes of one that was there, or is the new one
  pub comes_of : (r : PassageRow) → Has new r → (r ≡ born_now) ⊎ ((p : PassageRow) × Has now p × Alike r p)
  comes_of r here = elim (origin r here) [ inl is ↦ inl is | inr f ↦ inr (f.row, f.there, f.alike) ]

  -- rows of other numbers are as they were
  pub others_only : (r : PassageRow) → r.uprn ≢ k → Has new r → Has now r
  others_only r other here = by_gain (gain.only r here)
    where
      by_end : (Has now r × (r.uprn ≡ k → r.gone ≤ n)) ⊎ IsEnded (n + 1) k now r → Has now r
      by_end (inl was) = was.0
      by_end (inr e) = absurd (other (ap (λ (s : PassageRow). s.uprn) e.is ∙ e.number))

      by_gain : (r ≡ born_now) ⊎ Has mid r → Has now r
      by_gain (inl is) = absurd (other (ap (λ (s : PassageRow). s.uprn) is))
      by_gain (inr was) = by_end (ended.only r was)

  pub others_kept : (r : PassageRow) → r.uprn ≢ k → Has now r → Has new r
  others_kept r other was = by_end (ended.kept r was)
    where
      by_end : Has mid r ⊎ (Has mid (ended_with (n + 1) r) × (r.uprn ≡ k)) → Has new r
      by_end (inl there) = gain.kept r there
      by_end (inr e) = absurd (other e.1)

  pub new_there : Has new born_now
  new_there = gain.there
