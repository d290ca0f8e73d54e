-- How a router walks along a path.
use Rattle.std.proofs.Common.{◌≡◌, ℕ, zero, suc, ◌-◌, ◌<◌, ◌≤◌, Bool, true, false, cond, List, [], ◌∷◌, ◌++◌, length, Option, Some, None, ◌⊎◌, inl, inr, refl, ap, sym, ◌∙◌, arith, append-nil}
use Rattle.std.specs.Prelude.{◌&&◌, ◌==◌, not, nat_lt}
use Rattle.std.proofs.lemmas.Bool.Decides.{nat_tests}
use Rattle.matchit.specs.Rows.{RowsOf}
use Rattle.matchit.specs.Seek.{has_slash, or_else, own, param_step, seek, step}
use Rattle.gaz_exchange.proofs.ExchangeFacts.{both, both_are, not_true}
use Rattle.gaz_exchange.proofs.SegmentFacts.{are_bytes}

module _ {K : Type 0} where
  -- ---- no rows

  none_after : (h : Bool) (n : ℕ) (p : List ℕ) → ((m : ℕ) → seek {K = K} m [] p ≡ None)
      → seek {K = K} ((cond {A = ℕ × RowsOf K} h (0, []) (n, [])).0 - 1) (cond {A = ℕ × RowsOf K} h (0, []) (n, [])).1 p ≡ None
  none_after true n p f = f (0 - 1)
  none_after false n p f = f (n - 1)

  pub seek_none : (n : ℕ) (p : List ℕ) → seek {K = K} n [] p ≡ None
  unfolding seek param_step
  seek_none n [] = refl
  seek_none (suc n) (b ∷ p) = seek_none n p
  seek_none zero (b ∷ p) =
      let e : seek {K = K} 0 [] p ≡ None = seek_none 0 p in
      rw e (ap (λ o. or_else o None) (none_after (cond (b == 47) true (has_slash p)) (suc (length p)) p (λ m. seek_none m p)))

  pub or_none : (o : Option K) → or_else o None ≡ o
  or_none None = refl
  or_none (Some x) = refl

  -- bytes that a parameter took are passed over
  pub seek_skip : (rs : RowsOf K) (a p : List ℕ) → seek (length a) rs (a ++ p) ≡ seek 0 rs p
  unfolding seek
  seek_skip rs [] p = refl
  seek_skip rs (x ∷ a) p = seek_skip rs a p

  -- ---- bytes

  -- each row with these bytes in front
  abbrev pub prefixed : List ℕ → RowsOf K → RowsOf K
  prefixed lits [] = []
  prefixed lits ((t, k) ∷ rest) = (lits ++ t, k) ∷ prefixed lits rest

  step_prefixed : (h : Bool) (b x : ℕ) (lits : List ℕ) (rows : RowsOf K) → (b == x) ≡ h → step x (prefixed (b ∷ lits) rows) ≡ cond h (prefixed lits rows) []
  step_prefixed true b x lits [] e = refl
  step_prefixed false b x lits [] e = refl
  step_prefixed true b x lits ((t, k) ∷ rest) e = rw e (ap (λ l. (lits ++ t, k) ∷ l) (step_prefixed true b x lits rest e))
  step_prefixed false b x lits ((t, k) ∷ rest) e = rw e (step_prefixed false b x lits rest e)

  own_prefixed : (b : ℕ) (lits : List ℕ) (rows : RowsOf K) → own (prefixed (b ∷ lits) rows) ≡ None
  own_prefixed b lits [] = refl
  own_prefixed b lits ((t, k) ∷ rest) = own_prefixed b lits rest

  none_param : (x : ℕ) (p : List ℕ) → seek {K = K} ((param_step {K = K} [] (x ∷ p)).0 - 1) (param_step {K = K} [] (x ∷ p)).1 p ≡ None
  unfolding param_step
  none_param x p = none_after (cond (x == 47) true (has_slash p)) (suc (length p)) p (λ m. seek_none m p)

  byte_cases : (h : Bool) (rows : RowsOf K) (p : List ℕ) (z : Option K) → z ≡ None → or_else (seek 0 (cond h rows []) p) z ≡ cond h (seek 0 rows p) None
  byte_cases true rows p z e = ap (or_else (seek 0 rows p)) e ∙ or_none (seek 0 rows p)
  byte_cases false rows p z e = ap (λ o. or_else o z) (seek_none 0 p) ∙ e

  seek_byte : (b x : ℕ) (lits : List ℕ) (rows : RowsOf K) (p : List ℕ) → b < 256
      → seek 0 (prefixed (b ∷ lits) rows) (x ∷ p) ≡ cond (b == x) (seek 0 (prefixed lits rows) p) None
  unfolding seek
  seek_byte b x lits rows p h =
      let r : RowsOf K = prefixed (b ∷ lits) rows in
      let no_param : (b == 256) ≡ false = grind (arith, nat_tests) in
      let no_rest : (b == 257) ≡ false = grind (arith, nat_tests) in
      let param = step_prefixed false b 256 lits rows no_param in
      let others = step_prefixed false b 257 lits rows no_rest in
      let z = ap (λ (y : RowsOf K). or_else (seek ((param_step y (x ∷ p)).0 - 1) (param_step y (x ∷ p)).1 p) (own (step 257 r))) param
      ∙ ap (λ (y : RowsOf K). or_else (seek ((param_step {K = K} [] (x ∷ p)).0 - 1) (param_step {K = K} [] (x ∷ p)).1 p) (own y)) others
      ∙ ap (λ (o : Option K). or_else o None) (none_param x p) in
      ap (λ (y : RowsOf K). or_else (seek 0 y p) (or_else (seek ((param_step (step 256 r) (x ∷ p)).0 - 1) (param_step (step 256 r) (x ∷ p)).1 p) (own (step 257 r)))) (step_prefixed (b == x) b x lits rows refl)
      ∙ byte_cases (b == x) (prefixed lits rows) p _ z

  pub seek_bytes : (lits : List ℕ) (rows : RowsOf K) (p : List ℕ) → are_bytes lits ≡ true → seek 0 (prefixed lits rows) (lits ++ p) ≡ seek 0 (prefixed [] rows) p
  seek_bytes [] rows p h = refl
  seek_bytes (b ∷ lits) rows p h =
      let first : b < 256 = grind (arith, nat_tests, (both (nat_lt b 256) (are_bytes lits) h).0) in
      let same : (b == b) ≡ true = grind (arith, nat_tests) in
      seek_byte b b lits rows (lits ++ p) first ∙ ap (λ x. cond x (seek 0 (prefixed lits rows) (lits ++ p)) None) same
      ∙ seek_bytes lits rows p (both (nat_lt b 256) (are_bytes lits) h).1

  byte_found : (h : Bool) (b x : ℕ) (r : K) (o : Option K) → (b == x) ≡ h → cond h o None ≡ Some r → (x ≡ b) × (o ≡ Some r)
  byte_found true b x r o same e = (grind (arith, nat_tests, same), e)
  byte_found false b x r o same e = absurd (cc e)

  -- a path that is found begins with the bytes
  pub bytes_found : (lits : List ℕ) (rows : RowsOf K) (p : List ℕ) (r : K) → are_bytes lits ≡ true → seek 0 (prefixed lits rows) p ≡ Some r
      → (rest : List ℕ) × (p ≡ lits ++ rest) × (seek 0 (prefixed [] rows) rest ≡ Some r)
  unfolding seek
  bytes_found [] rows p r h e = (p, refl, e)
  bytes_found (b ∷ lits) rows [] r h e = let wrong : Some r ≡ None = sym e ∙ own_prefixed b lits rows in absurd (cc wrong)
  bytes_found (b ∷ lits) rows (x ∷ p) r h e =
      let first : b < 256 = grind (arith, nat_tests, (both (nat_lt b 256) (are_bytes lits) h).0) in
      let (same, more) = byte_found (b == x) b x r (seek 0 (prefixed lits rows) p) refl (sym (seek_byte b x lits rows p first) ∙ e) in
      let (rest, begins, found) = bytes_found lits rows p r (both (nat_lt b 256) (are_bytes lits) h).1 more in
      (rest, ap (λ y. y ∷ p) same ∙ ap (λ l. b ∷ l) begins, found)

  -- ---- rows that part at a byte

  -- no row begins with a parameter
  abbrev pub all_bytes : RowsOf K → Bool
  all_bytes [] = true
  all_bytes (([], k) ∷ rows) = all_bytes rows
  all_bytes ((b ∷ t, k) ∷ rows) = nat_lt b 256 && all_bytes rows

  -- no row begins with this byte
  abbrev pub lacks : ℕ → RowsOf K → Bool
  lacks b [] = true
  lacks b (([], k) ∷ rows) = lacks b rows
  lacks b ((y ∷ t, k) ∷ rows) = not (y == b) && lacks b rows

  no_step : (token : ℕ) (rows : RowsOf K) → 256 ≤ token → all_bytes rows ≡ true → step token rows ≡ []
  no_step token [] h e = refl
  no_step token (([], k) ∷ rows) h e = no_step token rows h e
  no_step token ((b ∷ t, k) ∷ rows) h e =
      let (first, more) = both (nat_lt b 256) (all_bytes rows) e in
      let other : (b == token) ≡ false = grind (arith, nat_tests, first, h) in
      rw other (no_step token rows h more)

  lacks_step : (b x : ℕ) (rows : RowsOf K) → (b == x) ≡ true → lacks b rows ≡ true → step x rows ≡ []
  lacks_step b x [] h e = refl
  lacks_step b x (([], k) ∷ rows) h e = lacks_step b x rows h e
  lacks_step b x ((y ∷ t, k) ∷ rows) h e =
      let (first, more) = both (not (y == b)) (lacks b rows) e in
      let no : (y == b) ≡ false = not_true (y == b) first in
      let other : (y == x) ≡ false = grind (arith, nat_tests, no, h) in
      rw other (lacks_step b x rows h more)

  -- the walk goes on with the rows that begin with the byte
  seek_heads : (rows : RowsOf K) (x : ℕ) (p : List ℕ) → all_bytes rows ≡ true → seek 0 rows (x ∷ p) ≡ seek 0 (step x rows) p
  unfolding seek
  seek_heads rows x p h =
      let param = no_step 256 rows (omega arith) h in
      let others = no_step 257 rows (omega arith) h in
      let z = ap (λ (y : RowsOf K). or_else (seek ((param_step y (x ∷ p)).0 - 1) (param_step y (x ∷ p)).1 p) (own (step 257 rows))) param
      ∙ ap (λ (y : RowsOf K). or_else (seek ((param_step {K = K} [] (x ∷ p)).0 - 1) (param_step {K = K} [] (x ∷ p)).1 p) (own y)) others
      ∙ ap (λ (o : Option K). or_else o None) (none_param x p) in
      ap (or_else (seek 0 (step x rows) p)) z ∙ or_none (seek 0 (step x rows) p)

  push : (h : Bool) (r : List ℕ × K) (A B : RowsOf K) → cond h (r ∷ (A ++ B)) (A ++ B) ≡ cond h (r ∷ A) A ++ B
  push true r A B = refl
  push false r A B = refl

  step_more : (x : ℕ) (A B : RowsOf K) → step x (A ++ B) ≡ step x A ++ step x B
  step_more x [] B = refl
  step_more x (([], k) ∷ A) B = step_more x A B
  step_more x ((y ∷ t, k) ∷ A) B =
      ap (λ (l : RowsOf K). cond (y == x) ((t, k) ∷ l) l) (step_more x A B) ∙ push (y == x) (t, k) (step x A) (step x B)

  own_more : (b : ℕ) (lits : List ℕ) (A B : RowsOf K) → own (prefixed (b ∷ lits) A ++ B) ≡ own B
  own_more b lits [] B = refl
  own_more b lits ((t, k) ∷ A) B = own_more b lits A B

  bytes_more : (b : ℕ) (lits : List ℕ) (A B : RowsOf K) → nat_lt b 256 ≡ true → all_bytes B ≡ true → all_bytes (prefixed (b ∷ lits) A ++ B) ≡ true
  bytes_more b lits [] B h e = e
  bytes_more b lits ((t, k) ∷ A) B h e = both_are (nat_lt b 256) (all_bytes (prefixed (b ∷ lits) A ++ B)) h (bytes_more b lits A B h e)

  -- the rows that begin with this byte, and others that don't
  module _ (b : ℕ) (lits : List ℕ) (A B : RowsOf K) (byte : nat_lt b 256 ≡ true) (bytes : all_bytes B ≡ true) (others : lacks b B ≡ true) where
    part_cases : (h : Bool) (x : ℕ) (p : List ℕ) → (b == x) ≡ h → seek 0 (cond h (prefixed lits A) [] ++ step x B) p ≡ cond h (seek 0 (prefixed lits A) p) (seek 0 B (x ∷ p))
    part_cases true x p e = ap (λ (l : RowsOf K). seek 0 (prefixed lits A ++ l) p) (lacks_step b x B e others) ∙ ap (λ (l : RowsOf K). seek 0 l p) (append-nil (prefixed lits A))
    part_cases false x p e = sym (seek_heads B x p bytes)

    pub seek_part : (x : ℕ) (p : List ℕ) → seek 0 (prefixed (b ∷ lits) A ++ B) (x ∷ p) ≡ cond (b == x) (seek 0 (prefixed lits A) p) (seek 0 B (x ∷ p))
    seek_part x p =
        seek_heads (prefixed (b ∷ lits) A ++ B) x p (bytes_more b lits A B byte bytes)
        ∙ ap (λ (l : RowsOf K). seek 0 l p) (step_more x (prefixed (b ∷ lits) A) B ∙ ap (λ (l : RowsOf K). l ++ step x B) (step_prefixed (b == x) b x lits A refl))
        ∙ part_cases (b == x) x p refl

    -- what is found begins with the byte, or is found among the others
    abbrev pub Parts : List ℕ → K → Type 0
    Parts p r = ((rest : List ℕ) × (p ≡ b ∷ rest) × (seek 0 (prefixed lits A) rest ≡ Some r)) ⊎ (seek 0 B p ≡ Some r)

    parts_by : (h : Bool) (x : ℕ) (p : List ℕ) (r : K) → (b == x) ≡ h → cond h (seek 0 (prefixed lits A) p) (seek 0 B (x ∷ p)) ≡ Some r → Parts (x ∷ p) r
    parts_by true x p r same e = let is : x ≡ b = grind (arith, nat_tests, same) in inl (p, ap (λ y. y ∷ p) is, e)
    parts_by false x p r same e = inr e

    pub part_found : (p : List ℕ) (r : K) → seek 0 (prefixed (b ∷ lits) A ++ B) p ≡ Some r → Parts p r
    unfolding seek
    part_found [] r e = inr (sym (own_more b lits A B) ∙ e)
    part_found (x ∷ p) r e = parts_by (b == x) x p r refl (sym (seek_part x p) ∙ e)

  -- a row that ends here
  pub end_found : (k : K) (p : List ℕ) (r : K) → seek 0 (([], k) ∷ []) p ≡ Some r → (p ≡ []) × (r ≡ k)
  unfolding seek
  end_found k [] r e = let same : Some k ≡ Some r = e in let is : r ≡ k = cc same in (refl, is)
  end_found k (x ∷ p) r e =
      let rows : RowsOf K = ([], k) ∷ [] in
      let none : seek 0 rows (x ∷ p) ≡ None = seek_heads rows x p refl ∙ seek_none 0 p in
      let wrong : Some r ≡ None = sym e ∙ none in
      absurd (cc wrong)

  module _ (k : K) where
    -- ---- a parameter

    pub seek_param : (t : List ℕ) (x : ℕ) (p : List ℕ) → x < 256
        → seek 0 ((256 ∷ t, k) ∷ []) (x ∷ p) ≡ seek ((param_step ((t, k) ∷ []) (x ∷ p)).0 - 1) (param_step ((t, k) ∷ []) (x ∷ p)).1 p
    unfolding seek
    seek_param t x p h =
        let no_byte : (256 == x) ≡ false = grind (arith, nat_tests) in
        let none : seek {K = K} 0 [] p ≡ None = seek_none 0 p in
        rw (no_byte, none) (or_none _)

    -- at the end
    pub param_end : (p : List ℕ) → param_step (([], k) ∷ []) p ≡ cond (has_slash p) (0, []) (length p, ([], k) ∷ [])
    unfolding param_step
    param_end p = refl
