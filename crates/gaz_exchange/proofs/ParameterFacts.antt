-- How a router walks through a parameter.
use Rattle.std.proofs.Common.{◌≡◌, ℕ, ◌-◌, ◌<◌, Bool, true, false, cond, List, [], ◌∷◌, ◌++◌, length, Some, None, ◌⊎◌, inl, inr, refl, ap, sym, ◌∙◌, arith, length-append, append-nil}
use Rattle.std.specs.Prelude.{◌==◌}
use Rattle.std.proofs.lemmas.Bool.Decides.{nat_tests}
use Rattle.matchit.specs.Rows.{RowsOf}
use Rattle.matchit.specs.Seek.{cuts, has_slash, param_step, seek, segment}
use Rattle.gaz_exchange.proofs.SegmentFacts.{AllBytes, Cut, cut_of, has_slash-cut, is_cut, no_cut, segment_cut, segment_whole}
use Rattle.gaz_exchange.proofs.SeekFacts.{or_none, param_end, seek_none, seek_param, seek_skip}

-- ---- parameters

module _ {K : Type 0} where
  -- no row goes on
  pub nowhere : (rows : RowsOf K) (x : ℕ) (p : List ℕ) (r : K) (step : ℕ × RowsOf K) → seek 0 rows (x ∷ p) ≡ seek (step.0 - 1) step.1 p → step ≡ (0, []) → seek 0 rows (x ∷ p) ≡ Some r → ⊥
  nowhere rows x p r step e none found =
      let n : seek 0 rows (x ∷ p) ≡ None = e ∙ ap (λ y. seek (y.0 - 1) y.1 p) none ∙ seek_none (0 - 1) p in
      let wrong : Some r ≡ None = sym found ∙ n in
      cc wrong

module _ {K : Type 0} (k : K) where
  -- a segment at the end is taken
  pub seek_last : (x : ℕ) (p : List ℕ) → x < 256 → has_slash (x ∷ p) ≡ false → seek 0 ((256 ∷ [], k) ∷ []) (x ∷ p) ≡ Some k
  unfolding seek
  seek_last x p h s =
      let rows : RowsOf K = ([], k) ∷ [] in
      let taken = param_end k (x ∷ p) ∙ ap (λ b. cond {A = ℕ × RowsOf K} b (0, []) (length (x ∷ p), rows)) s in
      let len : length (x ∷ p) - 1 ≡ length p = omega arith in
      seek_param k [] x p h ∙ ap (λ y. seek (y.0 - 1) y.1 p) taken ∙ ap (λ n. seek n rows p) len
      ∙ ap (λ l. seek (length p) rows l) (sym (append-nil p)) ∙ seek_skip rows p []

  last_cases : (x : ℕ) (p : List ℕ) (r : K) → AllBytes (x ∷ p) → seek 0 ((256 ∷ [], k) ∷ []) (x ∷ p) ≡ Some r → Cut (x ∷ p) → has_slash (x ∷ p) ≡ false
  last_cases x p r h e (inl s) = s
  last_cases x p r h e (inr (front, rest, same, s)) =
      let rows : RowsOf K = ([], k) ∷ [] in
      let slashed : has_slash (x ∷ p) ≡ true = ap has_slash same ∙ has_slash-cut front rest in
      let taken = param_end k (x ∷ p) ∙ ap (λ b. cond {A = ℕ × RowsOf K} b (0, []) (length (x ∷ p), rows)) slashed in
      absurd (nowhere ((256 ∷ [], k) ∷ []) x p r (param_step rows (x ∷ p)) (seek_param k [] x p (h 0)) taken e)

  pub last_found : (p : List ℕ) (r : K) → AllBytes p → seek 0 ((256 ∷ [], k) ∷ []) p ≡ Some r
      → (x : ℕ) × (rest : List ℕ) × (p ≡ x ∷ rest) × (has_slash (x ∷ rest) ≡ false)
  unfolding seek
  last_found [] r h e = absurd (cc e)
  last_found (x ∷ p) r h e = (x, p, refl, last_cases x p r h e (cut_of (x ∷ p)))

-- ---- a row that goes on behind a segment

module _ {K : Type 0} (k : K) where
  abbrev through : List ℕ → RowsOf K
  through u = (256 ∷ 47 ∷ u, k) ∷ []

  abbrev past : List ℕ → RowsOf K
  past u = (47 ∷ u, k) ∷ []

  through_param : (u : List ℕ) (x : ℕ) (p : List ℕ) → x < 256 → seek 0 (through u) (x ∷ p) ≡ seek ((param_step (past u) (x ∷ p)).0 - 1) (param_step (past u) (x ∷ p)).1 p
  through_param u x p h = seek_param k (47 ∷ u) x p h

  through_slash : (c : Bool) (u p : List ℕ) → cuts (segment p) (47 ∷ []) ≡ c
      → param_step (past u) p ≡ cond c (length (segment p) - 1, past u) (cond (has_slash p) (0, []) (length p, past u))
  unfolding param_step
  through_slash true u p e = rw e refl
  through_slash false u p e = rw e refl

  pub through_segment : (u : List ℕ) (x : ℕ) (front rest : List ℕ) → x < 256 → has_slash (x ∷ front) ≡ false
      → seek 0 (through u) (x ∷ front ++ 47 ∷ rest) ≡ seek 0 (past u) (47 ∷ rest)
  through_segment u x front rest h s =
      let rows : RowsOf K = past u in
      let q : List ℕ = front ++ 47 ∷ rest in
      let part : segment (x ∷ q) ≡ x ∷ front ++ 47 ∷ [] = segment_cut (x ∷ front) rest s in
      let taken = through_slash true u (x ∷ q) (ap (λ l. cuts l (47 ∷ [])) part ∙ is_cut x front) in
      let len : length (segment (x ∷ q)) - 1 - 1 ≡ length front = omega (arith, ap length part, length-append (x ∷ front) (47 ∷ [])) in
      through_param u x q h ∙ ap (λ y. seek (y.0 - 1) y.1 q) taken ∙ ap (λ n. seek n rows q) len ∙ seek_skip rows front (47 ∷ rest)

  -- nothing is found in one segment
  through_last : (u : List ℕ) (x : ℕ) (p : List ℕ) → x < 256 → has_slash (x ∷ p) ≡ false → seek 0 (through u) (x ∷ p) ≡ None
  unfolding seek
  through_last u x p h s =
      let part = segment_whole (x ∷ p) s in
      let taken = through_slash false u (x ∷ p) (ap (λ l. cuts l (47 ∷ [])) part ∙ no_cut (x ∷ p) s) ∙ ap (λ b. cond {A = ℕ × RowsOf K} b (0, []) (length (x ∷ p), past u)) s in
      let len : length (x ∷ p) - 1 ≡ length p = omega arith in
      through_param u x p h ∙ ap (λ y. seek (y.0 - 1) y.1 p) taken ∙ ap (λ n. seek n (past u) p) len
      ∙ ap (λ l. seek (length p) (past u) l) (sym (append-nil p)) ∙ seek_skip (past u) p []

  -- the path goes on behind its first segment
  abbrev pub GoesThrough : List ℕ → List ℕ → K → Type 0
  GoesThrough u p r = (x : ℕ) × (front : List ℕ) × (rest : List ℕ) × (p ≡ x ∷ front ++ 47 ∷ rest) × (has_slash (x ∷ front) ≡ false) × (seek 0 (past u) (47 ∷ rest) ≡ Some r)

  through_cases : (u : List ℕ) (x : ℕ) (p : List ℕ) (r : K) → AllBytes (x ∷ p) → seek 0 (through u) (x ∷ p) ≡ Some r → Cut (x ∷ p) → GoesThrough u (x ∷ p) r
  through_cases u x p r h e (inl s) =
      let wrong : Some r ≡ None = sym e ∙ through_last u x p (h 0) s in
      absurd (cc wrong)
  through_cases u x p r h e (inr ([], rest, same, s)) =
      let slashed : has_slash (x ∷ p) ≡ true = ap has_slash same in
      let taken = through_slash false u (x ∷ p) (ap (λ l. cuts (segment l) (47 ∷ [])) same) ∙ ap (λ b. cond {A = ℕ × RowsOf K} b (0, []) (length (x ∷ p), past u)) slashed in
      absurd (nowhere (through u) x p r (param_step (past u) (x ∷ p)) (through_param u x p (h 0)) taken e)
  through_cases u x p r h e (inr (y ∷ front, rest, same, s)) =
      let first : x ≡ y = cc same in
      let fits : y < 256 = rw first at (h 0) in
      (y, front, rest, same, s, sym (through_segment u y front rest fits s) ∙ (sym (ap (λ l. seek 0 (through u) l) same) ∙ e))

  pub through_found : (u p : List ℕ) (r : K) → AllBytes p → seek 0 (through u) p ≡ Some r → GoesThrough u p r
  unfolding seek
  through_found u [] r h e = absurd (cc e)
  through_found u (x ∷ p) r h e = through_cases u x p r h e (cut_of (x ∷ p))

-- ---- a row that goes on behind a segment, and one that ends there

module _ {K : Type 0} (k j : K) where
  abbrev forked : List ℕ → RowsOf K
  forked u = (256 ∷ 47 ∷ u, k) ∷ (256 ∷ [], j) ∷ []

  abbrev behind : List ℕ → RowsOf K
  behind u = (47 ∷ u, k) ∷ ([], j) ∷ []

  fork_param : (u : List ℕ) (x : ℕ) (p : List ℕ) → x < 256 → seek 0 (forked u) (x ∷ p) ≡ seek ((param_step (behind u) (x ∷ p)).0 - 1) (param_step (behind u) (x ∷ p)).1 p
  unfolding seek
  fork_param u x p h =
      let no_byte : (256 == x) ≡ false = grind (arith, nat_tests) in
      let none : seek {K = K} 0 [] p ≡ None = seek_none 0 p in
      rw (no_byte, none) (or_none _)

  fork_slash : (c : Bool) (u p : List ℕ) → cuts (segment p) (47 ∷ []) ≡ c
      → param_step (behind u) p ≡ cond c (length (segment p) - 1, (47 ∷ u, k) ∷ []) (cond (has_slash p) (0, []) (length p, behind u))
  unfolding param_step
  fork_slash true u p e = rw e refl
  fork_slash false u p e = rw e refl

  -- before a slash the first is taken
  pub fork_segment : (u : List ℕ) (x : ℕ) (front rest : List ℕ) → x < 256 → has_slash (x ∷ front) ≡ false
      → seek 0 (forked u) (x ∷ front ++ 47 ∷ rest) ≡ seek 0 ((47 ∷ u, k) ∷ []) (47 ∷ rest)
  fork_segment u x front rest h s =
      let rows : RowsOf K = (47 ∷ u, k) ∷ [] in
      let q : List ℕ = front ++ 47 ∷ rest in
      let part : segment (x ∷ q) ≡ x ∷ front ++ 47 ∷ [] = segment_cut (x ∷ front) rest s in
      let taken = fork_slash true u (x ∷ q) (ap (λ l. cuts l (47 ∷ [])) part ∙ is_cut x front) in
      let len : length (segment (x ∷ q)) - 1 - 1 ≡ length front = omega (arith, ap length part, length-append (x ∷ front) (47 ∷ [])) in
      fork_param u x q h ∙ ap (λ y. seek (y.0 - 1) y.1 q) taken ∙ ap (λ n. seek n rows q) len ∙ seek_skip rows front (47 ∷ rest)

  -- at the end the second
  pub fork_last : (u : List ℕ) (x : ℕ) (p : List ℕ) → x < 256 → has_slash (x ∷ p) ≡ false → seek 0 (forked u) (x ∷ p) ≡ Some j
  unfolding seek
  fork_last u x p h s =
      let part = segment_whole (x ∷ p) s in
      let taken = fork_slash false u (x ∷ p) (ap (λ l. cuts l (47 ∷ [])) part ∙ no_cut (x ∷ p) s) ∙ ap (λ b. cond {A = ℕ × RowsOf K} b (0, []) (length (x ∷ p), behind u)) s in
      let len : length (x ∷ p) - 1 ≡ length p = omega arith in
      fork_param u x p h ∙ ap (λ y. seek (y.0 - 1) y.1 p) taken ∙ ap (λ n. seek n (behind u) p) len
      ∙ ap (λ l. seek (length p) (behind u) l) (sym (append-nil p)) ∙ seek_skip (behind u) p []

  -- the path is one segment, or goes on behind it
  abbrev pub Forks : List ℕ → List ℕ → K → Type 0
  Forks u p r = ((x : ℕ) × (front : List ℕ) × (p ≡ x ∷ front) × (has_slash (x ∷ front) ≡ false) × (r ≡ j))
      ⊎ ((x : ℕ) × (front : List ℕ) × (rest : List ℕ) × (p ≡ x ∷ front ++ 47 ∷ rest) × (has_slash (x ∷ front) ≡ false) × (seek 0 ((47 ∷ u, k) ∷ []) (47 ∷ rest) ≡ Some r))

  fork_cases : (u : List ℕ) (x : ℕ) (p : List ℕ) (r : K) → AllBytes (x ∷ p) → seek 0 (forked u) (x ∷ p) ≡ Some r → Cut (x ∷ p) → Forks u (x ∷ p) r
  fork_cases u x p r h e (inl s) =
      let same : Some r ≡ Some j = sym e ∙ fork_last u x p (h 0) s in
      let is : r ≡ j = cc same in
      inl (x, p, refl, s, is)
  fork_cases u x p r h e (inr ([], rest, same, s)) =
      let slashed : has_slash (x ∷ p) ≡ true = ap has_slash same in
      let taken = fork_slash false u (x ∷ p) (ap (λ l. cuts (segment l) (47 ∷ [])) same) ∙ ap (λ b. cond {A = ℕ × RowsOf K} b (0, []) (length (x ∷ p), behind u)) slashed in
      absurd (nowhere (forked u) x p r (param_step (behind u) (x ∷ p)) (fork_param u x p (h 0)) taken e)
  fork_cases u x p r h e (inr (y ∷ front, rest, same, s)) =
      let first : x ≡ y = cc same in
      let fits : y < 256 = rw first at (h 0) in
      inr (y, front, rest, same, s, sym (fork_segment u y front rest fits s) ∙ (sym (ap (λ l. seek 0 (forked u) l) same) ∙ e))

  pub fork_found : (u p : List ℕ) (r : K) → AllBytes p → seek 0 (forked u) p ≡ Some r → Forks u p r
  unfolding seek
  fork_found u [] r h e = absurd (cc e)
  fork_found u (x ∷ p) r h e = fork_cases u x p r h e (cut_of (x ∷ p))
