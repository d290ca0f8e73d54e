-- No file of a custodian is above the highest of its volumes.
use Rattle.std.proofs.Common.{◌≡◌, ◌∙◌, ℕ, Bool, true, false, cond, List, [], refl, sym, ap, arith}
use Rattle.std.proofs.lemmas.Bool.Decides.{nat_tests}
use Rattle.std.specs.Prelude.{Option, Some, None, is_some, nat_le}
use Rattle.std.specs.BTreeMap.{is_at}
use Rattle.std.specs.FinMap as map
use Rattle.std.specs.Map.{lookup}
use Rattle.std.specs.Option.{option_map_or}
use Rattle.std.specs.Ordering.{is_eq, nat_cmp}
use Rattle.std.specs.declared.cmp.Ordering.{Ordering}
use Rattle.std.specs.declared.cmp.Ordering.TheVariants.{Less, Equal, Greater}
use Rattle.std.proofs.lemmas.Map.Lookups.{exact_unsigned}
use Rattle.gaz_keeper.proofs.Pairs.{pairs_exact, pairs_total}
use Rattle.gaz_views.proofs.Trees.{get_tree}
use Rattle.gaz_shelf.specs.Highest.{AreBelow, is_below}
use Rattle.gaz_keeper.specs.Received.{pair_cmp}

abbrev Volumes : Type 0
Volumes = List (ℕ × ℕ)

abbrev Pairs : Type 0
Pairs = List ((ℕ × ℕ) × List ℕ)

is_equal : (o : Ordering) → is_eq o ≡ true → o ≡ Equal
is_equal Less e = cc
is_equal Equal e = refl
is_equal Greater e = cc

-- no file, and so none above
pub none_below : (hs : Volumes) (es : Pairs) → es ≡ [] → AreBelow hs (map.from_entries es)
none_below hs es empty c volume there =
    let none : false ≡ true = sym (ap (λ (l : Pairs). is_some (lookup (is_at (pair_cmp (c, volume))) l)) empty) ∙ sym (ap is_some (get_tree {S = pair_cmp} (λ a b. refl) pairs_total es (c, volume))) ∙ there in
    cc

-- the highest volume of a custodian gives way to a higher one
pub raised : (hs gs : Volumes) (code volume : ℕ) → ((q : ℕ) → lookup (is_at (nat_cmp q)) gs ≡ cond (is_at (nat_cmp code) q) (Some volume) (lookup (is_at (nat_cmp q)) hs))
    → is_below hs code volume ≡ false → (c v : ℕ) → is_below hs c v ≡ true → is_below gs c v ≡ true
raised hs gs code volume writes over c v below = ap (λ o. option_map_or (nat_le v) o false) (writes c) ∙ by_same (is_at (nat_cmp code) c) refl
  where
    higher : (o : Option ℕ) → option_map_or (nat_le volume) o false ≡ false → option_map_or (nat_le v) o false ≡ true → nat_le v volume ≡ true
    higher None e f = cc
    higher (Some h) e f = grind (arith, nat_tests, e, f)

    by_same : (b : Bool) → is_at (nat_cmp code) c ≡ b → option_map_or (nat_le v) (cond b (Some volume) (lookup (is_at (nat_cmp c)) hs)) false ≡ true
    by_same true at =
        let same : code ≡ c = exact_unsigned code c (is_equal _ at) in
        higher (lookup (is_at (nat_cmp code)) hs) over (ap (λ n. is_below hs n v) same ∙ below)
    by_same false at = below

-- a file is received, whose volume is below
pub received_below : (hs gs : Volumes) (es fs : Pairs) (code volume : ℕ) (bytes : List ℕ) → AreBelow hs (map.from_entries es) → ((c v : ℕ) → is_below hs c v ≡ true → is_below gs c v ≡ true)
    → is_below gs code volume ≡ true → ((q : ℕ × ℕ) → lookup (is_at (pair_cmp q)) fs ≡ cond (is_at (pair_cmp (code, volume)) q) (Some bytes) (lookup (is_at (pair_cmp q)) es)) → AreBelow gs (map.from_entries fs)
received_below hs gs es fs code volume bytes was kept now writes c v there =
    by_same (is_at (pair_cmp (code, volume)) (c, v)) refl (sym (ap is_some (get_tree {S = pair_cmp} (λ a b. refl) pairs_total fs (c, v) ∙ writes (c, v))) ∙ there)
  where
    by_same : (b : Bool) → is_at (pair_cmp (code, volume)) (c, v) ≡ b → is_some (cond b (Some bytes) (lookup (is_at (pair_cmp (c, v))) es)) ≡ true → is_below gs c v ≡ true
    by_same true at there =
        let same : ◌≡◌ {A = ℕ × ℕ} (code, volume) (c, v) = pairs_exact (code, volume) (c, v) (is_equal _ at) in
        ap (λ (p : ℕ × ℕ). is_below gs p.0 p.1) (sym same) ∙ now
    by_same false at there = kept c v (was c v (ap is_some (get_tree {S = pair_cmp} (λ a b. refl) pairs_total es (c, v)) ∙ there))
