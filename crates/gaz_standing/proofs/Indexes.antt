-- Keys under marks, in a hash map in which the keys of one mark change.
use Rattle.std.proofs.Common.{◌≡◌, ◌&&◌, ◌||◌, Bool, true, false, not, cond, List, [], ◌∷◌, refl, sym, ap, ◌∙◌, Bor}
use Rattle.std.specs.Prelude.{Option, Some, None, Result, Ok, Err, OnOk, OnErr, unwrap_or}
use Rattle.std.specs.Cmp.{tied_itself}
use Rattle.std.specs.declared.alloc.AllocError.{AllocError}
use Rattle.std.proofs.Math.Path.{fun_ext}
use Rattle.std.specs.List.{list_any}
use Rattle.std.specs.Map.{lookup}
use Rattle.std.specs.Option.{option_copied, option_map_or}
use Rattle.std.specs.Ordering.{eq_by_cmp, is_eq}
use Rattle.gaz_records.proofs.KeyOrder.{keys_total}
use Rattle.gaz_records.specs.Keys.{key_cmp}
use Rattle.gaz_records.specs.declared.key.Key.{Key}
use Rattle.gaz_standing.proofs.Marks.{mark_itself, marks_exact, marks_same}
use Rattle.gaz_standing.proofs.KeySets.{besides, kept_keys, not_besides}
use Rattle.gaz_standing.specs.Indexes.{has_key, is_under, listed, same_mark}
use Rattle.gaz_standing.specs.declared.index.Index.{Index}
use Rattle.gaz_standing.specs.contracts.index.MarkPartialEq.TheImpl.{eq-value as mark-test}
use Rattle.gaz_standing.specs.declared.index.Mark.{Mark}
use Rattle.gaz_standing.specs.declared.keys.Keys.{Keys}

abbrev Sets : Type 0
Sets = List (Mark × Keys)

abbrev found : Sets → Mark → Option Keys
found es m = lookup (mark-test.it m) es

abbrev pub keys_in : Sets → Mark → List Key
keys_in es m = option_map_or listed (lookup (same_mark m) es) []

abbrev pub under : Sets → Mark → Key → Bool
under es m k = has_key (keys_in es m) k

-- by the derived test or by that of the definitions
pub found_in : (es : Sets) (m : Mark) → kept_keys (found es m) ≡ keys_in es m
found_in es m = ap (λ (f : Mark → Bool). option_map_or listed (lookup f es) []) (fun_ext (λ q. marks_same m q))

-- what is kept at one mark is another
abbrev pub Changes : Sets → Sets → Mark → Option Keys → Type 0
Changes es fs m o = (q : Mark) → found fs q ≡ cond (mark-test.it m q) o (found es q)

-- first it changes, and then it goes
pub goes : (es mid fs : Sets) (m : Mark) (s : Keys) → Changes es mid m (Some s) → Changes mid fs m None → Changes es fs m None
goes es mid fs m s first second q = second q ∙ ap (cond (mark-test.it m q) None) (first q) ∙ twice (mark-test.it m q)
  where
    twice : (b : Bool) → cond b None (cond b (Some s) (found es q)) ≡ cond b None (found es q)
    twice true = refl
    twice false = refl

kept_cond : (b : Bool) (o p : Option Keys) → kept_keys (cond b o p) ≡ cond b (kept_keys o) (kept_keys p)
kept_cond true o p = refl
kept_cond false o p = refl

changed : (es fs : Sets) (m : Mark) (o : Option Keys) → Changes es fs m o → (q : Mark) → keys_in fs q ≡ cond (same_mark m q) (kept_keys o) (keys_in es q)
changed es fs m o h q =
    sym (found_in fs q) ∙ ap kept_keys (h q) ∙ kept_cond (mark-test.it m q) o (found es q) ∙ (λ i. cond (marks_same m q i) (kept_keys o) (found_in es q i))

-- one more key under a mark
pub one_more : (es fs : Sets) (m : Mark) (o : Option Keys) (key : Key) → Changes es fs m o → ((k : Key) → has_key (kept_keys o) k ≡ (eq_by_cmp key_cmp key k || under es m k))
    → (q : Mark) (k : Key) → under fs q k ≡ ((same_mark m q && eq_by_cmp key_cmp key k) || under es q k)
one_more es fs m o key h more q k = ap (λ (ks : List Key). has_key ks k) (changed es fs m o h q) ∙ at_mark (same_mark m q) refl
  where
    at_mark : (b : Bool) → same_mark m q ≡ b → has_key (cond b (kept_keys o) (keys_in es q)) k ≡ ((b && eq_by_cmp key_cmp key k) || under es q k)
    at_mark true is = more k ∙ ap (λ (p : Mark). eq_by_cmp key_cmp key k || under es p k) (marks_exact m q is)
    at_mark false is = refl

-- one key less
pub one_less : (es fs : Sets) (m : Mark) (o : Option Keys) (key : Key) → Changes es fs m o → ((k : Key) → has_key (kept_keys o) k ≡ (not (eq_by_cmp key_cmp key k) && under es m k))
    → (q : Mark) (k : Key) → under fs q k ≡ (not (same_mark m q && eq_by_cmp key_cmp key k) && under es q k)
one_less es fs m o key h less q k = ap (λ (ks : List Key). has_key ks k) (changed es fs m o h q) ∙ at_mark (same_mark m q) refl
  where
    at_mark : (b : Bool) → same_mark m q ≡ b → has_key (cond b (kept_keys o) (keys_in es q)) k ≡ (not (b && eq_by_cmp key_cmp key k) && under es q k)
    at_mark true is = less k ∙ ap (λ (p : Mark). not (eq_by_cmp key_cmp key k) && under es p k) (marks_exact m q is)
    at_mark false is = refl

-- the keys under each mark are those that were there
pub none_more : (es fs : Sets) (m : Mark) (o : Option Keys) → Changes es fs m o → kept_keys o ≡ keys_in es m → (q : Mark) (k : Key) → under fs q k ≡ under es q k
none_more es fs m o h same q k = ap (λ (ks : List Key). has_key ks k) (changed es fs m o h q ∙ at_mark (same_mark m q) refl)
  where
    at_mark : (b : Bool) → same_mark m q ≡ b → cond b (kept_keys o) (keys_in es q) ≡ keys_in es q
    at_mark true is = same ∙ ap (keys_in es) (marks_exact m q is)
    at_mark false is = refl

-- ---- a key added to what is kept at its mark, or where nothing is, to itself alone

module _ (es : Sets) (mark : Mark) (o : Option Keys) (was alone now : Keys) (key : Key) (there : o ≡ found es mark) (begun : was ≡ unwrap_or o alone) (itself : listed alone ≡ key ∷ []) where
  pub more_there : ((k : Key) → has_key (listed now) k ≡ (eq_by_cmp key_cmp key k || has_key (listed was) k)) → (k : Key) → has_key (listed now) k ≡ (eq_by_cmp key_cmp key k || under es mark k)
  more_there more k =
      more k ∙ ap (λ (ks : Keys). eq_by_cmp key_cmp key k || has_key (listed ks) k) begun ∙ besides o alone key itself k
      ∙ ap (λ (ks : List Key). eq_by_cmp key_cmp key k || has_key ks k) (ap kept_keys there ∙ found_in es mark)

  pub same_there : has_key (listed was) key ≡ false → listed now ≡ listed was → listed now ≡ keys_in es mark
  same_there none same =
      same ∙ ap listed begun ∙ not_besides o alone key itself (ap (λ (ks : Keys). has_key (listed ks) key) (sym begun) ∙ none) ∙ ap kept_keys there ∙ found_in es mark

pub in_end : (es fs : Sets) → es ≡ fs → (q : Mark) (k : Key) → under fs q k ≡ under es q k
in_end es fs is q k = ap (λ (xs : Sets). under xs q k) (sym is)

pub on_errs : {T E P Q R : Type 0} (r : Result T E) → (P → Q → R) → OnErr r P → OnErr r Q → OnErr r R
on_errs (Ok x) f h g = tt
on_errs (Err e) f h g = f h g

-- ---- a key taken

nothing_there : (b c : Bool) → c ≡ false → c ≡ (not b && c)
nothing_there true c e = e
nothing_there false c e = refl

-- nothing is under a mark that isn't there
pub none_less : (es : Sets) (m : Mark) (key : Key) → keys_in es m ≡ [] → (q : Mark) (k : Key) → under es q k ≡ (not (same_mark m q && eq_by_cmp key_cmp key k) && under es q k)
none_less es m key none q k = at_mark (same_mark m q) refl
  where
    at_mark : (b : Bool) → same_mark m q ≡ b → under es q k ≡ (not (b && eq_by_cmp key_cmp key k) && under es q k)
    at_mark true is = nothing_there (eq_by_cmp key_cmp key k) (under es q k) (ap (list_any (eq_by_cmp key_cmp k)) (ap (keys_in es) (sym (marks_exact m q is)) ∙ none))
    at_mark false is = refl

pub copied : (o : Option (Bor Keys)) → option_map_or (λ s. listed s.now) o [] ≡ option_map_or listed (option_copied o) []
copied None = refl
copied (Some s) = refl

-- ---- what a key added under a mark tells

abbrev Added : Index → Index → Mark → Key → Type 0
Added x y mark key = (m : Mark) (k : Key) → is_under y m k ≡ ((same_mark mark m && eq_by_cmp key_cmp key k) || is_under x m k)

pub is_added : (x y : Index) (mark : Mark) (key : Key) → Added x y mark key → is_under y mark key ≡ true
is_added x y mark key h =
    h mark key ∙ (λ i. (mark_itself mark i && is_eq (tied_itself keys_total key i)) || is_under x mark key)

or_true : (a : Bool) → (a || true) ≡ true
or_true true = refl
or_true false = refl

pub kept_under : (r : Result (Unit {0}) AllocError) (x y : Index) (mark : Mark) (key : Key) → OnOk r (Added x y mark key) → OnErr r ((m : Mark) (k : Key) → is_under y m k ≡ is_under x m k)
    → (m : Mark) (k : Key) → is_under x m k ≡ true → is_under y m k ≡ true
kept_under (Ok u) x y mark key h g m k under = h m k ∙ ap (λ b. (same_mark mark m && eq_by_cmp key_cmp key k) || b) under ∙ or_true (same_mark mark m && eq_by_cmp key_cmp key k)
kept_under (Err e) x y mark key h g m k under = g m k ∙ under
