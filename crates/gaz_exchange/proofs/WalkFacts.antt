-- What the parameters of a route took of the path.
use Rattle.std.proofs.Common.{◌≡◌, ℕ, suc, ◌+◌, ◌-◌, ◌<◌, ◌≤◌, true, false, cond, List, [], ◌∷◌, ◌++◌, length, get_or, drop, take, Some, refl, ap, subst, sym, ◌∙◌, arith, length-append, codes}
use Rattle.std.specs.Prelude.{IsUtf8, nat_lt, nat_le}
use Rattle.std.proofs.lemmas.Bool.Decides.{nat_tests}
use Rattle.std.proofs.lemmas.List.{take_all}
use Rattle.std.proofs.lemmas.Str.{IsCharBoundary-after_ascii, IsCharBoundary-at_seam, IsUtf8-append, IsUtf8-drop, IsUtf8-from_ascii, IsUtf8-take}
use Rattle.std.proofs.lemmas.Str.Ascii.{IsAscii-cons, IsAscii-nil}
use Rattle.std.proofs.Math.Seq.{drop-append-add}
use Rattle.matchit.specs.Params.{AllText, after_token, next_at, part_of, walk, wild_from, wild_stop}
use Rattle.matchit.specs.Seek.{first, has_slash, segment}
use Rattle.matchit.specs.Router.{RouteOf}
use Rattle.matchit.specs.declared.params.Params.{Params}
use Rattle.gaz_exchange.specs.Routing.{Took, closed_route, custodian_route, extract_route, parts_of, routes, uprn_route, volume_route}
use Rattle.gaz_exchange.specs.Targets.{Closed, Custodian, Extract, Nowhere, Property, Target, Volume, target_of}
use Rattle.gaz_exchange.specs.declared.route.Place.{Place}
use Rattle.gaz_exchange.specs.declared.route.Place.TheVariants as place
use Rattle.gaz_exchange.proofs.ExchangeFacts.{both}
use Rattle.gaz_exchange.proofs.RouteFacts.{IsAt, IsCustodian, IsExtract, IsProperty, IsVolume, extract_target, found_is, route_of, volume_target}
use Rattle.gaz_exchange.proofs.NamedFacts.{closed_named, custodian_named, extract_named, property_named, volume_named}
use Rattle.gaz_exchange.proofs.SegmentFacts.{AllBytes, are_bytes, segment_cut}

next_at-below : (len at : ℕ) → at < len → next_at len at ≡ at + 1
next_at-below len at h = let below : nat_lt at len ≡ true = grind (arith, nat_tests, h) in rw below refl

-- the next parameter stands behind the bytes
wild_bytes : (lits t : List ℕ) (len token at : ℕ) → are_bytes lits ≡ true → at + length lits ≤ len
    → wild_from (lits ++ 256 ∷ t) len token at ≡ (token + length lits, at + length lits)
wild_bytes [] t len token at h fits =
    let a : token ≡ token + 0 = omega arith in
    let b : at ≡ at + 0 = omega arith in
    ap (λ n. (n, at)) a ∙ ap (λ n. (token + 0, n)) b
wild_bytes (b ∷ lits) t len token at h fits =
    let (first, more) = both (nat_lt b 256) (are_bytes lits) h in
    let rec = wild_bytes lits t len (token + 1) (at + 1) more (omega (arith, fits)) in
    let x : (token + 1) + length lits ≡ token + suc (length lits) = omega arith in
    let y : (at + 1) + length lits ≡ at + suc (length lits) = omega arith in
    ap (λ c. cond c (wild_from (lits ++ 256 ∷ t) len (token + 1) (next_at len at)) (token, at)) first
    ∙ ap (λ n. wild_from (lits ++ 256 ∷ t) len (token + 1) n) (next_at-below len at (omega (arith, fits))) ∙ rec
    ∙ ap (λ n. (n, (at + 1) + length lits)) x ∙ ap (λ n. (token + suc (length lits), n)) y

part_is : (bytes : List ℕ) (start end : ℕ) → start ≤ end → end ≤ length bytes → part_of bytes start end ≡ take (end - start) (drop start bytes)
part_is bytes start end h k =
    let a : nat_le start end ≡ true = grind (arith, nat_tests, h) in
    let b : nat_le end (length bytes) ≡ true = grind (arith, nat_tests, k) in
    rw (a, b) refl

take_front : (a b : List ℕ) → take (length a) (a ++ b) ≡ a
take_front [] b = refl
take_front (x ∷ a) b = ap (λ l. x ∷ l) (take_front a b)

module _ (c v : List ℕ) (clean : has_slash c ≡ false) where
  abbrev path : List ℕ
  path = volume_target c v

  abbrev behind : List ℕ
  behind = c ++ (codes "/volumes/" ++ v)

  length-path : length path ≡ 12 + length c + 9 + length v
  length-path =
      length-append (codes "/custodians/") behind ∙ ap (λ n. 12 + n) (length-append c (codes "/volumes/" ++ v) ∙ ap (λ n. length c + n) (length-append (codes "/volumes/") v))
      ∙ omega arith

  abbrev code_end : ℕ
  code_end = 12 + length c

  first_stop : wild_stop volume_route.pattern 12 path 12 ≡ code_end
  first_stop =
      let part : segment behind ≡ c ++ 47 ∷ [] = segment_cut c (codes "volumes/" ++ v) clean in
      let len : length (segment behind) ≡ length c + 1 = ap length part ∙ length-append c (47 ∷ []) in
      let e : 12 + length (segment behind) - 1 ≡ 12 + length c = omega (arith, len) in
      e

  first_part : part_of path 12 code_end ≡ c
  first_part =
      let fits : code_end ≤ length path = omega (arith, length-path) in
      let n : code_end - 12 ≡ length c = omega arith in
      part_is path 12 code_end (omega arith) fits ∙ ap (λ m. take m behind) n ∙ take_front c (codes "/volumes/" ++ v)

  second_wild : wild_from (codes "/volumes/" ++ 256 ∷ []) (length path) 13 code_end ≡ (22, code_end + 9)
  second_wild = wild_bytes (codes "/volumes/") [] (length path) 13 code_end refl (omega (arith, length-path))

  second_part : part_of path (code_end + 9) (length path) ≡ v
  second_part =
      let start : code_end + 9 ≡ 12 + (length c + 9) = omega arith in
      let dropped : drop (code_end + 9) path ≡ v = ap (λ n. drop n path) start ∙ drop-append-add (codes "/custodians/") behind (length c + 9) ∙ drop-append-add c (codes "/volumes/" ++ v) 9 in
      let n : length path - (code_end + 9) ≡ length v = omega (arith, length-path) in
      part_is path (code_end + 9) (length path) (omega (arith, length-path)) (omega arith) ∙ ap (λ m. take m (drop (code_end + 9) path)) n ∙ ap (take (length v)) dropped ∙ take_all (length v) v (omega arith)

  pub volume_walk : walk volume_route.pattern volume_route.text path volume_route.names 0 0 ≡ (codes "c", c) ∷ (codes "v", v) ∷ []
  volume_walk =
      let pattern = volume_route.pattern in
      let text = volume_route.text in
      let last : List (ℕ × ℕ) = (25, 26) ∷ [] in
      let first_wild : wild_from pattern (length path) 0 0 ≡ (12, 12) = wild_bytes (codes "/custodians/") (codes "/volumes/" ++ 256 ∷ []) (length path) 0 0 refl (omega (arith, length-path)) in
      ap (λ a. (codes "c", part_of path a.1 (wild_stop pattern a.0 path a.1)) ∷ walk pattern text path last (after_token a.0) (wild_stop pattern a.0 path a.1)) first_wild
      ∙ ap (λ s. (codes "c", part_of path 12 s) ∷ walk pattern text path last 13 s) first_stop
      ∙ ap (λ p. (codes "c", p) ∷ walk pattern text path last 13 code_end) first_part
      ∙ ap (λ a. (codes "c", c) ∷ (codes "v", part_of path a.1 (wild_stop pattern a.0 path a.1)) ∷ []) second_wild
      ∙ ap (λ p. (codes "c", c) ∷ (codes "v", p) ∷ []) second_part

module _ (c : List ℕ) where
  abbrev short_path : List ℕ
  short_path = codes "/custodians/" ++ c

  length-short_path : length short_path ≡ 12 + length c
  length-short_path = length-append (codes "/custodians/") c

  short_part : part_of short_path 12 (length short_path) ≡ c
  short_part =
      let n : length short_path - 12 ≡ length c = omega (arith, length-short_path) in
      part_is short_path 12 (length short_path) (omega (arith, length-short_path)) (omega arith) ∙ ap (λ m. take m c) n ∙ take_all (length c) c (omega arith)

  pub custodian_walk : walk custodian_route.pattern custodian_route.text short_path custodian_route.names 0 0 ≡ (codes "c", c) ∷ []
  custodian_walk =
      let pattern = custodian_route.pattern in
      let first_wild : wild_from pattern (length short_path) 0 0 ≡ (12, 12) = wild_bytes (codes "/custodians/") [] (length short_path) 0 0 refl (omega (arith, length-short_path)) in
      ap (λ a. (codes "c", part_of short_path a.1 (wild_stop pattern a.0 short_path a.1)) ∷ []) first_wild
      ∙ ap (λ p. (codes "c", p) ∷ []) short_part

module _ (c v : List ℕ) (clean : has_slash c ≡ false) where
  abbrev long_path : List ℕ
  long_path = extract_target c v

  abbrev after_code : List ℕ
  after_code = c ++ (codes "/" ++ v)

  length-long : length long_path ≡ 9 + length c + 1 + length v
  length-long =
      length-append (codes "/extract/") after_code ∙ ap (λ n. 9 + n) (length-append c (codes "/" ++ v) ∙ ap (λ n. length c + n) (length-append (codes "/") v))
      ∙ omega arith

  abbrev number_end : ℕ
  number_end = 9 + length c

  one_stop : wild_stop extract_route.pattern 9 long_path 9 ≡ number_end
  one_stop =
      let part : segment after_code ≡ c ++ 47 ∷ [] = segment_cut c v clean in
      let len : length (segment after_code) ≡ length c + 1 = ap length part ∙ length-append c (47 ∷ []) in
      let e : 9 + length (segment after_code) - 1 ≡ 9 + length c = omega (arith, len) in
      e

  one_part : part_of long_path 9 number_end ≡ c
  one_part =
      let fits : number_end ≤ length long_path = omega (arith, length-long) in
      let n : number_end - 9 ≡ length c = omega arith in
      part_is long_path 9 number_end (omega arith) fits ∙ ap (λ m. take m after_code) n ∙ take_front c (codes "/" ++ v)

  two_wild : wild_from (codes "/" ++ 256 ∷ []) (length long_path) 10 number_end ≡ (11, number_end + 1)
  two_wild = wild_bytes (codes "/") [] (length long_path) 10 number_end refl (omega (arith, length-long))

  two_part : part_of long_path (number_end + 1) (length long_path) ≡ v
  two_part =
      let start : number_end + 1 ≡ 9 + (length c + 1) = omega arith in
      let dropped : drop (number_end + 1) long_path ≡ v = ap (λ n. drop n long_path) start ∙ drop-append-add (codes "/extract/") after_code (length c + 1) ∙ drop-append-add c (codes "/" ++ v) 1 in
      let n : length long_path - (number_end + 1) ≡ length v = omega (arith, length-long) in
      part_is long_path (number_end + 1) (length long_path) (omega (arith, length-long)) (omega arith) ∙ ap (λ m. take m (drop (number_end + 1) long_path)) n ∙ ap (take (length v)) dropped ∙ take_all (length v) v (omega arith)

  pub extract_walk : walk extract_route.pattern extract_route.text long_path extract_route.names 0 0 ≡ (codes "c", c) ∷ (codes "v", v) ∷ []
  extract_walk =
      let pattern = extract_route.pattern in
      let text = extract_route.text in
      let last : List (ℕ × ℕ) = (14, 15) ∷ [] in
      let first_wild : wild_from pattern (length long_path) 0 0 ≡ (9, 9) = wild_bytes (codes "/extract/") (codes "/" ++ 256 ∷ []) (length long_path) 0 0 refl (omega (arith, length-long)) in
      ap (λ a. (codes "c", part_of long_path a.1 (wild_stop pattern a.0 long_path a.1)) ∷ walk pattern text long_path last (after_token a.0) (wild_stop pattern a.0 long_path a.1)) first_wild
      ∙ ap (λ s. (codes "c", part_of long_path 9 s) ∷ walk pattern text long_path last 10 s) one_stop
      ∙ ap (λ p. (codes "c", p) ∷ walk pattern text long_path last 10 number_end) one_part
      ∙ ap (λ a. (codes "c", c) ∷ (codes "v", part_of long_path a.1 (wild_stop pattern a.0 long_path a.1)) ∷ []) two_wild
      ∙ ap (λ p. (codes "c", c) ∷ (codes "v", p) ∷ []) two_part

module _ (n : List ℕ) where
  abbrev brief_path : List ℕ
  brief_path = codes "/uprn/" ++ n

  length-brief_path : length brief_path ≡ 6 + length n
  length-brief_path = length-append (codes "/uprn/") n

  number_part : part_of brief_path 6 (length brief_path) ≡ n
  number_part =
      let size : length brief_path - 6 ≡ length n = omega (arith, length-brief_path) in
      part_is brief_path 6 (length brief_path) (omega (arith, length-brief_path)) (omega arith) ∙ ap (λ m. take m n) size ∙ take_all (length n) n (omega arith)

  pub uprn_walk : walk uprn_route.pattern uprn_route.text brief_path uprn_route.names 0 0 ≡ (codes "n", n) ∷ []
  uprn_walk =
      let pattern = uprn_route.pattern in
      let first_wild : wild_from pattern (length brief_path) 0 0 ≡ (6, 6) = wild_bytes (codes "/uprn/") [] (length brief_path) 0 0 refl (omega (arith, length-brief_path)) in
      ap (λ a. (codes "n", part_of brief_path a.1 (wild_stop pattern a.0 brief_path a.1)) ∷ []) first_wild
      ∙ ap (λ p. (codes "n", p) ∷ []) number_part

-- ---- text

slash_text : IsUtf8 (47 ∷ [])
slash_text = IsUtf8-from_ascii (47 ∷ []) (IsAscii-cons 47 [] (omega arith) IsAscii-nil)

get_or-seam : (front rest : List ℕ) → get_or (front ++ 47 ∷ rest) (length front) 0 ≡ 47
get_or-seam [] rest = refl
get_or-seam (x ∷ front) rest = get_or-seam front rest

-- a text on both sides of a slash
utf8_cut : (front rest : List ℕ) → IsUtf8 (front ++ 47 ∷ rest) → IsUtf8 front × IsUtf8 rest
utf8_cut front rest u =
    let bs : List ℕ = front ++ 47 ∷ rest in
    let n = length front in
    let len : length bs ≡ n + suc (length rest) = length-append front (47 ∷ rest) in
    let here : get_or bs n 0 ≡ 47 = get_or-seam front rest in
    let end = IsCharBoundary-after_ascii bs n u (omega (arith, len)) (omega (arith, here)) in
    let behind : drop (n + 1) bs ≡ rest = drop-append-add front (47 ∷ rest) 1 in
    let rest_text : IsUtf8 rest = rw behind at (IsUtf8-drop bs (n + 1) u end) in
    let seam = IsCharBoundary-at_seam bs front (47 ∷ rest) refl (IsUtf8-append (47 ∷ []) rest slash_text rest_text) in
    (rw (take_front front (47 ∷ rest)) at (IsUtf8-take bs n u seam), rest_text)

pub volume_texts : (c v : List ℕ) → IsUtf8 (volume_target c v) → IsUtf8 c × IsUtf8 v
volume_texts c v u =
    let tail : List ℕ = codes "volumes" ++ 47 ∷ v in
    let one = utf8_cut [] (codes "custodians" ++ 47 ∷ (c ++ 47 ∷ tail)) u in
    let two = utf8_cut (codes "custodians") (c ++ 47 ∷ tail) one.1 in
    let three = utf8_cut c tail two.1 in
    let four = utf8_cut (codes "volumes") v three.1 in
    (three.0, four.1)

extract_texts : (c v : List ℕ) → IsUtf8 (extract_target c v) → IsUtf8 c × IsUtf8 v
extract_texts c v u =
    let one = utf8_cut [] (codes "extract" ++ 47 ∷ (c ++ 47 ∷ v)) u in
    let two = utf8_cut (codes "extract") (c ++ 47 ∷ v) one.1 in
    utf8_cut c v two.1

code_text : IsUtf8 (codes "c")
code_text = IsUtf8-from_ascii (codes "c") (IsAscii-cons 99 [] (omega arith) IsAscii-nil)

volume_text : IsUtf8 (codes "v")
volume_text = IsUtf8-from_ascii (codes "v") (IsAscii-cons 118 [] (omega arith) IsAscii-nil)

number_text : IsUtf8 (codes "n")
number_text = IsUtf8-from_ascii (codes "n") (IsAscii-cons 110 [] (omega arith) IsAscii-nil)

custodian_text : (c : List ℕ) → IsUtf8 (codes "/custodians/" ++ c) → IsUtf8 c
custodian_text c u =
    let one = utf8_cut [] (codes "custodians" ++ 47 ∷ c) u in
    (utf8_cut (codes "custodians") c one.1).1

property_text : (n : List ℕ) → IsUtf8 (codes "/uprn/" ++ n) → IsUtf8 n
property_text n u =
    let one = utf8_cut [] (codes "uprn" ++ 47 ∷ n) u in
    (utf8_cut (codes "uprn") n one.1).1

module _ (target : List ℕ) (p : Params) (value : Place) (bytes : AllBytes target) (text : IsUtf8 target)
    (found : first routes target ≡ Some (record { pattern = p.pattern.now; text = p.text.now; names = p.names.now; value = value })) (same : p.path.now ≡ target) where
  abbrev here : RouteOf Place
  here = record { pattern = p.pattern.now; text = p.text.now; names = p.names.now; value = value }

  parts_at : (route : RouteOf Place) (whole : List ℕ) → here ≡ route → target ≡ whole → parts_of p ≡ walk route.pattern route.text whole route.names 0 0
  parts_at route whole e made = ap (λ r. walk r.pattern r.text p.path.now r.names 0 0) e ∙ ap (λ l. walk route.pattern route.text l route.names 0 0) (same ∙ made)

  took_volume : (c v : List ℕ) → IsVolume target c v → here ≡ volume_route → Took p ((codes "c", c) ∷ (codes "v", v) ∷ [])
  took_volume c v is e =
      let parts = parts_at volume_route (volume_target c v) e is.made ∙ volume_walk c v is.code_segment in
      let texts = volume_texts c v (rw is.made at text) in
      let all : AllText ((codes "c", c) ∷ (codes "v", v) ∷ []) = (code_text, texts.0, (volume_text, texts.1, tt)) in
      record { parts = parts; texts = subst AllText (sym parts) all }

  took_custodian : (c : List ℕ) → IsCustodian target c → here ≡ custodian_route → Took p ((codes "c", c) ∷ [])
  took_custodian c is e =
      let parts = parts_at custodian_route (codes "/custodians/" ++ c) e is.made ∙ custodian_walk c in
      let all : AllText ((codes "c", c) ∷ []) = (code_text, custodian_text c (rw is.made at text), tt) in
      record { parts = parts; texts = subst AllText (sym parts) all }

  took_extract : (c v : List ℕ) → IsExtract target c v → here ≡ extract_route → Took p ((codes "c", c) ∷ (codes "v", v) ∷ [])
  took_extract c v is e =
      let parts = parts_at extract_route (extract_target c v) e is.made ∙ extract_walk c v is.code_segment in
      let texts = extract_texts c v (rw is.made at text) in
      let all : AllText ((codes "c", c) ∷ (codes "v", v) ∷ []) = (code_text, texts.0, (volume_text, texts.1, tt)) in
      record { parts = parts; texts = subst AllText (sym parts) all }

  took_property : (n : List ℕ) → IsProperty target n → here ≡ uprn_route → Took p ((codes "n", n) ∷ [])
  took_property n is e =
      let parts = parts_at uprn_route (codes "/uprn/" ++ n) e is.made ∙ uprn_walk n in
      let all : AllText ((codes "n", n) ∷ []) = (number_text, property_text n (rw is.made at text), tt) in
      record { parts = parts; texts = subst AllText (sym parts) all }

  -- what is found at a place is named by the target, with its segments
  abbrev pub Names : Place → Type 0
  Names place.Volume = (c : List ℕ) × (v : List ℕ) × (target_of target ≡ Volume c v) × Took p ((codes "c", c) ∷ (codes "v", v) ∷ [])
  Names place.Custodian = (c : List ℕ) × (target_of target ≡ Custodian c) × Took p ((codes "c", c) ∷ [])
  Names place.Extract = (c : List ℕ) × (v : List ℕ) × (target_of target ≡ Extract c v) × Took p ((codes "c", c) ∷ (codes "v", v) ∷ [])
  Names place.Uprn = (n : List ℕ) × (target_of target ≡ Property n) × Took p ((codes "n", n) ∷ [])
  Names place.Closed = target_of target ≡ Closed

  names_at : (t : Target) → IsAt target t → route_of t ≡ Some here → Names value
  names_at (Volume c v) is e =
      let same : volume_route ≡ here = cc e in
      subst Names (ap (λ r. r.value) same) (c, v, volume_named target c v is, took_volume c v is (sym same))
  names_at (Custodian c) is e =
      let same : custodian_route ≡ here = cc e in
      subst Names (ap (λ r. r.value) same) (c, custodian_named target c is, took_custodian c is (sym same))
  names_at (Extract c v) is e =
      let same : extract_route ≡ here = cc e in
      subst Names (ap (λ r. r.value) same) (c, v, extract_named target c v is, took_extract c v is (sym same))
  names_at (Property n) is e =
      let same : uprn_route ≡ here = cc e in
      subst Names (ap (λ r. r.value) same) (n, property_named target n is, took_property n is (sym same))
  names_at Closed is e =
      let same : closed_route ≡ here = cc e in
      subst Names (ap (λ r. r.value) same) (closed_named target is)
  names_at Nowhere is e = absurd (cc e)

  pub named_by : Names value
  named_by =
      let (t, is, route) = found_is target here bytes found in
      names_at t is route

  -- the place by its name
  pub named_as : (at : Place) → value ≡ at → Names at
  named_as at e = subst Names e named_by
