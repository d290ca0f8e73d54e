-- What a target names, as the router finds it.
use Rattle.std.proofs.Common.{◌≡◌, ℕ, ◌<◌, false, List, [], ◌∷◌, ◌++◌, length, Option, Some, None, inl, inr, refl, ap, sym, ◌∙◌, arith, codes}
use Rattle.matchit.specs.Router.{RouteOf}
use Rattle.matchit.specs.Rows.{RowsOf}
use Rattle.matchit.specs.Seek.{first, has_slash, seek}
use Rattle.gaz_exchange.specs.Routing.{closed_route, custodian_route, extract_route, routes, uprn_route, volume_route}
use Rattle.gaz_exchange.specs.Targets.{Closed, Custodian, Extract, Nowhere, Property, Target, Volume}
use Rattle.gaz_exchange.specs.declared.route.Place.{Place}
use Rattle.gaz_exchange.proofs.SegmentFacts.{AllBytes, bytes_behind}
use Rattle.gaz_exchange.proofs.SeekFacts.{bytes_found, end_found, part_found, prefixed, seek_bytes, seek_part}
use Rattle.gaz_exchange.proofs.ParameterFacts.{Forks, GoesThrough, fork_found, fork_last, fork_segment, last_found, seek_last, through_found, through_segment}

-- the target /custodians/{c}/volumes/{v}
abbrev pub volume_target : List ℕ → List ℕ → List ℕ
volume_target c v = codes "/custodians/" ++ (c ++ (codes "/volumes/" ++ v))

-- the target is of that form, and both segments are filled and have no slash
pub record IsVolume (target c v : List ℕ) : Type 0 where
  pub made : target ≡ volume_target c v
  pub some_code : 0 < length c
  pub some_volume : 0 < length v
  pub code_segment : has_slash c ≡ false
  pub volume_segment : has_slash v ≡ false

-- the target is /custodians/{c}, and the segment is filled and has no slash
pub record IsCustodian (target c : List ℕ) : Type 0 where
  pub made : target ≡ codes "/custodians/" ++ c
  pub some_code : 0 < length c
  pub code_segment : has_slash c ≡ false

-- the target /extract/{c}/{v}
abbrev pub extract_target : List ℕ → List ℕ → List ℕ
extract_target c v = codes "/extract/" ++ (c ++ (codes "/" ++ v))

-- the target is of that form, and both segments are filled and have no slash
pub record IsExtract (target c v : List ℕ) : Type 0 where
  pub made : target ≡ extract_target c v
  pub some_code : 0 < length c
  pub some_volume : 0 < length v
  pub code_segment : has_slash c ≡ false
  pub volume_segment : has_slash v ≡ false

-- the target is /uprn/{n}, and the segment is filled and has no slash
pub record IsProperty (target n : List ℕ) : Type 0 where
  pub made : target ≡ codes "/uprn/" ++ n
  pub some_number : 0 < length n
  pub number_segment : has_slash n ≡ false

-- the target is of the form of what it names
abbrev pub IsAt : List ℕ → Target → Type 0
IsAt target (Volume c v) = IsVolume target c v
IsAt target (Custodian c) = IsCustodian target c
IsAt target (Extract c v) = IsExtract target c v
IsAt target (Property n) = IsProperty target n
IsAt target Closed = target ≡ codes "/closed"
IsAt target Nowhere = Unit {0}

abbrev pub route_of : Target → Option (RouteOf Place)
route_of (Volume c v) = Some volume_route
route_of (Custodian c) = Some custodian_route
route_of (Extract c v) = Some extract_route
route_of (Property n) = Some uprn_route
route_of Closed = Some closed_route
route_of Nowhere = None

-- ---- the router

-- what follows the first parameter of a volume's route, but for the slash
abbrev tail : List ℕ
tail = codes "volumes/" ++ 256 ∷ []

-- the routes behind what they begin with
abbrev routes_behind : RowsOf (RouteOf Place)
routes_behind = (256 ∷ 47 ∷ tail, volume_route) ∷ (256 ∷ [], custodian_route) ∷ []

abbrev closed_rows : RowsOf (RouteOf Place)
closed_rows = ([], closed_route) ∷ []

abbrev extract_rows : RowsOf (RouteOf Place)
extract_rows = (256 ∷ 47 ∷ 256 ∷ [], extract_route) ∷ []

abbrev uprn_rows : RowsOf (RouteOf Place)
uprn_rows = (256 ∷ [], uprn_route) ∷ []

abbrev on_u : RowsOf (RouteOf Place)
on_u = prefixed (codes "ustodians/") routes_behind

abbrev on_c : RowsOf (RouteOf Place)
on_c = prefixed (codes "losed") closed_rows ++ on_u

abbrev on_uprn : RowsOf (RouteOf Place)
on_uprn = prefixed (codes "uprn/") uprn_rows

abbrev not_c : RowsOf (RouteOf Place)
not_c = prefixed (codes "extract/") extract_rows ++ on_uprn

abbrev on_slash : RowsOf (RouteOf Place)
on_slash = prefixed (codes "c") on_c ++ not_c

to_slash : (p : List ℕ) → first routes (47 ∷ p) ≡ first on_slash p
to_slash p = seek_bytes (codes "/") on_slash p refl

to_custodians : (p : List ℕ) → first routes (codes "/custodians/" ++ p) ≡ first routes_behind p
to_custodians p =
    to_slash (codes "custodians/" ++ p)
    ∙ seek_part 99 [] on_c not_c refl refl refl 99 (codes "ustodians/" ++ p)
    ∙ seek_part 108 (codes "osed") closed_rows on_u refl refl refl 117 (codes "stodians/" ++ p)
    ∙ seek_bytes (codes "ustodians/") routes_behind p refl

to_extract : (p : List ℕ) → first routes (codes "/extract/" ++ p) ≡ first extract_rows p
to_extract p =
    to_slash (codes "extract/" ++ p)
    ∙ seek_part 99 [] on_c not_c refl refl refl 101 (codes "xtract/" ++ p)
    ∙ seek_part 101 (codes "xtract/") extract_rows on_uprn refl refl refl 101 (codes "xtract/" ++ p)
    ∙ seek_bytes (codes "xtract/") extract_rows p refl

to_uprn : (p : List ℕ) → first routes (codes "/uprn/" ++ p) ≡ first uprn_rows p
to_uprn p =
    to_slash (codes "uprn/" ++ p)
    ∙ seek_part 99 [] on_c not_c refl refl refl 117 (codes "prn/" ++ p)
    ∙ seek_part 101 (codes "xtract/") extract_rows on_uprn refl refl refl 117 (codes "prn/" ++ p)
    ∙ seek_bytes (codes "uprn/") uprn_rows p refl

to_closed : (p : List ℕ) → first routes (codes "/closed" ++ p) ≡ first closed_rows p
to_closed p =
    to_slash (codes "closed" ++ p)
    ∙ seek_part 99 [] on_c not_c refl refl refl 99 (codes "losed" ++ p)
    ∙ seek_part 108 (codes "osed") closed_rows on_u refl refl refl 108 (codes "osed" ++ p)
    ∙ seek_bytes (codes "osed") closed_rows p refl

found_filled : (x : ℕ) (c : List ℕ) (y : ℕ) (v : List ℕ) → has_slash (x ∷ c) ≡ false → has_slash (y ∷ v) ≡ false → AllBytes (volume_target (x ∷ c) (y ∷ v))
    → first routes (volume_target (x ∷ c) (y ∷ v)) ≡ Some volume_route
found_filled x c y v sc sv bytes =
    let behind : List ℕ = x ∷ c ++ (codes "/volumes/" ++ y ∷ v) in
    let fits : y < 256 = bytes_behind (codes "/volumes/") (y ∷ v) (bytes_behind (x ∷ c) (codes "/volumes/" ++ y ∷ v) (bytes_behind (codes "/custodians/") behind bytes)) 0 in
    to_custodians behind
    ∙ fork_segment volume_route custodian_route tail x c (codes "volumes/" ++ y ∷ v) (bytes 12) sc
    ∙ seek_bytes (codes "/volumes/") ((256 ∷ [], volume_route) ∷ []) (y ∷ v) refl
    ∙ seek_last volume_route y v fits sv

pub volume_found : (target c v : List ℕ) → AllBytes target → IsVolume target c v → first routes target ≡ Some volume_route
volume_found target [] v bytes is = absurd (omega (arith, is.some_code))
volume_found target (x ∷ c) [] bytes is = absurd (omega (arith, is.some_volume))
volume_found target (x ∷ c) (y ∷ v) bytes is = ap (first routes) is.made ∙ found_filled x c y v is.code_segment is.volume_segment (rw is.made at bytes)

custodian_filled : (x : ℕ) (c : List ℕ) → has_slash (x ∷ c) ≡ false → AllBytes (codes "/custodians/" ++ x ∷ c)
    → first routes (codes "/custodians/" ++ x ∷ c) ≡ Some custodian_route
custodian_filled x c sc bytes = to_custodians (x ∷ c) ∙ fork_last volume_route custodian_route tail x c (bytes 12) sc

pub custodian_found : (target c : List ℕ) → AllBytes target → IsCustodian target c → first routes target ≡ Some custodian_route
custodian_found target [] bytes is = absurd (omega (arith, is.some_code))
custodian_found target (x ∷ c) bytes is = ap (first routes) is.made ∙ custodian_filled x c is.code_segment (rw is.made at bytes)

extract_filled : (x : ℕ) (c : List ℕ) (y : ℕ) (v : List ℕ) → has_slash (x ∷ c) ≡ false → has_slash (y ∷ v) ≡ false → AllBytes (extract_target (x ∷ c) (y ∷ v))
    → first routes (extract_target (x ∷ c) (y ∷ v)) ≡ Some extract_route
extract_filled x c y v sc sv bytes =
    let behind : List ℕ = x ∷ c ++ (codes "/" ++ y ∷ v) in
    let fits : y < 256 = bytes_behind (codes "/") (y ∷ v) (bytes_behind (x ∷ c) (codes "/" ++ y ∷ v) (bytes_behind (codes "/extract/") behind bytes)) 0 in
    to_extract behind
    ∙ through_segment extract_route (256 ∷ []) x c (y ∷ v) (bytes 9) sc
    ∙ seek_bytes (codes "/") ((256 ∷ [], extract_route) ∷ []) (y ∷ v) refl
    ∙ seek_last extract_route y v fits sv

pub extract_found : (target c v : List ℕ) → AllBytes target → IsExtract target c v → first routes target ≡ Some extract_route
extract_found target [] v bytes is = absurd (omega (arith, is.some_code))
extract_found target (x ∷ c) [] bytes is = absurd (omega (arith, is.some_volume))
extract_found target (x ∷ c) (y ∷ v) bytes is = ap (first routes) is.made ∙ extract_filled x c y v is.code_segment is.volume_segment (rw is.made at bytes)

property_filled : (x : ℕ) (n : List ℕ) → has_slash (x ∷ n) ≡ false → AllBytes (codes "/uprn/" ++ x ∷ n) → first routes (codes "/uprn/" ++ x ∷ n) ≡ Some uprn_route
property_filled x n sn bytes = to_uprn (x ∷ n) ∙ seek_last uprn_route x n (bytes 6) sn

pub property_found : (target n : List ℕ) → AllBytes target → IsProperty target n → first routes target ≡ Some uprn_route
property_found target [] bytes is = absurd (omega (arith, is.some_number))
property_found target (x ∷ n) bytes is = ap (first routes) is.made ∙ property_filled x n is.number_segment (rw is.made at bytes)

pub closed_found : (target : List ℕ) → target ≡ codes "/closed" → first routes target ≡ Some closed_route
unfolding seek
closed_found target is = ap (first routes) is ∙ to_closed []

-- what is found is of the form of one that has this route
abbrev pub IsFound : List ℕ → RouteOf Place → Type 0
IsFound target r = (t : Target) × IsAt target t × (route_of t ≡ Some r)

forms : (target rest : List ℕ) (r : RouteOf Place) → AllBytes target → target ≡ codes "/custodians/" ++ rest → first routes target ≡ Some r
    → Forks volume_route custodian_route tail rest r → IsFound target r
forms target rest r bytes begins e (inl (x, c, same, sc, is)) =
    (Custodian (x ∷ c), record { made = begins ∙ ap (λ l. codes "/custodians/" ++ l) same; some_code = omega arith; code_segment = sc }, ap Some (sym is))
forms target rest r bytes begins e (inr (x, c, more, same, sc, found2)) =
    let rest_bytes : AllBytes rest = bytes_behind (codes "/custodians/") rest (rw begins at bytes) in
    let (last, begins2, found3) = bytes_found (codes "/volumes/") ((256 ∷ [], volume_route) ∷ []) (47 ∷ more) r refl found2 in
    let more_bytes : AllBytes (47 ∷ more) = bytes_behind (x ∷ c) (47 ∷ more) (rw same at rest_bytes) in
    let last_bytes : AllBytes last = bytes_behind (codes "/volumes/") last (rw begins2 at more_bytes) in
    let (y, v, same2, sv) = last_found volume_route last r last_bytes found3 in
    let is : IsVolume target (x ∷ c) (y ∷ v) = record {
      made = begins ∙ ap (λ l. codes "/custodians/" ++ l) (same ∙ ap (λ l. x ∷ c ++ l) (begins2 ∙ ap (λ l. codes "/volumes/" ++ l) same2));
      some_code = omega arith;
      some_volume = omega arith;
      code_segment = sc;
      volume_segment = sv;
    } in
    (Volume (x ∷ c) (y ∷ v), is, sym (volume_found target (x ∷ c) (y ∷ v) bytes is) ∙ e)

extract_forms : (target rest : List ℕ) (r : RouteOf Place) → AllBytes target → target ≡ codes "/extract/" ++ rest → first routes target ≡ Some r
    → GoesThrough extract_route (256 ∷ []) rest r → IsFound target r
extract_forms target rest r bytes begins e (x, c, more, same, sc, found2) =
    let rest_bytes : AllBytes rest = bytes_behind (codes "/extract/") rest (rw begins at bytes) in
    let (last, begins2, found3) = bytes_found (codes "/") ((256 ∷ [], extract_route) ∷ []) (47 ∷ more) r refl found2 in
    let more_bytes : AllBytes (47 ∷ more) = bytes_behind (x ∷ c) (47 ∷ more) (rw same at rest_bytes) in
    let last_bytes : AllBytes last = bytes_behind (codes "/") last (rw begins2 at more_bytes) in
    let (y, v, same2, sv) = last_found extract_route last r last_bytes found3 in
    let is : IsExtract target (x ∷ c) (y ∷ v) = record {
      made = begins ∙ ap (λ l. codes "/extract/" ++ l) (same ∙ ap (λ l. x ∷ c ++ l) (begins2 ∙ ap (λ l. codes "/" ++ l) same2));
      some_code = omega arith;
      some_volume = omega arith;
      code_segment = sc;
      volume_segment = sv;
    } in
    (Extract (x ∷ c) (y ∷ v), is, sym (extract_found target (x ∷ c) (y ∷ v) bytes is) ∙ e)

module _ (target : List ℕ) (r : RouteOf Place) (bytes : AllBytes target) (e : first routes target ≡ Some r) where
  found_extract : (rest : List ℕ) → target ≡ codes "/e" ++ rest → first (prefixed (codes "xtract/") extract_rows) rest ≡ Some r → IsFound target r
  found_extract rest begins f =
      let (more, begins2, found2) = bytes_found (codes "xtract/") extract_rows rest r refl f in
      let made : target ≡ codes "/extract/" ++ more = begins ∙ ap (λ l. codes "/e" ++ l) begins2 in
      extract_forms target more r bytes made e (through_found extract_route (256 ∷ []) more r (bytes_behind (codes "/extract/") more (rw made at bytes)) found2)

  found_uprn : (rest : List ℕ) → target ≡ codes "/" ++ rest → first on_uprn rest ≡ Some r → IsFound target r
  found_uprn rest begins f =
      let (more, begins2, found2) = bytes_found (codes "uprn/") uprn_rows rest r refl f in
      let made : target ≡ codes "/uprn/" ++ more = begins ∙ ap (λ l. codes "/" ++ l) begins2 in
      let (x, n, same, sn) = last_found uprn_route more r (bytes_behind (codes "/uprn/") more (rw made at bytes)) found2 in
      let is : IsProperty target (x ∷ n) = record { made = made ∙ ap (λ l. codes "/uprn/" ++ l) same; some_number = omega arith; number_segment = sn } in
      (Property (x ∷ n), is, sym (property_found target (x ∷ n) bytes is) ∙ e)

  found_closed : (rest : List ℕ) → target ≡ codes "/cl" ++ rest → first (prefixed (codes "osed") closed_rows) rest ≡ Some r → IsFound target r
  found_closed rest begins f =
      let (more, begins2, found2) = bytes_found (codes "osed") closed_rows rest r refl f in
      let (none, same) = end_found closed_route more r found2 in
      let made : target ≡ codes "/closed" = begins ∙ ap (λ l. codes "/cl" ++ l) (begins2 ∙ ap (λ l. codes "osed" ++ l) none) in
      (Closed, made, ap Some (sym same))

  found_custodians : (rest : List ℕ) → target ≡ codes "/c" ++ rest → first on_u rest ≡ Some r → IsFound target r
  found_custodians rest begins f =
      let (more, begins2, found2) = bytes_found (codes "ustodians/") routes_behind rest r refl f in
      let made : target ≡ codes "/custodians/" ++ more = begins ∙ ap (λ l. codes "/c" ++ l) begins2 in
      forms target more r bytes made e (fork_found volume_route custodian_route tail more r (bytes_behind (codes "/custodians/") more (rw made at bytes)) found2)

  found_on_c : (rest : List ℕ) → target ≡ codes "/c" ++ rest → first on_c rest ≡ Some r → IsFound target r
  found_on_c rest begins f = elim (part_found 108 (codes "osed") closed_rows on_u refl refl refl rest r f) [
    | inl g ↦ found_closed g.0 (begins ∙ ap (λ l. codes "/c" ++ l) g.1) g.2
    | inr g ↦ found_custodians rest begins g
  ]

  found_not_c : (rest : List ℕ) → target ≡ codes "/" ++ rest → first not_c rest ≡ Some r → IsFound target r
  found_not_c rest begins f = elim (part_found 101 (codes "xtract/") extract_rows on_uprn refl refl refl rest r f) [
    | inl g ↦ found_extract g.0 (begins ∙ ap (λ l. codes "/" ++ l) g.1) g.2
    | inr g ↦ found_uprn rest begins g
  ]

  found_on_slash : (rest : List ℕ) → target ≡ codes "/" ++ rest → first on_slash rest ≡ Some r → IsFound target r
  found_on_slash rest begins f = elim (part_found 99 [] on_c not_c refl refl refl rest r f) [
    | inl g ↦ found_on_c g.0 (begins ∙ ap (λ l. codes "/" ++ l) g.1) g.2
    | inr g ↦ found_not_c rest begins g
  ]

  pub found_is : IsFound target r
  found_is =
      let (rest, begins, found) = bytes_found (codes "/") on_slash target r refl e in
      found_on_slash rest begins found
