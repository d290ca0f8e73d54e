-- Texts that grow by a block or a row.
use Rattle.std.proofs.Common.{◌≡◌, ℕ, ◌+◌, ◌<◌, List, [], ◌∷◌, ◌++◌, length, map, take, get_or, refl, sym, ◌∙◌, arith, add-one, append_assoc}
use Rattle.std.specs.List.{join_with_byte}
use Rattle.std.proofs.lemmas.List.{take_more, map_push, length-map, length-take-le, append-nil}
use Rattle.csv.specs.Writing.{is_blank}
use Rattle.gaz_rows.specs.Rows.{Fields, line_of, lines_of}
use Rattle.gaz_register.specs.Registers.{CustodianValue, RegisterValue}
use Rattle.gaz_register.specs.Texts.{block_text, blocks_text, register_text, row_of}

join-push : (c : ℕ) (ps : List (List ℕ)) (p : List ℕ) → 0 < length ps → join_with_byte c (ps ++ p ∷ []) ≡ join_with_byte c ps ++ (c ∷ p)
join-push c [] p h = absurd (omega arith)
join-push c (q ∷ []) p h = refl
join-push c (q ∷ r ∷ rs) p h = rw (join-push c (r ∷ rs) p (omega arith)) (sym (append_assoc q (c ∷ join_with_byte c (r ∷ rs)) (c ∷ p)))

-- one more block
pub blocks_text-more : (bs : List (ℕ × ℕ)) (i : ℕ) (d : ℕ × ℕ) → 0 < i → i < length bs → blocks_text (take (i + 1) bs) ≡ blocks_text (take i bs) ++ (32 ∷ block_text (get_or bs i d))
blocks_text-more bs i d h k =
    rw (take_more bs i d k, map_push block_text (take i bs) (get_or bs i d))
    (join-push 32 (map block_text (take i bs)) (block_text (get_or bs i d)) (some (length-map (take i bs) block_text ∙ length-take-le i bs (omega arith))))
  where
    some : length (map block_text (take i bs)) ≡ i → 0 < length (map block_text (take i bs))
    some e = omega arith

lines_of-push : (rows : List Fields) (x y : List ℕ) (ys : Fields) → lines_of (rows ++ (x ∷ y ∷ ys) ∷ []) ≡ (lines_of rows ++ line_of (x ∷ y ∷ ys)) ++ 10 ∷ []
unfolding lines_of is_blank
lines_of-push [] x y ys = append-nil _
lines_of-push (row ∷ rows) x y ys = rw (lines_of-push rows x y ys) (simp append_assoc)

-- one more custodian
pub register_text-more : (cs : RegisterValue) (i : ℕ) (d : CustodianValue) → i < length cs
    → register_text (take (i + 1) cs) ≡ (register_text (take i cs) ++ line_of (row_of (get_or cs i d))) ++ 10 ∷ []
register_text-more cs i d h =
    rw (take_more cs i d h, map_push row_of (take i cs) (get_or cs i d)) (lines_of-push (map row_of (take i cs)) _ _ _)

-- an item behind the first
pub get_or-behind : {X : Type 0} (xs : List X) (x : X) (rest : List X) (i : ℕ) (d : X) → xs ≡ x ∷ rest → get_or rest i d ≡ get_or xs (i + 1) d
get_or-behind xs x rest i d e = rw (e, add-one) refl
