-- Rows of kind 92 in turn, and what they say.
use Rattle.std.proofs.Common.{◌≡◌, ◌<◌, ◌+◌, ◌++◌, ℕ, List, [], ◌∷◌, length, slice_index_or, subst, sym, take}
use Rattle.sqlite.specs.Order.{Row}
use Rattle.gaz_loaded.specs.declared.listed.Passage.{Passage}
use Rattle.gaz_answers.specs.Passages.{SayPassages, SaysPassage}
use Rattle.gaz_answers.proofs.LifeRows.{taken_next}

say_more : (rows : List Row) (row : Row) (xs : List Passage) (x : Passage) → SayPassages rows xs → SaysPassage row x → SayPassages (rows ++ row ∷ []) (xs ++ x ∷ [])
say_more [] row [] x say it = (it, tt)
say_more [] row (y ∷ xs) x say it = absurd say
say_more (r ∷ rows) row [] x say it = absurd say
say_more (r ∷ rows) row (y ∷ xs) x say it = (say.0, say_more rows row xs x say.1 it)

-- what the next row says comes behind what those before it said
pub say_next : (rows : List Row) (i : ℕ) (row : Row) (x : Passage) (xs : List Passage) → i < length rows → row ≡ slice_index_or rows i row → SaysPassage row x → SayPassages (take i rows) xs → SayPassages (take (i + 1) rows) (xs ++ x ∷ [])
say_next rows i row x xs inside is says so = subst (λ l. SayPassages l (xs ++ x ∷ [])) (sym (taken_next rows i row inside is)) (say_more (take i rows) row xs x so says)
