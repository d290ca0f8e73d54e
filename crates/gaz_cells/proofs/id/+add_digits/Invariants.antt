use Rattle.gaz_cells.proofs.id.+add_digits.Given as goal

abbrev pub decreases-add_digits : goal.decreases-add_digits
decreases-add_digits l = l.width
