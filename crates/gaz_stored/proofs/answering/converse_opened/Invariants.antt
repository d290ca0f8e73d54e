use Rattle.gaz_register.specs.Texts.{register_text}
use Rattle.gaz_stored.proofs.answering.converse_opened.Given as goal

abbrev pub ghosts-converse_over : goal.ghosts-converse_over
ghosts-converse_over g a = record { text = register_text a.register }
