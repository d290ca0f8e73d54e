use Rattle.gaz_register.specs.Texts.{register_text}
use Rattle.gaz_stored.proofs.attending.serve_opened.Given as goal

abbrev pub ghosts-attend_over : goal.ghosts-attend_over
ghosts-attend_over g a = record { text = register_text a.register }
