use Rattle.cert_index.proofs.index.Index.dependency.Given as goal

-- the counter is that of the blank that was made
abbrev pub ghosts-touched : goal.ghosts-touched
ghosts-touched a = record { name = a.blank.name; parts = a.blank.parts }
