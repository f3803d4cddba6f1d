use Rattle.certification.proofs.indexed.Indexed.conflict.Given as goal

-- the counter is that of the blank that was made
abbrev pub ghosts-conflicting : goal.ghosts-conflicting
ghosts-conflicting a = record { name = a.blank.name; parts = a.blank.parts }
