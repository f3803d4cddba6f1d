-- the words that the program is given
use Rattle.std.specs.Prelude.{List, [], drop, Result, Ok, Err}
use Rattle.std.specs.Vec.Iter.{into_iter_items}
use Rattle.std.specs.declared.vec.IntoIter.{IntoIter}
use Rattle.std.specs.declared.io.Error.{Error}

-- those behind the program's name, or none where one is not UTF-8
abbrev pub words_behind : {X Z : Type 0} → Result (IntoIter X Z) Error → List X
words_behind (Ok given) = drop 1 (into_iter_items given)
words_behind (Err fault) = []
