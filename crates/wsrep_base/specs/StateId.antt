-- ids of states, seen as the sixteen bytes of a UUID
use Rattle.std.specs.Prelude.{ℕ, List, replicate, Option, Some, None, option_and_then, if◌then◌else◌}
use Rattle.std.specs.Str.{bytes_eq}
use Rattle.uuid.specs.Text.{parsed}

-- the id of a node that joined fresh
abbrev pub nil_id : List ℕ
nil_id = replicate 16 0

abbrev pub not_nil : List ℕ → Option (List ℕ)
not_nil id = if bytes_eq id nil_id then None else Some id

-- what a text says: a UUID in any of its forms that is not nil
unfoldable pub id_of : List ℕ → Option (List ℕ)
id_of text = option_and_then not_nil (parsed text)
