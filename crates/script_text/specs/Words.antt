-- the end of a line, and the words of its text
use Rattle.std.specs.Prelude.{ℕ, Bool, true, false, ◌-◌, ◌==◌, ◌||◌, List, [], ◌∷◌, length, take, slice_index, Option, Some, None, option_and_then, codes, if◌then◌else◌}
use Rattle.std.specs.List.{filter, slice_split}
use Rattle.std.specs.Str.{bytes_eq}
use Prim.Native.String.{String}

-- a line without the newline that ends it, which the last line of an input may lack
abbrev pub without_newline : List ℕ → List ℕ
without_newline line =
    if slice_index line (length line - 1) == 10 then take (length line - 1) line else line

-- the bytes before a newline, without one carriage return at their end
abbrev pub without_return : List ℕ → List ℕ
without_return text =
    if slice_index text (length text - 1) == 13 then take (length text - 1) text else text

-- what a line says: a carriage return is dropped before a newline alone
unfoldable pub text_of : List ℕ → List ℕ
text_of line =
    if slice_index line (length line - 1) == 10 then without_return (without_newline line) else line

-- a space or a tab
abbrev pub is_blank : ℕ → Bool
is_blank b = b == 32 || b == 9

abbrev pub is_filled : List ℕ → Bool
is_filled [] = false
is_filled (b ∷ bs) = true

-- the parts between the blanks, without the empty ones
unfoldable pub words_of : List ℕ → List (List ℕ)
words_of text = filter is_filled (slice_split is_blank text)

infix 4 ◌is◌
abbrev pub ◌is◌ : List ℕ → String → Bool
word is text = bytes_eq word (codes text)

infixl 10 ◌>>=◌
abbrev pub ◌>>=◌ : {A B : Type 0} → Option A → (A → Option B) → Option B
o >>= f = option_and_then f o

-- the value, if no word is left
abbrev pub alone : {X : Type 0} → X → List (List ℕ) → Option X
alone x [] = Some x
alone x (word ∷ words) = None
