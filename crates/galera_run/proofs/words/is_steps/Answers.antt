use Rattle.std.proofs.Common.{◌≡◌, ◌<◌, ◌≤◌, ◌∙◌, ap, ℕ, List, [], ◌∷◌, length, get_or, map, string_bytes, codes, Bool, arith, Global, String}
use Rattle.std.specs.Bool.{Decides}
use Rattle.std.specs.Str.{bytes_eq}
use Rattle.std.proofs.lemmas.Bool.Decides.{Decides-at, Decides-like}
use Rattle.std.proofs.lemmas.Slice.Eq.{bytes_eq-Decides}
use Rattle.galera_run.proofs.words.is_steps.Goals as goal

-- a list of one word is the word
only_word : (words : List (String Global)) (word : String Global) (text : List ℕ) (same : Bool) → 1 ≤ length words →
    length words < 2 → word ≡ get_or words 0 word → same ≡ bytes_eq (string_bytes word) text →
    Decides same (map string_bytes words ≡ text ∷ [])
only_word [] word text same some few is e = absurd (omega arith)
only_word (x ∷ y ∷ ys) word text same some few is e = absurd (omega arith)
only_word (x ∷ []) word text same some few is e =
    Decides-like same
    (λ (h : string_bytes x ≡ text). ap (λ (z : List ℕ). let l : List (List ℕ) = z ∷ [] in l) h)
    (λ (h : string_bytes x ∷ [] ≡ text ∷ []). cc)
    (Decides-at same (bytes_eq (string_bytes x) text) (e ∙ ap (λ w. bytes_eq (string_bytes w) text) is)
    (bytes_eq-Decides (string_bytes x) text))

pub returns-in-len1 : goal.returns-in-len1
returns-in-len1 c =
    only_word c.args.words.now c.word-item.result (codes "steps") c.eq.result c.in-len1.len_at_least c.in-len1.len_below c.word-item.is
    (c.eq.ensures ∙ ap (λ z. bytes_eq z (codes "steps")) c.as_str.ensures.value)
