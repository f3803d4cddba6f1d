-- The first word of a text: it begins at the first byte that is no blank, and ends at the next blank.
use Rattle.std.proofs.Common.{◌≡◌, ℕ, suc, get_or, ◌+◌, ◌<◌, ◌≤◌, Bool, true, false, cond, ltb, List, [], ◌∷◌, length, take, drop, Some, None, refl, sym, ap, subst, ◌∙◌, arith, take_all}
use Rattle.std.specs.Prelude.{not}
use Rattle.std.specs.List.{position, position_or_len, filter}
use Rattle.std.proofs.lemmas.List.{drop_all, drop_more}
use Rattle.std.proofs.lemmas.List.Splits.{slice_split-cons_yes, slice_split_first, slice_split_none}
use Rattle.std.proofs.lemmas.List.Sums.{fails_before_first, passes_at_first}
use borrow.Author.Tests.{ltb-true, ltb-false}
use Rattle.script_text.specs.Words.{is_blank, is_filled, words_of}

found_at : (b : Bool) (n at : ℕ) → cond b (Some n) None ≡ Some at → (b ≡ true) × (n ≡ at)
found_at true n at e = (refl, cc)
found_at false n at e = absurd cc

found_none : (b : Bool) (n : ℕ) → cond b (Some n) None ≡ None → b ≡ false
found_none true n e = absurd cc
found_none false n e = refl

-- no blank
abbrev is_mark : ℕ → Bool
is_mark b = not (is_blank b)

-- how many blanks stand before the first word
abbrev blanks : List ℕ → ℕ
blanks text = position_or_len is_mark text

abbrev pub word_len : List ℕ → ℕ
word_len text = position_or_len is_blank text

-- the word that the text begins with, and the words behind it
abbrev cut : List ℕ → List (List ℕ)
cut text = take (word_len text) text ∷ words_of (drop (word_len text) text)

skips : (b : ℕ) (bs : List ℕ) → is_blank b ≡ true → words_of (b ∷ bs) ≡ words_of bs
unfolding words_of
skips b bs e = ap (filter is_filled) (slice_split-cons_yes is_blank b bs e)

blanks-yes : (b : ℕ) (bs : List ℕ) → is_blank b ≡ true → blanks (b ∷ bs) ≡ suc (blanks bs)
blanks-yes b bs e = ap (λ c. cond (not (not c)) (1 + blanks bs) 0) e ∙ omega arith

blanks-no : (b : ℕ) (bs : List ℕ) → is_blank b ≡ false → blanks (b ∷ bs) ≡ 0
blanks-no b bs e = ap (λ c. cond (not (not c)) (1 + blanks bs) 0) e

-- a word ends at the next blank, or with the text
cut_here : (text : List ℕ) (c : Bool) → ltb (word_len text) (length text) ≡ c → is_filled (take (word_len text) text) ≡ true
    → words_of text ≡ cut text
unfolding words_of
cut_here text true e filled =
    let inside = ltb-true (word_len text) (length text) e in
    let rest = drop (word_len text + 1) text in
    let behind : words_of (drop (word_len text) text) ≡ words_of rest =
    ap words_of (drop_more text (word_len text) 0 inside) ∙ skips (get_or text (word_len text) 0) rest (passes_at_first is_blank text 0 inside) in
    ap (filter is_filled) (slice_split_first is_blank text 0 inside)
    ∙ ap (λ c. cond c (take (word_len text) text ∷ words_of rest) (words_of rest)) filled
    ∙ ap (λ l. take (word_len text) text ∷ l) (sym behind)
cut_here text false e filled =
    let outside : length text ≤ word_len text = ltb-false (word_len text) (length text) e in
    let all = take_all (word_len text) text outside in
    let one = slice_split_none is_blank text (λ k d below. fails_before_first is_blank text k d (omega arith)) in
    ap (filter is_filled) one
    ∙ ap (λ c. cond c (text ∷ []) []) (ap is_filled (sym all) ∙ filled)
    ∙ ap (λ l. l ∷ []) (sym all)
    ∙ ap (λ l. take (word_len text) text ∷ words_of l) (sym (drop_all (word_len text) text outside))

word_is_filled : (b : ℕ) (bs : List ℕ) → is_blank b ≡ false → is_filled (take (word_len (b ∷ bs)) (b ∷ bs)) ≡ true
word_is_filled b bs e =
    let more : word_len (b ∷ bs) ≡ suc (word_len bs) = ap (λ c. cond (not c) (1 + word_len bs) 0) e ∙ omega arith in
    ap (λ n. is_filled (take n (b ∷ bs))) more

from_mark : (text : List ℕ) (at : ℕ) → blanks text ≡ at → at < length text → words_of text ≡ cut (drop at text)
from_mark [] at e l = absurd (omega arith)
from_mark (b ∷ bs) at e l = by_case (λ inside. from_mark bs (blanks bs) refl inside) (is_blank b) refl
  where
    by_case : (blanks bs < length bs → words_of bs ≡ cut (drop (blanks bs) bs)) → (c : Bool) → is_blank b ≡ c
        → words_of (b ∷ bs) ≡ cut (drop at (b ∷ bs))
    by_case later true blank =
        let on = blanks-yes b bs blank in
        let inside : blanks bs < length bs = omega arith in
        subst (λ k. words_of (b ∷ bs) ≡ cut (drop k (b ∷ bs))) (sym on ∙ e) (skips b bs blank ∙ later inside)
    by_case later false mark =
        subst (λ k. words_of (b ∷ bs) ≡ cut (drop k (b ∷ bs))) (sym (blanks-no b bs mark) ∙ e)
        (cut_here (b ∷ bs) _ refl (word_is_filled b bs mark))

no_mark : (text : List ℕ) → length text ≤ blanks text → words_of text ≡ []
unfolding words_of
no_mark [] l = refl
no_mark (b ∷ bs) l = by_case (λ outside. no_mark bs outside) (is_blank b) refl
  where
    by_case : (length bs ≤ blanks bs → words_of bs ≡ []) → (c : Bool) → is_blank b ≡ c → words_of (b ∷ bs) ≡ []
    by_case later true blank =
        let on = blanks-yes b bs blank in skips b bs blank ∙ later (omega arith)
    by_case later false mark = let none = blanks-no b bs mark in absurd (omega arith)

pub first_word : (text : List ℕ) (at : ℕ) → Some at ≡ position is_mark text → words_of text ≡ cut (drop at text)
first_word text at e =
    let found = found_at (ltb (blanks text) (length text)) (blanks text) at (sym e) in
    from_mark text at found.1 (let l = ltb-true (blanks text) (length text) found.0 in omega arith)

pub no_word : (text : List ℕ) → None ≡ position is_mark text → words_of text ≡ []
no_word text e = no_mark text (ltb-false (blanks text) (length text) (found_none _ _ (sym e)))
