use Rattle.std.proofs.Common.{◌∷◌, ◌-◌, length, take, drop, sym, ap, ◌∙◌, arith, take_all, length-drop}
use Rattle.script_text.specs.Words.{words_of}
use Rattle.script_text.proofs.WordLemmas.{word_len, first_word, no_word}
use Rattle.script_text.proofs.words.cut_word.Goals as goal

pub returns-in-Some : goal.returns-in-Some
returns-in-Some c =
    let text = c.args.text.now in
    let at = c.in-Some.start in
    let all = take_all (length text - at) (drop at text) (omega (arith, length-drop at text)) in
    let count = c.word_len.ensures.count ∙ ap word_len all in
    let word = c.split_at.ensures.front ∙ ap (take c.word_len.result) all ∙ ap (λ n. take n (drop at text)) count in
    let rest = c.split_at.ensures.back ∙ ap (drop c.word_len.result) all ∙ ap (λ n. drop n (drop at text)) count in
    first_word text at c.in-Some.ensures
    ∙ ap (λ l. l ∷ words_of (drop (word_len (drop at text)) (drop at text))) (sym word)
    ∙ ap (λ l. c.split_at.result.0.now ∷ words_of l) (sym rest)

pub returns-in-None : goal.returns-in-None
returns-in-None c = no_word c.args.text.now c.in-None.ensures
