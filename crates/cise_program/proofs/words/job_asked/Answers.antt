use Rattle.std.proofs.Common.{string_bytes, ap, sym, ◌∙◌}
use Rattle.cise_program.specs.Words.{job_of_three, job_of_four}
use Rattle.cise_program.proofs.Jobs.{three_words, four_words}
use Rattle.cise_program.proofs.words.job_asked.Goals as goal

pub returns-in-len3 : goal.returns-in-len3
returns-in-len3 c =
    let command = c.command-item-then-words-lt4 in
    c.job_of_three.ensures ∙ ap job_of_three c.as_str-in-len3.ensures.value
    ∙ sym (three_words string_bytes c.args.words.now command.result c.in-len3.len_at_least c.in-len3.len_below command.is)

pub returns-in-len4 : goal.returns-in-len4
returns-in-len4 c =
    let command = c.command-item-then-words-lt5 in let option = c.option-item in let word = c.word-item-then-words-lt5 in
    c.job_of_four.ensures
    ∙ ap (λ b. job_of_four b c.as_str-in-len4-2.result.now c.as_str-in-len4-3.result.now) c.as_str-in-len4.ensures.value
    ∙ ap (λ b. job_of_four (string_bytes command.result) b c.as_str-in-len4-3.result.now) c.as_str-in-len4-2.ensures.value
    ∙ ap (λ b. job_of_four (string_bytes command.result) (string_bytes option.result) b) c.as_str-in-len4-3.ensures.value
    ∙ sym (four_words string_bytes c.args.words.now command.result option.result word.result c.in-len4.len_at_least c.in-len4.len_below command.is option.is word.is)
