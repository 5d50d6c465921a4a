-- That a word which begins no command is shown whole.
use Rattle.std.{proofs.Common.{◌≡◌, ℕ, ◌-◌, List, ◌++◌, codes, length, refl, ap}, specs.Prelude.replicate, proofs.lemmas.List.take_at}
use Rattle.session_commands.specs.{declared.refusals.Refusal.TheVariants.UnknownCommand, UnknownWords.told_word, Refusals.refusal_text}

-- the refusal of a word has that word behind its name, and nothing else
pub told-whole : (word : List ℕ) → refusal_text (UnknownCommand (told_word word)) ≡ codes "UnknownCommand " ++ word
told-whole word = ap (λ (text : List ℕ). codes "UnknownCommand " ++ text) (take_at word (replicate (16 - length word) 0) (length word) refl)
