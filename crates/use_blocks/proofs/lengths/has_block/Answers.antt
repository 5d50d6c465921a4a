use Rattle.std.{proofs.Common.{◌∙◌, ℕ, List, ap}, specs.Prelude.is_some, specs.Map.lookup}
use Rattle.definitions.specs.Characters.{same_text}
use Rattle.use_blocks.proofs.ReachLaws.{has_name-shown}
use Rattle.use_blocks.proofs.lengths.has_block.Goals as goal

pub returns : goal.returns
returns c =
    let entries = c.args.words.now.entries in
    c.contains_key.ensures
    ∙ ap (λ (n : List ℕ). is_some (lookup (same_text n) entries)) c.new.ensures
    ∙ has_name-shown c.args.name.now entries
