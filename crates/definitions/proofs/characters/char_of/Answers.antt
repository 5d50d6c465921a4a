use Rattle.std.proofs.Common.{rules}
use Rattle.definitions.proofs.CharacterLaws.{display_code_of-character_of}
use Rattle.definitions.proofs.characters.char_of.Goals as goal

pub returns-clause-back : goal.returns-clause-back
returns-clause-back c = display_code_of-character_of _ c.args.code (search rules) c.requires
